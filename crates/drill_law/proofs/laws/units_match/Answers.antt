use Rattle.drill_law.proofs.Matched.{units_match}
use Rattle.drill_law.proofs.VehicleTexts.{vehicle_is_read}
use Rattle.drill_law.proofs.laws.units_match.Goals as goal

pub returns-clause-read : goal.returns-clause-read
returns-clause-read c = λ n text few t. vehicle_is_read n text t

pub returns-clause-matching : goal.returns-clause-matching
returns-clause-matching c = λ n v few are. units_match n v are
