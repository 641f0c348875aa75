use Rattle.drill_law.proofs.Starts.{empty_matches, empty_opens, empty_sound}
use Rattle.drill_law.proofs.laws.drills_start_well.Goals as goal

pub returns-clause-opens : goal.returns-clause-opens
returns-clause-opens c = empty_opens

pub returns-clause-sound : goal.returns-clause-sound
returns-clause-sound c = empty_sound

pub returns-clause-matching : goal.returns-clause-matching
returns-clause-matching c = λ n v few are. empty_matches n v are
