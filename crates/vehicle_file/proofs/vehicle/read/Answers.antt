use Rattle.std.proofs.Common.{rules}
use Rattle.serde_json.specs.View.{view}
use Rattle.vehicle_file.proofs.Steps.{formed, vehicle_of-value, vehicle_of-none}
use Rattle.vehicle_file.proofs.vehicle.read.Goals as goal

pub returns-in-Ok-clause-is : goal.returns-in-Ok-clause-is
returns-in-Ok-clause-is c = search (rules, vehicle_of-value c.args.bytes.now (view c.in-Ok.value))

pub returns-in-Ok-clause-form : goal.returns-in-Ok-clause-form
returns-in-Ok-clause-form c = formed c.args.bytes.now _ (returns-in-Ok-clause-is c)

pub returns-in_default-clause-is : goal.returns-in_default-clause-is
returns-in_default-clause-is c = search (rules, vehicle_of-none c.args.bytes.now)
