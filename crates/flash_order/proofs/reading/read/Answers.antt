use Rattle.std.proofs.Common.{rules}
use Rattle.serde_json.specs.View.{view}
use Rattle.flash_order.proofs.Steps.{order_of-value, order_of-none}
use Rattle.flash_order.proofs.reading.read.Goals as goal

pub returns-in-Ok-clause-is : goal.returns-in-Ok-clause-is
returns-in-Ok-clause-is c = search (rules, order_of-value c.args.bytes.now (view c.in-Ok.value))

pub returns-in_default-clause-is : goal.returns-in_default-clause-is
returns-in_default-clause-is c = search (rules, order_of-none c.args.bytes.now)
