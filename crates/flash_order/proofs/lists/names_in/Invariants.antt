use Rattle.std.proofs.Common.{◌≡◌, drop}
use Rattle.serde_json.specs.View.{items_view}
use Rattle.flash_order.specs.Fields.{task_name}
use Rattle.flash_order.specs.Lists.{each_of}
use Rattle.flash_order.proofs.Steps.{joined}
use Rattle.flash_order.proofs.lists.names_in.Given as goal

abbrev pub invariant-loop-i : goal.invariant-loop-i
invariant-loop-i l = each_of task_name (items_view l.list) ≡ joined l.found (each_of task_name (items_view (drop l.i l.list)))
