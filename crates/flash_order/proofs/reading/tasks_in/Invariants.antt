use Rattle.std.proofs.Common.{◌≡◌, drop, length}
use Rattle.serde_json.specs.View.{items_view}
use Rattle.flash_base.specs.Lists.{Each}
use Rattle.flash_order.specs.Orders.{tasks_from}
use Rattle.flash_order.specs.Promises.{IsTask}
use Rattle.flash_order.proofs.Steps.{behind}
use Rattle.flash_order.proofs.reading.tasks_in.Given as goal

abbrev pub invariant-loop-i : goal.invariant-loop-i
invariant-loop-i l = record {
  is : tasks_from 0 (items_view l.list) ≡ behind l.found (tasks_from l.i (items_view (drop l.i l.list)));
  count : length l.found ≡ l.i;
  form : Each IsTask l.found;
}
