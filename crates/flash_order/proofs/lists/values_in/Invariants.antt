use Rattle.std.proofs.Common.{◌≡◌, ◌≤◌, drop, length}
use Rattle.serde_json.specs.View.{items_view}
use Rattle.flash_base.specs.Lists.{Each}
use Rattle.flash_order.specs.Lists.{each_of, value}
use Rattle.flash_order.proofs.Steps.{joined}
use Rattle.flash_order.proofs.lists.values_in.Given as goal

abbrev pub invariant-loop-i : goal.invariant-loop-i
invariant-loop-i l = record {
  is : each_of value (items_view l.list) ≡ joined l.found (each_of value (items_view (drop l.i l.list)));
  filled : Each (λ b. 1 ≤ length b) l.found;
}
