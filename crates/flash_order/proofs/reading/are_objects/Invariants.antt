use Rattle.std.proofs.Common.{◌≡◌, drop}
use Rattle.serde_json.specs.View.{items_view}
use Rattle.flash_order.specs.Orders.{are_objects}
use Rattle.flash_order.proofs.reading.are_objects.Given as goal

abbrev pub invariant-loop-i : goal.invariant-loop-i
invariant-loop-i l = are_objects (items_view l.list) ≡ are_objects (items_view (drop l.i l.list))
