use Rattle.std.proofs.Common.{◌≡◌, drop}
use Rattle.serde_json.specs.View.{items_view}
use Rattle.flash_base.specs.Lists.{Each}
use Rattle.flash_order.specs.Lists.{each_of, wanted}
use Rattle.flash_order.specs.Promises.{IsAsked}
use Rattle.flash_order.proofs.Steps.{joined}
use Rattle.flash_order.proofs.lists.idents_in.Given as goal

abbrev pub invariant-loop-i : goal.invariant-loop-i
invariant-loop-i l = record {
  is : each_of wanted (items_view l.list) ≡ joined l.found (each_of wanted (items_view (drop l.i l.list)));
  form : Each IsAsked l.found;
}
