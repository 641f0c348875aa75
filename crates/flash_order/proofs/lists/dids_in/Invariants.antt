use Rattle.std.proofs.Common.{◌≡◌, ◌<◌}
use Rattle.serde_json.specs.View.{members_view}
use Rattle.flash_base.specs.Lists.{Each}
use Rattle.flash_order.specs.Lists.{dids_of}
use Rattle.flash_order.proofs.Steps.{joined}
use Rattle.flash_order.proofs.lists.dids_in.Given as goal

abbrev pub invariant-loop-name : goal.invariant-loop-name
invariant-loop-name l = record {
  is : dids_of (members_view l.map.entries) ≡ joined l.found (dids_of (members_view l.name-iterator));
  small : Each (λ d. d.1 < 65536) l.found;
}
