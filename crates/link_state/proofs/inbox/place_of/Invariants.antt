use Rattle.std.proofs.Common.{◌≡◌, drop}
use Rattle.run_model.specs.Link.{is_known}
use Rattle.link_state.proofs.inbox.place_of.Given as goal

abbrev pub invariant-loop-i : goal.invariant-loop-i
invariant-loop-i l = is_known (drop l.i l.units.items) l.address ≡ is_known l.units.items l.address
