use Rattle.std.proofs.Common.{◌≡◌, take}
use Rattle.bay_core.specs.Core.{addresses_of}
use Rattle.bay_replay.proofs.links.addresses.Given as goal

abbrev pub invariant-loop-n : goal.invariant-loop-n
invariant-loop-n l = l.all.items ≡ addresses_of (take l.n l.plan)
