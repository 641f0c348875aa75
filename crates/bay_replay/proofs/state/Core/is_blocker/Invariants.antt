use Rattle.std.proofs.Common.{◌≡◌, drop}
use Rattle.bay_replay.specs.Hears.{blocker}
use Rattle.bay_replay.proofs.state.Core.is_blocker.Given as goal

abbrev pub invariant-loop-i : goal.invariant-loop-i
invariant-loop-i l = blocker l.self.board (drop l.i l.units) l.by ≡ blocker l.self.board l.units l.by
