use Rattle.std.proofs.Common.{take}
use Rattle.run_model.specs.Link.{Link, see_all}
use Rattle.link_state.specs.State.{ShowsBody, SameButLoss, tester_of, units_of}
use Rattle.link_state.proofs.state.LinkState.see_frames.Given as goal

abbrev pub invariant-loop-i : goal.invariant-loop-i
invariant-loop-i l = record {
  rest : SameButLoss l.initial.self l.self;
  shows : (k : Link) → ShowsBody l.initial.self k → ShowsBody l.self (see_all (tester_of l.initial.self) (units_of l.initial.self) (take l.i l.frames) k);
}
