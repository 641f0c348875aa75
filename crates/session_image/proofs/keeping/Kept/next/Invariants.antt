use Rattle.std.proofs.Common.{◌≡◌}
use Rattle.session_image.specs.Keeping.{left_of, weight, IsReady}
use Rattle.session_image.proofs.keeping.Kept.next.Given as goal

abbrev pub invariant-loop-piece : goal.invariant-loop-piece
invariant-loop-piece l = record {
  ready : IsReady l.self;
  left : left_of l.self ≡ left_of l.initial.self;
}

abbrev pub decreases-loop-piece : goal.decreases-loop-piece
decreases-loop-piece l = weight l.self
