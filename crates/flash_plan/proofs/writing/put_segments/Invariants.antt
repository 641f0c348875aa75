use Rattle.std.proofs.Common.{◌≡◌, ◌++◌, take, flat_map}
use Rattle.flash_plan.specs.Canonical.{segment_bytes}
use Rattle.flash_plan.proofs.writing.put_segments.Given as goal

abbrev pub invariant-loop-segment : goal.invariant-loop-segment
invariant-loop-segment l = l.out ≡ l.initial.out ++ flat_map segment_bytes (take l.segment-index l.segment-items)
