use Rattle.std.proofs.Common.{◌++◌, ℕ, List, take, flat_map}
use Rattle.sha2.specs.Hashers.{Holds256}
use Rattle.flash_plan.specs.Canonical.{segment_bytes}
use Rattle.flash_plan.proofs.digesting.feed_segments.Given as goal

abbrev pub invariant-loop-segment : goal.invariant-loop-segment
invariant-loop-segment l = (m : List ℕ) → Holds256 l.initial.hasher m → Holds256 l.hasher (m ++ flat_map segment_bytes (take l.segment-index l.segment-items))
