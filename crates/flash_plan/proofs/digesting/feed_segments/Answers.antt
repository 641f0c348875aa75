use Rattle.std.proofs.Common.{◌++◌, flat_map, take}
use Rattle.sha2.specs.Hashers.{Holds256}
use Rattle.flash_plan.specs.Canonical.{segment_bytes}
use Rattle.flash_plan.proofs.Writes.{fed_more, fed_whole}
use Rattle.flash_plan.proofs.digesting.feed_segments.Goals as goal

pub loop-segment-preserved : goal.loop-segment-preserved
loop-segment-preserved c =
    let xs = c.as_slice-segment-items.result.now in
    λ m h.
    fed_more (Holds256 c.feed_segment.new.hasher) segment_bytes m xs c.loop-segment.segment-index c.segment-item.result c.loop-segment-test.true c.segment-item.is
    (c.in_ok-feed_segment.ensures (m ++ flat_map segment_bytes (take c.loop-segment.segment-index xs)) (c.loop-segment.invariant m h))
