use Rattle.std.proofs.Common.{◌∙◌, ap, ◌++◌}
use Rattle.flash_plan.specs.Canonical.{segment_bytes}
use Rattle.flash_plan.proofs.Writes.{step}
use Rattle.flash_plan.proofs.writing.put_segments.Goals as goal

pub loop-segment-preserved : goal.loop-segment-preserved
loop-segment-preserved c = step segment_bytes c.args.out.now c.loop-segment.out c.put_segment.new.out c.as_slice-segment-items.result.now c.loop-segment.segment-index c.segment-item.result
    c.loop-segment-test.true c.loop-segment.invariant (c.in_ok-put_segment.ensures ∙ ap (λ s. c.loop-segment.out ++ segment_bytes s) c.segment-item.is)
