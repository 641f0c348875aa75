use Rattle.std.proofs.Common.{◌∙◌, ◌++◌, ap}
use Rattle.sha2.specs.Hashers.{Holds256}
use Rattle.flash_plan.specs.Canonical.{segment_head}
use Rattle.flash_plan.proofs.Writes.{fed}
use Rattle.flash_plan.proofs.digesting.feed_segment.Goals as goal

pub returns : goal.returns
returns c =
    let s = c.args.segment.now in
    λ m h.
    fed (Holds256 c.update-2.new.self) m (segment_head s) s.body c.as_slice.result.now c.as_slice-2.result.now
    (c.as_slice.ensures ∙ c.in_ok-put_segment_head.ensures ∙ ap (λ x. x ++ segment_head s) c.new-head.ensures) c.as_slice-2.ensures
    (c.update-2.ensures (m ++ c.as_slice.result.now) (c.update.ensures m h))
