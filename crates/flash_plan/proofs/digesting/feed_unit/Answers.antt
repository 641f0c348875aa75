use Rattle.std.proofs.Common.{◌∙◌, ◌++◌, ap, flat_map, refl}
use Rattle.sha2.specs.Hashers.{Holds256}
use Rattle.flash_plan.specs.Canonical.{segment_bytes, unit_front}
use Rattle.flash_plan.proofs.Writes.{fed}
use Rattle.flash_plan.proofs.digesting.feed_unit.Goals as goal

pub returns : goal.returns
returns c =
    let u = c.args.unit.now in
    let more = flat_map segment_bytes u.segments in
    λ m h.
    fed (Holds256 c.feed_segments.new.hasher) m (unit_front u) more c.as_slice.result.now more
    (c.as_slice.ensures ∙ c.in_ok-put_front.ensures ∙ ap (λ x. x ++ unit_front u) c.new-front.ensures) refl
    (c.in_ok-feed_segments.ensures (m ++ c.as_slice.result.now) (c.update.ensures m h))
