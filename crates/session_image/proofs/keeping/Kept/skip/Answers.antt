use Rattle.std.proofs.Common.{◌∙◌, ◌+◌, ℕ, List, ap, arith}
use Rattle.std.specs.FinMap.{retain_keys}
use Rattle.span_store.specs.ByteMap.{over}
use Rattle.session_image.specs.Keeping.{keeps}
use Rattle.session_image.proofs.Chosen.{skipped}
use Rattle.session_image.proofs.keeping.Kept.skip.Goals as goal

pub returns-clause-step : goal.returns-clause-step
returns-clause-step c =
    let k = c.args.self.now in
    let n : ℕ = c.args.n in (
      ap (λ (l : List ℕ). retain_keys (over k.rest (k.at + n) l) (keeps k.all k.ranges.now)) c.split_at.ensures.back
          ∙ skipped k.rest k.at n k.bytes.now (keeps k.all k.ranges.now) c.requires.within c.requires.dropped,
      omega (arith, c.split_at.ensures.back_len, c.requires.some),
    )
