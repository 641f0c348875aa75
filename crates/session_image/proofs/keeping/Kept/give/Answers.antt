use Rattle.std.proofs.Common.{◌+◌, ℕ, List, Some, sym, subst, take}
use Rattle.std.specs.FinMap.{retain_keys}
use Rattle.span_store.specs.ByteMap.{over}
use Rattle.span_store.specs.Walks.{TakesFront}
use Rattle.session_image.specs.Keeping.{keeps, left_of}
use Rattle.session_image.proofs.Chosen.{given_front}
use Rattle.session_image.proofs.keeping.Kept.give.Goals as goal

pub returns-clause-step : goal.returns-clause-step
returns-clause-step c =
    let k = c.args.self.now in
    let n : ℕ = c.args.n in
    subst (λ (l : List ℕ). TakesFront (left_of k) (Some (k.at, l)) (retain_keys (over k.rest (k.at + n) c.split_at.result.1.now) (keeps k.all k.ranges.now))) (sym c.split_at.ensures.front)
    (subst (λ (l : List ℕ). TakesFront (left_of k) (Some (k.at, take n k.bytes.now)) (retain_keys (over k.rest (k.at + n) l) (keeps k.all k.ranges.now))) (sym c.split_at.ensures.back)
    (given_front k.rest k.at n k.bytes.now (keeps k.all k.ranges.now) c.requires.some c.requires.within c.requires.ready.ends c.requires.ready.behind c.requires.kept))
