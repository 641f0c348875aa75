use Rattle.std.proofs.Common.{◌≡◌, ◌∙◌, ◌+◌, ℕ, List, [], ◌∷◌, Bool, false, length, ap, sym, subst, arith}
use Rattle.std.specs.FinMap.{empty, retain_keys}
use Rattle.span_store.specs.ByteMap.{ByteMap, over}
use Rattle.session_image.specs.Filtering.{Apart}
use Rattle.session_image.specs.Keeping.{keeps}
use Rattle.session_image.proofs.Chosen.{Apart_less, before_hand, no_range_left, none_keeps, passed_range}
use Rattle.session_image.proofs.keeping.Kept.step.Goals as goal

nothing_kept : (m : ByteMap) (all : Bool) (rs : List (ℕ × ℕ)) → all ≡ false → length rs ≡ 0 → retain_keys m (keeps all rs) ≡ empty
nothing_kept m all [] e none = ap (λ b. retain_keys m (keeps b [])) e ∙ sym (no_range_left m)
nothing_kept m all (r ∷ rs) e none = absurd (omega arith)

pub returns-in_default-clause-step : goal.returns-in_default-clause-step
returns-in_default-clause-step c =
    let k = c.args.self.now in
    let none = nothing_kept (over k.rest k.at k.bytes.now) k.all k.ranges.now c.if-self.false c.in_default.ensures.cases in (none, none)

pub returns-then-from-size-clause-ready : goal.returns-then-from-size-clause-ready
returns-then-from-size-clause-ready c =
    let r : ℕ × ℕ = c.in-Some.range.now in
    let s : Apart 0 (r ∷ c.in-Some.others.now) = subst (Apart 0) c.in-Some.ensures.cases.0 c.requires.ascend in
    record {
      ends = c.requires.ends;
      behind = c.requires.behind;
      ascend = Apart_less 0 (r.0 + r.1) c.in-Some.others.now s.3 (omega arith);
    }

pub returns-then-from-size-clause-step : goal.returns-then-from-size-clause-step
returns-then-from-size-clause-step c =
    let k = c.args.self.now in
    let r : ℕ × ℕ = c.in-Some.range.now in
    let m : ByteMap = over k.rest k.at k.bytes.now in
    let ranges : k.ranges.now ≡ r ∷ c.in-Some.others.now = c.in-Some.ensures.cases.0 in
    let size : length k.ranges.now ≡ length (r ∷ c.in-Some.others.now) = ap length ranges in (
      ap (λ b. retain_keys m (keeps b c.in-Some.others.now)) c.if-self.false
          ∙ passed_range m r c.in-Some.others.now k.at c.if-from-size.true (before_hand k.rest k.at k.bytes.now c.requires.behind)
          ∙ sym (ap (λ b. retain_keys m (keeps b k.ranges.now)) c.if-self.false ∙ ap (λ l. retain_keys m (keeps false l)) ranges),
      omega (arith, size),
    )

pub skip-requires-clause-dropped : goal.skip-requires-clause-dropped
skip-requires-clause-dropped c =
    let k = c.args.self.now in
    let r : ℕ × ℕ = c.in-Some.range.now in
    let ranges : k.ranges.now ≡ r ∷ c.in-Some.others.now = c.in-Some.ensures.cases.0 in
    let s : Apart 0 (r ∷ c.in-Some.others.now) = subst (Apart 0) ranges c.requires.ascend in
    λ a l u.
    ap (λ b. keeps b k.ranges.now a) c.if-self.false
    ∙ ap (λ rs. keeps false rs a) ranges
    ∙ none_keeps r c.in-Some.others.now a s (omega (arith, c.min.ensures, c.if-self-from.true))
