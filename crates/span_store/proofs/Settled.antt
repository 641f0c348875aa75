-- Bytes of which some stand already.
use Rattle.std.proofs.Common.{zero, suc, min, ◌≡◌, ℕ, ◌+◌, ◌-◌, ◌<◌, ◌≤◌, List, [], ◌∷◌, ◌++◌, length, take, drop, get_or, Option, Some, None, eqb, refl, sym, ap, ◌∙◌, subst, inl, inr, arith, length-take, length-drop}
use Rattle.std.proofs.lemmas.Bool.{cases_lt, cases_Bool, eqb-true, false≢true}
use Rattle.std.proofs.lemmas.Option.{none-some, same_Some, slice_get-get_or}
use Rattle.std.specs.List.{slice_get}
use Rattle.std.specs.Prelude.{IsSome}
use Rattle.std.specs.Cmp.{nat_cmp_total}
use Rattle.std.specs.FinMap.{get, same_map, nat_cmp-IsAntisymmetric}
use Rattle.span_store.specs.ByteMap.{ByteMap, over, clash, clash_at, top}
use Rattle.span_store.specs.Extents.{Extent, map_of, end_of, EndBy, AreExtents, low, high}
use Rattle.span_store.specs.declared.clash.Clash.{Clash}
use Rattle.span_store.proofs.Order.{split, ascending, EndBy_more, EndBy-append, front_ends, back, EndBy_front}
use Rattle.span_store.proofs.Lookups.{get-over, get-map_of, byte_in_below, reads_before, reads_after, reads_hit, reads_other, cases_in}
use Rattle.span_store.proofs.Pieces.{slice_get-drop}
use Rattle.span_store.proofs.Clashes.{clash_none}

head_agrees : (at b : ℕ) (rest : Option Clash) (o : Option ℕ) → clash_at o at b rest ≡ None → (rest ≡ None) × ((old : ℕ) → o ≡ Some old → old ≡ b)
head_agrees at b rest None e = (e, λ old f. absurd (none-some old f))
head_agrees at b rest (Some c) e =
    elim (cases_Bool (eqb c b)) [
      | inl is_same ↦ (rw is_same at e, λ old f. sym (same_Some c old f) ∙ eqb-true c b is_same)
      | inr is_other ↦ absurd (none-some _ (sym (rw is_other at e)))
    ]

pub agrees : (m : ByteMap) (at : ℕ) (bs : List ℕ) → clash m at bs ≡ None → (k old b : ℕ) → slice_get bs k ≡ Some b → get m (at + k) ≡ Some old → old ≡ b
agrees m at [] e k old b i o = absurd (none-some b i)
agrees m at (c ∷ bs) e zero old b i o =
    let h = head_agrees at c (clash m (at + 1) bs) (get m at) e in
    let a : at + zero ≡ at = omega arith in
    h.1 old (rw a at o) ∙ same_Some c b i
agrees m at (c ∷ bs) e (suc k) old b i o =
    let h = head_agrees at c (clash m (at + 1) bs) (get m at) e in
    let a : at + suc k ≡ at + 1 + k = omega arith in
    agrees m (at + 1) bs h.0 k old b i (rw a at o)

is_there : (o : Option ℕ) → IsSome o → (x : ℕ) × (o ≡ Some x)
is_there None h = absurd (false≢true h)
is_there (Some x) h = (x, refl)

-- what stands where the bytes are to come is what is to come
pub stands : (m : ByteMap) (at q : ℕ) (bs : List ℕ) → clash m at bs ≡ None → (k : ℕ) → q ≡ at + k → k < length bs → IsSome (get m q) → get m q ≡ slice_get bs k
stands m at q bs free k e l h =
    let new = slice_get-get_or bs k 0 l in
    let old = is_there (get m q) h in
    let same : old.0 ≡ get_or bs k 0 = agrees m at bs free k old.0 (get_or bs k 0) new (ap (get m) (sym e) ∙ old.1) in
    old.1 ∙ ap Some same ∙ sym new

pub slice_get-take : (bs : List ℕ) (n k : ℕ) → k < n → slice_get (take n bs) k ≡ slice_get bs k
slice_get-take bs zero k h = absurd (omega arith)
slice_get-take [] (suc n) k h = refl
slice_get-take (b ∷ bs) (suc n) zero h = refl
slice_get-take (b ∷ bs) (suc n) (suc k) h = slice_get-take bs n k (omega arith)

pub all_there : (m : ByteMap) (at : ℕ) (bs : List ℕ) → clash m at bs ≡ None → ((a : ℕ) → at ≤ a → a < at + length bs → IsSome (get m a)) → m ≡ over m at bs
all_there m at bs free covers =
    same_map nat_cmp_total nat_cmp-IsAntisymmetric _ _ (λ q.
    elim (cases_in at (length bs) q) [
      | inl hit ↦
          let e : q ≡ at + hit.0 = hit.1 in
          let l : hit.0 < length bs = hit.2 in
          stands m at q bs free hit.0 e l (covers q (omega arith) (omega arith)) ∙ sym (reads_hit at bs q hit.0 (get m q) e l)
      | inr out ↦ sym (reads_other at bs q (get m q) out)
    ]
    ∙ sym (get-over m at bs q))

pub settled : (m : ByteMap) (at first last : ℕ) (bs : List ℕ) → at ≤ first → first ≤ last → last ≤ at + length bs → clash m at bs ≡ None
    → ((a : ℕ) → at ≤ a → a < first → IsSome (get m a)) → ((a : ℕ) → last ≤ a → a < at + length bs → IsSome (get m a))
    → over m first (take (last - first) (drop (first - at) bs)) ≡ over m at bs
settled m at first last bs from order fits free before behind =
    let piece : List ℕ = take (last - first) (drop (first - at) bs) in
    let size : length piece ≡ min (last - first) (length (drop (first - at) bs)) = length-take (last - first) (drop (first - at) bs) in
    let rest : length (drop (first - at) bs) ≡ length bs - (first - at) = length-drop (first - at) bs in
    let n : length piece ≡ last - first = omega arith in
    same_map nat_cmp_total nat_cmp-IsAntisymmetric _ _ (λ q.
    get-over m first piece q
    ∙ elim (cases_in at (length bs) q) [
      | inl hit ↦
          let k : ℕ = hit.0 in
          let e : q ≡ at + k = hit.1 in
          let l : k < length bs = hit.2 in
          elim (cases_lt q first) [
            | inl b ↦ reads_before first piece q (get m q) b ∙ stands m at q bs free k e l (before q (omega arith) b) ∙ sym (reads_hit at bs q k (get m q) e l)
            | inr b ↦ elim (cases_lt q last) [
              | inl u ↦
                  let i : first - at + (q - first) ≡ k = omega arith in
                  reads_hit first piece q (q - first) (get m q) (omega arith) (omega arith)
                  ∙ slice_get-take (drop (first - at) bs) (last - first) (q - first) (omega arith)
                  ∙ slice_get-drop bs (first - at) (q - first)
                  ∙ ap (slice_get bs) i
                  ∙ sym (reads_hit at bs q k (get m q) e l)
              | inr u ↦
                  reads_after first piece q (get m q) (omega arith) ∙ stands m at q bs free k e l (behind q u (omega arith)) ∙ sym (reads_hit at bs q k (get m q) e l)
            ]
          ]
      | inr out ↦
          reads_other first piece q (get m q) (elim out [ inl b ↦ inl (omega arith) | inr a ↦ inr (omega arith) ]) ∙ sym (reads_other at bs q (get m q) out)
    ]
    ∙ sym (get-over m at bs q))

-- ------ behind all
pub EndBy_low : (n c : ℕ) (es : List Extent) → AreExtents es → EndBy n es → EndBy n (low c es)
EndBy_low n c es s b = EndBy_front n (low c es) (high c es) (subst (EndBy n) (split c es (ascending es s)) b)

pub behind_free : (es : List Extent) (at : ℕ) (bs : List ℕ) → EndBy at es → clash (map_of es) at bs ≡ None
behind_free es at bs b = clash_none (map_of es) at bs (λ q l u. get-map_of es q ∙ byte_in_below at es q None b l)

last_of : (es : List Extent) (i : ℕ) (e : Extent) → i + 1 ≡ length es → slice_get es i ≡ Some e → (xs : List Extent) × (es ≡ xs ++ (e ∷ []))
last_of [] i e l h = absurd (none-some e h)
last_of (x ∷ []) zero e l h = ([], ap (λ y. y ∷ []) (same_Some x e h))
last_of (x ∷ y ∷ es) zero e l h = absurd (omega arith)
last_of (x ∷ es) (suc i) e l h = let r = last_of es i e (omega arith) h in (x ∷ r.0, ap (λ t. x ∷ t) r.1)

pub behind_last : (es : List Extent) (e : Extent) → AreExtents es → slice_get es (length es - 1) ≡ Some e → (end_of e ≤ top) × EndBy (end_of e) es
behind_last [] e s h = absurd (none-some e h)
behind_last (x ∷ es) e s h =
    let n : length (x ∷ es) - 1 + 1 ≡ length (x ∷ es) = omega arith in
    let r = last_of (x ∷ es) (length (x ∷ es) - 1) e n h in
    let t : AreExtents (r.0 ++ (e ∷ [])) = subst AreExtents r.1 s in
    let here : end_of e ≤ end_of e = omega arith in
    ((back r.0 (e ∷ []) t).1, subst (EndBy (end_of e)) (sym r.1) (EndBy-append (end_of e) r.0 (e ∷ []) (EndBy_more e.0 (end_of e) r.0 (front_ends r.0 e [] t) (omega arith)) (here, tt)))
