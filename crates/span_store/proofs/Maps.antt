-- Parts of byte maps.
use Rattle.std.proofs.Common.{zero, suc, ◌≡◌, ℕ, ◌+◌, ◌-◌, ◌<◌, ◌≤◌, ◌⊎◌, ◌&&◌, true, false, cond, List, [], ◌∷◌, ◌++◌, length, take, Option, None, refl, sym, ap, ◌∙◌, inl, inr, arith, length-take, length-append, min}
use Rattle.std.proofs.lemmas.Bool.{cases_lt, le-leb, lt-leb, lt-ltb, le-ltb, false≢true}
use Rattle.std.proofs.lemmas.Option.{slice_get-get_or}
use Rattle.std.specs.List.{slice_get}
use Rattle.std.specs.Prelude.{IsSome, nat_le, nat_lt}
use Rattle.std.specs.Option.{is_some}
use Rattle.std.specs.Ordering.{nat_cmp}
use Rattle.std.specs.Cmp.{nat_cmp_total}
use Rattle.std.specs.FinMap.{get, empty, get-empty, get-retain_keys, same_map, nat_cmp-IsAntisymmetric}
use Rattle.span_store.specs.ByteMap.{ByteMap, over, part, top, Holds}
use Rattle.span_store.specs.Extents.{Extent, map_of, EndBy, AreExtents}
use Rattle.span_store.proofs.Lookups.{get-over, get-map_of, byte_in_below, reads_hit, reads_other, cases_in}
use Rattle.span_store.proofs.Settled.{slice_get-take}

-- ------ nothing is at the top or above
EndBy_top : (es : List Extent) → AreExtents es → EndBy top es
EndBy_top [] s = tt
EndBy_top (e ∷ es) s = (s.1, EndBy_top es s.3)

pub beyond : (es : List Extent) (q : ℕ) → AreExtents es → top ≤ q → get (map_of es) q ≡ None
beyond es q s h = get-map_of es q ∙ byte_in_below top es q None (EndBy_top es s) h

-- ------ bytes that are a map's
pub some_not_none : (o : Option ℕ) → IsSome o → o ≡ None → ⊥
some_not_none o h e = false≢true (ap is_some (sym e) ∙ h)

pub held_some : (m : ByteMap) (at : ℕ) (bs : List ℕ) → Holds m at bs → (a : ℕ) → at ≤ a → a < at + length bs → IsSome (get m a)
held_some m at bs h a l u =
    let e : a ≡ at + (a - at) = omega arith in
    let there = ap (get m) e ∙ h (a - at) (omega arith) ∙ slice_get-get_or bs (a - at) 0 (omega arith) in
    rw there refl

pub held_first : (m : ByteMap) (at n : ℕ) (bs : List ℕ) → Holds m at bs → Holds m at (take n bs)
held_first m at n bs h k l =
    let size : length (take n bs) ≡ min n (length bs) = length-take n bs in
    h k (omega arith) ∙ sym (slice_get-take bs n k (omega arith))

slice_get-append_left : (xs ys : List ℕ) (k : ℕ) → k < length xs → slice_get (xs ++ ys) k ≡ slice_get xs k
slice_get-append_left [] ys k l = absurd (omega arith)
slice_get-append_left (x ∷ xs) ys zero l = refl
slice_get-append_left (x ∷ xs) ys (suc k) l = slice_get-append_left xs ys k (omega arith)

slice_get-append_right : (xs ys : List ℕ) (k : ℕ) → slice_get (xs ++ ys) (length xs + k) ≡ slice_get ys k
slice_get-append_right [] ys k = let e : 0 + k ≡ k = omega arith in ap (slice_get ys) e
slice_get-append_right (x ∷ xs) ys k = let e : suc (length xs) + k ≡ suc (length xs + k) = omega arith in ap (slice_get (x ∷ (xs ++ ys))) e ∙ slice_get-append_right xs ys k

pub held-append : (m : ByteMap) (at : ℕ) (xs ys : List ℕ) → Holds m at xs → Holds m (at + length xs) ys → Holds m at (xs ++ ys)
held-append m at xs ys h g k l =
    let size : length (xs ++ ys) ≡ length xs + length ys = length-append xs ys in
    elim (cases_lt k (length xs)) [
      | inl b ↦ h k b ∙ sym (slice_get-append_left xs ys k b)
      | inr b ↦
          let e : at + k ≡ at + length xs + (k - length xs) = omega arith in
          let f : length xs + (k - length xs) ≡ k = omega arith in
          ap (get m) e ∙ g (k - length xs) (omega arith) ∙ sym (ap (slice_get (xs ++ ys)) (sym f) ∙ slice_get-append_right xs ys (k - length xs))
    ]

-- ------ the part in a range
inside : (from size q : ℕ) → from ≤ q → q < from + size → (nat_le from q && nat_lt q (from + size)) ≡ true
inside from size q l u = rw (le-leb from q l, lt-ltb q (from + size) u) refl

outside : (from size q : ℕ) → (q < from) ⊎ (from + size ≤ q) → (nat_le from q && nat_lt q (from + size)) ≡ false
outside from size q (inl h) = rw (lt-leb from q h) refl
outside from size q (inr h) = rw (le-leb from q (omega arith), le-ltb q (from + size) h) refl

pub get-part : (m : ByteMap) (from size q : ℕ) → get (part m from size) q ≡ cond (nat_le from q && nat_lt q (from + size)) (get m q) None
get-part m from size q = get-retain_keys m (λ a. nat_le from a && nat_lt a (from + size)) q (λ x e. ap (λ a. nat_le from a && nat_lt a (from + size)) (sym (nat_cmp-IsAntisymmetric q x e)))

pub part_in : (m : ByteMap) (from size q : ℕ) → from ≤ q → q < from + size → get (part m from size) q ≡ get m q
part_in m from size q l u = get-part m from size q ∙ ap (λ b. cond b (get m q) None) (inside from size q l u)

pub part_out : (m : ByteMap) (from size q : ℕ) → (q < from) ⊎ (from + size ≤ q) → get (part m from size) q ≡ None
part_out m from size q h = get-part m from size q ∙ ap (λ b. cond b (get m q) None) (outside from size q h)

pub part_none : (m : ByteMap) (from : ℕ) → empty ≡ part m from 0
part_none m from =
    same_map nat_cmp_total nat_cmp-IsAntisymmetric _ _ (λ q.
    get-empty nat_cmp q ∙ sym (part_out m from 0 q (elim (cases_lt q from) [ inl l ↦ inl l | inr l ↦ inr (omega arith) ])))

-- where nothing follows, more of the range is the same part
pub part_same : (m : ByteMap) (from a b : ℕ) → a ≤ b → ((q : ℕ) → from + a ≤ q → q < from + b → get m q ≡ None) → part m from a ≡ part m from b
part_same m from a b le none =
    same_map nat_cmp_total nat_cmp-IsAntisymmetric _ _ (λ q.
    elim (cases_lt q from) [
      | inl l ↦ part_out m from a q (inl l) ∙ sym (part_out m from b q (inl l))
      | inr l ↦ elim (cases_lt q (from + a)) [
        | inl u ↦ part_in m from a q l u ∙ sym (part_in m from b q l (omega arith))
        | inr u ↦ elim (cases_lt q (from + b)) [
          | inl v ↦ part_out m from a q (inr u) ∙ sym (part_in m from b q l v ∙ none q u v)
          | inr v ↦ part_out m from a q (inr u) ∙ sym (part_out m from b q (inr v))
        ]
      ]
    ])

-- a part with the bytes that follow it
pub part_more : (m : ByteMap) (from start : ℕ) (bs : List ℕ) → from ≤ start → Holds m start bs
    → over (part m from (start - from)) start bs ≡ part m from (start + length bs - from)
part_more m from start bs le held =
    same_map nat_cmp_total nat_cmp-IsAntisymmetric _ _ (λ q.
    get-over (part m from (start - from)) start bs q
    ∙ elim (cases_in start (length bs) q) [
      | inl hit ↦
          let e : q ≡ start + hit.0 = hit.1 in
          let l : hit.0 < length bs = hit.2 in
          reads_hit start bs q hit.0 (get (part m from (start - from)) q) e l
          ∙ sym (part_in m from (start + length bs - from) q (omega arith) (omega arith) ∙ ap (get m) e ∙ held hit.0 l)
      | inr out ↦
          reads_other start bs q (get (part m from (start - from)) q) out
          ∙ elim out [
            | inl b ↦ elim (cases_lt q from) [
              | inl c ↦ part_out m from (start - from) q (inl c) ∙ sym (part_out m from (start + length bs - from) q (inl c))
              | inr c ↦ part_in m from (start - from) q c (omega arith) ∙ sym (part_in m from (start + length bs - from) q c (omega arith))
            ]
            | inr b ↦ part_out m from (start - from) q (inr (omega arith)) ∙ sym (part_out m from (start + length bs - from) q (inr (omega arith)))
          ]
    ])
