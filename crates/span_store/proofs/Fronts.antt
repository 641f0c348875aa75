-- The lowest bytes of a map, and the map without them.
use Rattle.std.proofs.Common.{◌≡◌, ℕ, ◌+◌, ◌-◌, ◌<◌, ◌≤◌, List, [], ◌∷◌, length, min, take, cond, false, get_or, Some, None, refl, sym, ap, ◌∙◌, subst, inl, inr, arith, length-take}
use Rattle.std.proofs.lemmas.Bool.{cases_lt}
use Rattle.std.proofs.lemmas.Option.{none-some, slice_get-get_or}
use Rattle.std.specs.Option.{is_some}
use Rattle.std.specs.Cmp.{nat_cmp_total}
use Rattle.std.specs.Iterator.{Drains}
use Rattle.std.specs.FinMap.{get, empty, len, len-insert, same_map, nat_cmp-IsAntisymmetric}
use Rattle.span_store.specs.ByteMap.{ByteMap, over, part, top, Holds}
use Rattle.span_store.specs.Extents.{Extent, map_of, end_of, StartFrom, AreExtents}
use Rattle.span_store.specs.Walks.{TakesFront}
use Rattle.span_store.proofs.Lookups.{get-over, get-map_of, byte_in_above, reads_before, reads_after, reads_hit, reads_other, cases_in}
use Rattle.span_store.proofs.Maps.{held_first, part_in, part_none, part_out, part_same}

-- ------ what stands where
pub front_none : (m n : ByteMap) (e : Extent) → TakesFront m (Some e) n → (a : ℕ) → a < e.0 → get m a ≡ None
front_none m n e t a l =
    ap (λ s. get s a) t.2 ∙ get-over n e.0 e.1 a ∙ reads_before e.0 e.1 a (get n a) l ∙ t.3 a (omega arith)

pub front_holds : (m n : ByteMap) (e : Extent) → TakesFront m (Some e) n → Holds m e.0 e.1
front_holds m n e t k l =
    ap (λ s. get s (e.0 + k)) t.2 ∙ get-over n e.0 e.1 (e.0 + k) ∙ reads_hit e.0 e.1 (e.0 + k) k (get n (e.0 + k)) refl l

pub front_rest : (m n : ByteMap) (e : Extent) → TakesFront m (Some e) n → (a : ℕ) → end_of e ≤ a → get m a ≡ get n a
front_rest m n e t a l = ap (λ s. get s a) t.2 ∙ get-over n e.0 e.1 a ∙ reads_after e.0 e.1 a (get n a) l

-- ------ a part without its lowest bytes
pub taken : (m : ByteMap) (here stop start : ℕ) (bs : List ℕ) → here ≤ start → start + length bs ≤ stop → ((a : ℕ) → here ≤ a → a < start → get m a ≡ None) → Holds m start bs
    → part m here (stop - here) ≡ over (part m (start + length bs) (stop - (start + length bs))) start bs
taken m here stop start bs le fits none held =
    let end : ℕ = start + length bs in
    same_map nat_cmp_total nat_cmp-IsAntisymmetric _ _ (λ q.
    elim (cases_in start (length bs) q) [
      | inl hit ↦
          let e : q ≡ start + hit.0 = hit.1 in
          let l : hit.0 < length bs = hit.2 in
          part_in m here (stop - here) q (omega arith) (omega arith)
          ∙ ap (get m) e
          ∙ held hit.0 l
          ∙ sym (reads_hit start bs q hit.0 (get (part m end (stop - end)) q) e l)
      | inr out ↦
          elim out [
            | inl b ↦
                elim (cases_lt q here) [
                  | inl c ↦ part_out m here (stop - here) q (inl c)
                  | inr c ↦ part_in m here (stop - here) q c (omega arith) ∙ none q c b
                ]
                ∙ sym (part_out m end (stop - end) q (inl (omega arith)))
            | inr b ↦ elim (cases_lt q stop) [
              | inl c ↦ part_in m here (stop - here) q (omega arith) (omega arith) ∙ sym (part_in m end (stop - end) q b (omega arith))
              | inr c ↦ part_out m here (stop - here) q (inr (omega arith)) ∙ sym (part_out m end (stop - end) q (inr (omega arith)))
            ]
          ]
          ∙ sym (reads_other start bs q (get (part m end (stop - end)) q) out)
    ]
    ∙ sym (get-over (part m end (stop - end)) start bs q))

pub nothing : (m : ByteMap) (here stop : ℕ) → ((a : ℕ) → here ≤ a → a < stop → get m a ≡ None) → part m here (stop - here) ≡ empty
nothing m here stop none = sym (part_none m here ∙ part_same m here 0 (stop - here) (omega arith) (λ q l u. none q (omega arith) (omega arith)))

-- one step of a walk: the first bytes of a piece, as far as the range goes
pub stepped : (m : ByteMap) (here stop start : ℕ) (bytes known : List ℕ) → here ≤ start → 0 < length bytes → end_of (start, bytes) ≤ top → ((a : ℕ) → here ≤ a → a < start → get m a ≡ None) → Holds m start bytes
    → start < stop → known ≡ take (stop - start) bytes → TakesFront (part m here (stop - here)) (Some (start, known)) (part m (start + length known) (stop - (start + length known)))
stepped m here stop start bytes known le some fits none held inside is =
    let size : length (take (stop - start) bytes) ≡ min (stop - start) (length bytes) = length-take (stop - start) bytes in
    let n : length known ≡ length (take (stop - start) bytes) = ap length is in (
      omega arith,
      omega arith,
      taken m here stop start known le (omega arith) none (subst (Holds m start) (sym is) (held_first m start (stop - start) bytes held)),
      λ a l. part_out m (start + length known) (stop - (start + length known)) a (inl l),
    )

-- ------ fewer are left
pub len-over : (m : ByteMap) (at : ℕ) (bs : List ℕ) → ((a : ℕ) → a < at + length bs → get m a ≡ None) → len (over m at bs) ≡ length bs + len m
len-over m at [] none = omega arith
len-over m at (b ∷ bs) none =
    let rest : len (over m (at + 1) bs) ≡ length bs + len m = len-over m (at + 1) bs (λ a l. none a (omega arith)) in
    let bare : get (over m (at + 1) bs) at ≡ None = get-over m (at + 1) bs at ∙ reads_before (at + 1) bs at (get m at) (omega arith) ∙ none at (omega arith) in
    let free : is_some (get (over m (at + 1) bs) at) ≡ false = ap is_some bare in
    let more : len (over m at (b ∷ bs)) ≡ len (over m (at + 1) bs) + 1 =
    len-insert nat_cmp_total (over m (at + 1) bs) at b ∙ ap (λ t. cond t (len (over m (at + 1) bs)) (len (over m (at + 1) bs) + 1)) free in
    omega arith

pub fewer : (m n : ByteMap) (e : Extent) → TakesFront m (Some e) n → len n < len m
fewer m n e t =
    let some : 0 < length e.1 = t.0 in
    let all : len m ≡ length e.1 + len n = ap len t.2 ∙ len-over n e.0 e.1 t.3 in
    omega arith

-- ------ the whole walk
-- extents without a byte below an address start there or above
start_from : (es : List Extent) (n : ℕ) → AreExtents es → ((a : ℕ) → a < n → get (map_of es) a ≡ None) → StartFrom n es
start_from [] n s none = tt
start_from (e ∷ es) n s none =
    let z : e.0 ≡ e.0 + 0 = omega arith in
    let some : 0 < length e.1 = s.0 in
    let first : get (map_of (e ∷ es)) e.0 ≡ Some (get_or e.1 0 0) =
    get-over (map_of es) e.0 e.1 e.0 ∙ reads_hit e.0 e.1 e.0 0 (get (map_of es) e.0) z some ∙ slice_get-get_or e.1 0 0 some in (
      elim (cases_lt e.0 n) [
        | inl l ↦ absurd (none-some (get_or e.1 0 0) (sym (none e.0 l) ∙ first))
        | inr g ↦ g
      ],
      start_from es n s.3 (λ a l. elim (cases_lt a (end_of e)) [
        | inl below ↦ get-map_of es a ∙ byte_in_above (end_of e) es a None s.2 below
        | inr past ↦ sym (reads_after e.0 e.1 a (get (map_of es) a) past) ∙ sym (get-over (map_of es) e.0 e.1 a) ∙ none a l
      ]),
    )

pub walked : (m : ByteMap) (es : List Extent) → Drains TakesFront m es → AreExtents es × (m ≡ map_of es)
walked m [] d = (tt, d.1.1 ∙ d.1.2.0)
walked m (e ∷ es) d =
    let j : ByteMap = d.1.1.0 in
    let first : TakesFront m (Some e) j = d.1.1.1 in
    let rest = walked j es (d.0, (d.1.0, d.1.1.2, d.1.2)) in (
      (first.0, first.1, start_from es (end_of e) rest.0 (λ a l. ap (λ s. get s a) (sym rest.1) ∙ first.3 a l), rest.0),
      first.2 ∙ ap (λ s. over s e.0 e.1) rest.1,
    )

-- everything is a part
pub all_part : (m : ByteMap) → ((a : ℕ) → top ≤ a → get m a ≡ None) → part m 0 (top - 0) ≡ m
all_part m none =
    same_map nat_cmp_total nat_cmp-IsAntisymmetric _ _ (λ q.
    elim (cases_lt q top) [
      | inl l ↦ part_in m 0 (top - 0) q (omega arith) (omega arith)
      | inr g ↦ part_out m 0 (top - 0) q (inr (omega arith)) ∙ sym (none q g)
    ])
