-- Bytes laid among extents.
use Rattle.std.proofs.Common.{Some, append-nil, ◌≡◌, ℕ, ◌+◌, ◌<◌, ◌≤◌, List, [], ◌∷◌, ◌++◌, length, append_assoc, sym, ap, ◌∙◌, subst, arith, length-append}
use Rattle.std.specs.Ordering.{nat_cmp}
use Rattle.std.specs.Map.{set_value, lookup}
use Rattle.std.specs.BTreeMap.{insert_entry, is_at}
use Rattle.span_store.specs.ByteMap.{over, top}
use Rattle.span_store.specs.Extents.{Extent, map_of, end_of, EndBy, StartFrom, AreExtents, low, high, EndsWith}
use Rattle.span_store.proofs.Order.{split, ascending, high_twice, high_are, low_are, high_from, low_below, back, front, front_ends, joined, whole, low-append, high-append, low_all, low_none, high_none, low-insert, high-insert, set_there, lookup_there, below_ends, StartFrom_less, StartBelow, StartFrom_front}
use Rattle.span_store.proofs.Lookups.{placed, touching}

-- the extents with bytes in the place of those that start where they are
abbrev pub laid : List Extent → ℕ → List ℕ → List Extent
laid es at bs = low at es ++ ((at, bs) ∷ high (at + length bs) es)

parts : (es : List Extent) (at stop : ℕ) → AreExtents es → at ≤ stop → es ≡ low at es ++ (low stop (high at es) ++ high stop es)
parts es at stop s le =
    split at es (ascending es s)
    ∙ ap (λ t. low at es ++ t) (split stop (high at es) (ascending (high at es) (high_are at es s)) ∙ ap (λ t. low stop (high at es) ++ t) (high_twice at stop es le))

StartFrom_low : (n stop : ℕ) (es : List Extent) → AreExtents es → StartFrom n es → StartFrom n (low stop es)
StartFrom_low n stop es s f = StartFrom_front n (low stop es) (high stop es) (subst (StartFrom n) (split stop es (ascending es s)) f)

-- of extents that end by an address, those from another on do too
EndBy_back : (n : ℕ) (xs ys : List Extent) → EndBy n (xs ++ ys) → EndBy n ys
EndBy_back n [] ys b = b
EndBy_back n (x ∷ xs) ys b = EndBy_back n xs ys b.1

low_both : (at stop : ℕ) (es : List Extent) → AreExtents es → low stop es ≡ low stop (low at es) ++ low stop (high at es)
low_both at stop es s = ap (low stop) (split at es (ascending es s)) ∙ low-append stop (low at es) (high at es)

pub laid_is : (es : List Extent) (at : ℕ) (bs : List ℕ) → AreExtents es → EndBy at (low at es) → EndBy (at + length bs) (low (at + length bs) es)
    → map_of (laid es at bs) ≡ over (map_of es) at bs
laid_is es at bs s b c =
    let stop : ℕ = at + length bs in
    placed at bs (low at es) (low stop (high at es)) (high stop es) b
    (StartFrom_low at stop (high at es) (high_are at es s) (high_from at es))
    (EndBy_back stop (low stop (low at es)) (low stop (high at es)) (subst (EndBy stop) (low_both at stop es s) c))
    ∙ ap (λ l. over (map_of l) at bs) (sym (parts es at stop s (omega arith)))

pub laid_extents : (es : List Extent) (at : ℕ) (bs : List ℕ) → AreExtents es → EndBy at (low at es) → 0 < length bs → at + length bs ≤ top → AreExtents (laid es at bs)
laid_extents es at bs s b some within =
    let here : at ≤ at = omega arith in
    joined at (low at es) ((at, bs) ∷ high (at + length bs) es) (low_are at es s)
    (some, within, high_from (at + length bs) es, high_are (at + length bs) es s) b
    (here, StartFrom_less at (at + length bs) (high (at + length bs) es) (high_from (at + length bs) es) (omega arith))

-- ------ as an extent of their own
pub own_laid : (es : List Extent) (at : ℕ) (bs : List ℕ) → AreExtents es → 0 < length bs
    → low (at + 1) (insert_entry nat_cmp es at bs) ++ high (at + length bs) (insert_entry nat_cmp es at bs) ≡ laid es at bs
own_laid es at bs s some =
    ap (λ t. t ++ high (at + length bs) (insert_entry nat_cmp es at bs)) (low-insert at bs es (ascending es s))
    ∙ ap (λ t. (low at es ++ ((at, bs) ∷ [])) ++ t) (high-insert (at + length bs) at bs es (omega arith))
    ∙ append_assoc (low at es) ((at, bs) ∷ []) (high (at + length bs) es)

-- ------ at the end of one
pub found_there : (es : List Extent) (at k : ℕ) (old : List ℕ) → AreExtents es → es ≡ low at es ++ high at es → EndsWith (low at es) (k, old)
    → lookup (is_at (nat_cmp k)) es ≡ Some old
found_there es at k old s is w =
    let all = whole at es (k, old) is w in
    let t = subst AreExtents all s in
    ap (lookup (is_at (nat_cmp k))) all ∙ lookup_there k old w.0 (high at es) (below_ends k w.0 (front w.0 ((k, old) ∷ high at es) t) (front_ends w.0 (k, old) (high at es) t))

module _ (es : List Extent) (at k : ℕ) (old bs : List ℕ) (s : AreExtents es) (w : EndsWith (low at es) (k, old)) (e : k + length old ≡ at) (some : 0 < length bs) (b : EndBy at (low at es)) where
  all : es ≡ w.0 ++ ((k, old) ∷ high at es)
  all = whole at es (k, old) (split at es (ascending es s)) w

  are : AreExtents (w.0 ++ ((k, old) ∷ high at es))
  are = subst AreExtents all s

  starts : StartBelow k w.0
  starts = below_ends k w.0 (front w.0 ((k, old) ∷ high at es) are) (front_ends w.0 (k, old) (high at es) are)

  pub set : set_value (is_at (nat_cmp k)) es (old ++ bs) ≡ w.0 ++ ((k, old ++ bs) ∷ high at es)
  set = ap (λ l. set_value (is_at (nat_cmp k)) l (old ++ bs)) all ∙ set_there k old (old ++ bs) w.0 (high at es) starts

  below : StartBelow at (w.0 ++ ((k, old) ∷ []))
  below = subst (StartBelow at) w.1 (low_below at es)

  same_starts : (n : ℕ) (xs : List Extent) (c d : List ℕ) → StartBelow n (xs ++ ((k, c) ∷ [])) → StartBelow n (xs ++ ((k, d) ∷ []))
  same_starts n [] c d f = (f.0, tt)
  same_starts n (x ∷ xs) c d f = (f.0, same_starts n xs c d f.1)

  more_starts : (m n : ℕ) (xs : List Extent) → StartBelow m xs → m ≤ n → StartBelow n xs
  more_starts m n [] f le = tt
  more_starts m n (x ∷ xs) f le = (let l = f.0 in omega arith, more_starts m n xs f.1 le)

  new_below : StartBelow at (w.0 ++ ((k, old ++ bs) ∷ []))
  new_below = same_starts at w.0 old (old ++ bs) below

  cut : w.0 ++ ((k, old ++ bs) ∷ high at es) ≡ (w.0 ++ ((k, old ++ bs) ∷ [])) ++ high at es
  cut = sym (append_assoc w.0 ((k, old ++ bs) ∷ []) (high at es))

  -- what is left of the grown list once those that start where the bytes are were taken out
  pub grown_cleared : low at (set_value (is_at (nat_cmp k)) es (old ++ bs)) ++ high (at + length bs) (set_value (is_at (nat_cmp k)) es (old ++ bs)) ≡ w.0 ++ ((k, old ++ bs) ∷ high (at + length bs) es)
  grown_cleared =
      let stop : ℕ = at + length bs in
      let lo : low at (w.0 ++ ((k, old ++ bs) ∷ high at es)) ≡ w.0 ++ ((k, old ++ bs) ∷ []) =
      ap (low at) cut ∙ low-append at (w.0 ++ ((k, old ++ bs) ∷ [])) (high at es) ∙ ap (λ t. low at (w.0 ++ ((k, old ++ bs) ∷ [])) ++ t) (low_none at (high at es) (high_from at es))
      ∙ append-nil (low at (w.0 ++ ((k, old ++ bs) ∷ []))) ∙ low_all at (w.0 ++ ((k, old ++ bs) ∷ [])) new_below in
      let hi : high stop (w.0 ++ ((k, old ++ bs) ∷ high at es)) ≡ high stop es =
      ap (high stop) cut ∙ high-append stop (w.0 ++ ((k, old ++ bs) ∷ [])) (high at es)
      ∙ ap (λ t. t ++ high stop (high at es)) (high_none stop (w.0 ++ ((k, old ++ bs) ∷ [])) (more_starts at stop (w.0 ++ ((k, old ++ bs) ∷ [])) new_below (omega arith)))
      ∙ high_twice at stop es (omega arith) in
      ap (λ l. low at l ++ high stop l) set
      ∙ ap (λ t. t ++ high stop (w.0 ++ ((k, old ++ bs) ∷ high at es))) lo ∙ ap (λ t. (w.0 ++ ((k, old ++ bs) ∷ [])) ++ t) hi
      ∙ append_assoc w.0 ((k, old ++ bs) ∷ []) (high stop es)

  pub grown_is : EndBy (at + length bs) (low (at + length bs) es) → map_of (w.0 ++ ((k, old ++ bs) ∷ high (at + length bs) es)) ≡ over (map_of es) at bs
  grown_is c =
      touching k old bs w.0 (high (at + length bs) es)
      ∙ ap (λ a. map_of (w.0 ++ ((k, old) ∷ (a, bs) ∷ high (at + length bs) es))) e
      ∙ ap map_of (sym (append_assoc w.0 ((k, old) ∷ []) ((at, bs) ∷ high (at + length bs) es)) ∙ ap (λ t. t ++ ((at, bs) ∷ high (at + length bs) es)) (sym w.1))
      ∙ laid_is es at bs s b c

  pub grown_extents : at + length bs ≤ top → AreExtents (w.0 ++ ((k, old ++ bs) ∷ high (at + length bs) es))
  grown_extents within =
      let t = back w.0 ((k, old) ∷ high at es) are in
      let size : length (old ++ bs) ≡ length old + length bs = length-append old bs in
      let here : k ≤ k = omega arith in
      joined k w.0 ((k, old ++ bs) ∷ high (at + length bs) es) (front w.0 ((k, old) ∷ high at es) are)
      (omega arith, omega arith, StartFrom_less (end_of (k, old ++ bs)) (at + length bs) (high (at + length bs) es) (high_from (at + length bs) es) (omega arith), high_are (at + length bs) es s)
      (front_ends w.0 (k, old) (high at es) are)
      (here, StartFrom_less k (at + length bs) (high (at + length bs) es) (high_from (at + length bs) es) (omega arith))
