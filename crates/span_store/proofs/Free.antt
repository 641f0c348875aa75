-- Bytes that no extent reaches.
use Rattle.std.proofs.Common.{◌≡◌, ℕ, ◌+◌, ◌<◌, ◌≤◌, List, [], ◌∷◌, ◌++◌, length, Some, None, refl, sym, ap, ◌∙◌, subst, arith}
use Rattle.std.specs.Ordering.{nat_cmp}
use Rattle.std.specs.FinMap.{get}
use Rattle.std.specs.Map.{set_value, lookup}
use Rattle.std.specs.BTreeMap.{insert_entry, is_at}
use Rattle.span_store.specs.ByteMap.{over, clash, top}
use Rattle.span_store.specs.Extents.{Extent, map_of, EndBy, StartFrom, AreExtents, low, high, EndsWith}
use Rattle.span_store.proofs.Order.{StartBelow, split, ascending, low_cut, high_cut, low_are, high_from, below_ends, StartFrom_less, EndBy_more, insert_less, insert_more}
use Rattle.span_store.proofs.Lookups.{bare}
use Rattle.span_store.proofs.Clashes.{clash_none}
use Rattle.span_store.proofs.Laying.{laid, laid_is, laid_extents, found_there, set, grown_is, grown_extents}

pub none_below : (n : ℕ) (es : List Extent) → es ≡ [] → EndBy n es
none_below n es e = subst (EndBy n) (sym e) tt

insert_there : (at : ℕ) (bs : List ℕ) (xs ys : List Extent) → StartBelow at xs → StartFrom (at + 1) ys → insert_entry nat_cmp (xs ++ ys) at bs ≡ xs ++ ((at, bs) ∷ ys)
insert_there at bs [] [] b f = refl
insert_there at bs [] (y ∷ ys) b f = insert_less at bs y ys (let l = f.0 in omega arith)
insert_there at bs (x ∷ xs) ys b f = insert_more at bs x (xs ++ ys) b.0 ∙ ap (λ t. x ∷ t) (insert_there at bs xs ys b.1 f)

pub free_clash : (es : List Extent) (at : ℕ) (bs : List ℕ) → AreExtents es → EndBy at (low (at + length bs) es) → clash (map_of es) at bs ≡ None
free_clash es at bs s b =
    let stop : ℕ = at + length bs in
    clash_none (map_of es) at bs (λ q l u. ap (λ t. get (map_of t) q) (split stop es (ascending es s)) ∙ bare at stop q (low stop es) (high stop es) b (high_from stop es) l u)

module _ (es : List Extent) (at : ℕ) (bs : List ℕ) (s : AreExtents es) (some : 0 < length bs) (b : EndBy at (low (at + length bs) es)) where
  from : StartFrom at (high (at + length bs) es)
  from = StartFrom_less at (at + length bs) (high (at + length bs) es) (high_from (at + length bs) es) (omega arith)

  parts : es ≡ low (at + length bs) es ++ high (at + length bs) es
  parts = split (at + length bs) es (ascending es s)

  same_low : low at es ≡ low (at + length bs) es
  same_low = ap (low at) parts ∙ low_cut at (low (at + length bs) es) (high (at + length bs) es) (low_are (at + length bs) es s) b from

  same_high : high at es ≡ high (at + length bs) es
  same_high = ap (high at) parts ∙ high_cut at (low (at + length bs) es) (high (at + length bs) es) (low_are (at + length bs) es s) b from

  first : EndBy at (low at es)
  first = subst (EndBy at) (sym same_low) b

  last : EndBy (at + length bs) (low (at + length bs) es)
  last = EndBy_more at (at + length bs) (low (at + length bs) es) b (omega arith)

  own_laid : insert_entry nat_cmp es at bs ≡ laid es at bs
  own_laid =
      ap (λ l. insert_entry nat_cmp l at bs) parts
      ∙ insert_there at bs (low (at + length bs) es) (high (at + length bs) es) (below_ends at (low (at + length bs) es) (low_are (at + length bs) es s) b)
      (StartFrom_less (at + 1) (at + length bs) (high (at + length bs) es) (high_from (at + length bs) es) (omega arith))
      ∙ ap (λ t. t ++ ((at, bs) ∷ high (at + length bs) es)) (sym same_low)

  -- as an extent of their own
  pub own_is : map_of (insert_entry nat_cmp es at bs) ≡ over (map_of es) at bs
  own_is = ap map_of own_laid ∙ laid_is es at bs s first last

  pub own_extents : at + length bs ≤ top → AreExtents (insert_entry nat_cmp es at bs)
  own_extents within = subst AreExtents (sym own_laid) (laid_extents es at bs s first some within)

  module _ (k : ℕ) (old : List ℕ) (w : EndsWith (low (at + length bs) es) (k, old)) (e : k + length old ≡ at) where
    here : EndsWith (low at es) (k, old)
    here = subst (λ l. EndsWith l (k, old)) (sym same_low) w

    pub found : lookup (is_at (nat_cmp k)) es ≡ Some old
    found = found_there es at k old s (split at es (ascending es s)) here

    grown : set_value (is_at (nat_cmp k)) es (old ++ bs) ≡ here.0 ++ ((k, old ++ bs) ∷ high (at + length bs) es)
    grown = set es at k old bs s here e some first ∙ ap (λ t. here.0 ++ ((k, old ++ bs) ∷ t)) same_high

    -- at the end of the one that they touch
    pub behind_is : map_of (set_value (is_at (nat_cmp k)) es (old ++ bs)) ≡ over (map_of es) at bs
    behind_is = ap map_of grown ∙ grown_is es at k old bs s here e some first last

    pub behind_extents : at + length bs ≤ top → AreExtents (set_value (is_at (nat_cmp k)) es (old ++ bs))
    behind_extents within = subst AreExtents (sym grown) (grown_extents es at k old bs s here e some first within)
