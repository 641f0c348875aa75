-- The first bytes from an address on.
use Rattle.std.proofs.Common.{MatchOption, append-nil, zero, suc, ◌≡◌, ℕ, ◌+◌, ◌-◌, ◌<◌, ◌≤◌, ◌⊎◌, List, [], ◌∷◌, ◌++◌, length, drop, Option, Some, None, refl, sym, ap, ◌∙◌, subst, inl, inr, arith, length-drop}
use Rattle.std.specs.Option.{option_map}
use Rattle.std.specs.List.{slice_get}
use Rattle.std.specs.FinMap.{get}
use Rattle.span_store.specs.ByteMap.{top}
use Rattle.span_store.specs.Extents.{Extent, map_of, end_of, EndBy, StartFrom, AreExtents, low, high, EndsWith, StartsWith, IsPiece}
use Rattle.span_store.proofs.Order.{back, front, front_ends, StartFrom_less, EndBy-append, EndBy_more, whole, last_below, high_from, low_cut, low-append, low_keep}
use Rattle.std.proofs.lemmas.Bool.{cases_lt}
use Rattle.std.proofs.lemmas.Option.{slice_get-get_or}
use Rattle.std.specs.Prelude.{IsSome}
use Rattle.span_store.proofs.Lookups.{held, bare, get-map_of, byte_in_below}

pub slice_get-drop : (bs : List ℕ) (n k : ℕ) → slice_get (drop n bs) k ≡ slice_get bs (n + k)
slice_get-drop bs zero k = let e : k ≡ 0 + k = omega arith in ap (slice_get bs) e
slice_get-drop [] (suc n) k = refl
slice_get-drop (b ∷ bs) (suc n) k = let e : suc (n + k) ≡ suc n + k = omega arith in slice_get-drop bs n k ∙ ap (slice_get (b ∷ bs)) e

pub piece_here : (xs : List Extent) (e : Extent) (ys : List Extent) (from : ℕ) → AreExtents (xs ++ (e ∷ ys)) → e.0 ≤ from → from < end_of e
    → IsPiece (map_of (xs ++ (e ∷ ys))) from (Some (from, drop (from - e.0) e.1))
piece_here xs e ys from s le lt =
    let size : length (drop (from - e.0) e.1) ≡ length e.1 - (from - e.0) = length-drop (from - e.0) e.1 in
    let t = back xs (e ∷ ys) s in
    let fits : end_of e ≤ top = t.1 in (
      omega arith,
      omega arith,
      omega arith,
      λ a l u. absurd (omega arith),
      λ k l.
          let at : from + k ≡ e.0 + (from - e.0 + k) = omega arith in
          ap (get (map_of (xs ++ (e ∷ ys)))) at ∙ held xs e ys s (from - e.0 + k) (omega arith) ∙ sym (slice_get-drop e.1 (from - e.0) k),
    )

pub piece_next : (xs : List Extent) (e : Extent) (ys : List Extent) (from : ℕ) → AreExtents (xs ++ (e ∷ ys)) → EndBy from xs → from ≤ e.0
    → IsPiece (map_of (xs ++ (e ∷ ys))) from (Some e)
piece_next xs e ys from s b le =
    let t = back xs (e ∷ ys) s in (
      le,
      t.0,
      t.1,
      λ a l u. bare from e.0 a xs (e ∷ ys) b (let n : e.0 ≤ e.0 = omega arith in (n, StartFrom_less e.0 (end_of e) ys t.2 (omega arith))) l u,
      held xs e ys s,
    )

pub piece_none : (xs : List Extent) (from : ℕ) → EndBy from xs → IsPiece (map_of xs) from None
piece_none xs from b a l = get-map_of xs a ∙ byte_in_below from xs a None b l

-- ------ by the last extent below the next address
pub piece_in : (es : List Extent) (e : Extent) (from : ℕ) → es ≡ low (from + 1) es ++ high (from + 1) es → (w : EndsWith (low (from + 1) es) e) → AreExtents es → from < end_of e
    → IsPiece (map_of es) from (Some (from, drop (from - e.0) e.1))
piece_in es e from s w are lt =
    let all = whole (from + 1) es e s w in
    let b = last_below (from + 1) es e w in
    subst (λ l. IsPiece (map_of l) from (Some (from, drop (from - e.0) e.1))) (sym all) (piece_here w.0 e (high (from + 1) es) from (subst AreExtents all are) (omega arith) lt)

pub piece_after : {A : Type 0} (f : A → Extent) (r : Option A) (es xs ys : List Extent) (from : ℕ) → es ≡ xs ++ ys → AreExtents es → EndBy from xs → StartFrom (from + 1) ys
    → MatchOption r (ys ≡ []) (λ p. StartsWith ys (f p)) → IsPiece (map_of es) from (option_map f r)
piece_after f None es xs ys from s are b g m =
    let all : es ≡ xs = s ∙ ap (λ l. xs ++ l) m ∙ append-nil xs in
    subst (λ l. IsPiece (map_of l) from None) (sym all) (piece_none xs from b)
piece_after f (Some p) es xs ys from s are b g m =
    let all : es ≡ xs ++ (f p ∷ m.0) = s ∙ ap (λ l. xs ++ l) m.1 in
    let g' : StartFrom (from + 1) (f p ∷ m.0) = subst (StartFrom (from + 1)) m.1 g in
    subst (λ l. IsPiece (map_of l) from (Some (f p))) (sym all) (piece_next xs (f p) m.0 from (subst AreExtents all are) b (let l = g'.0 in omega arith))

pub ends_before : (es : List Extent) (e : Extent) (c : ℕ) → es ≡ low c es ++ high c es → (w : EndsWith (low c es) e) → AreExtents es → (n : ℕ) → end_of e ≤ n → EndBy n (low c es)
ends_before es e c s w are n le =
    let all = whole c es e s w in
    let are' = subst AreExtents all are in
    subst (EndBy n) (sym w.1) (EndBy-append n w.0 (e ∷ []) (EndBy_more e.0 n w.0 (front_ends w.0 e (high c es) are') (omega arith)) (le, tt))

-- ------ what the last extent below an address says of the ends at others
pub last_fits : (es : List Extent) (e : Extent) (c : ℕ) → es ≡ low c es ++ high c es → (w : EndsWith (low c es) e) → AreExtents es → end_of e ≤ top
last_fits es e c s w are = (back w.0 (e ∷ high c es) (subst AreExtents (whole c es e s w) are)).1

held_some : (xs : List Extent) (e : Extent) (ys : List Extent) → AreExtents (xs ++ (e ∷ ys)) → (a : ℕ) → e.0 ≤ a → a < end_of e → IsSome (get (map_of (xs ++ (e ∷ ys))) a)
held_some xs e ys s a l u =
    let at : e.0 + (a - e.0) ≡ a = omega arith in
    let there = ap (get (map_of (xs ++ (e ∷ ys)))) (sym at) ∙ held xs e ys s (a - e.0) (omega arith) ∙ slice_get-get_or e.1 (a - e.0) 0 (omega arith) in
    rw there refl

pub last_covers : (es : List Extent) (e : Extent) (c : ℕ) → es ≡ low c es ++ high c es → (w : EndsWith (low c es) e) → AreExtents es
    → (a : ℕ) → e.0 ≤ a → a < end_of e → IsSome (get (map_of es) a)
last_covers es e c s w are a l u =
    let all = whole c es e s w in
    subst (λ t. IsSome (get (map_of t) a)) (sym all) (held_some w.0 e (high c es) (subst AreExtents all are) a l u)

-- where parts end and start apart from an address, those below it are the first part
ends_low : (es xs ys : List Extent) (n : ℕ) → es ≡ xs ++ ys → AreExtents es → EndBy n xs → StartFrom n ys → EndBy n (low n es)
ends_low es xs ys n s are b f =
    let t : AreExtents (xs ++ ys) = subst AreExtents s are in
    subst (EndBy n) (sym (ap (low n) s ∙ low_cut n xs ys (front xs ys t) b f)) b

-- at the end of the last, and at any address behind it up to the next one
pub ends_behind : (es : List Extent) (e : Extent) (c n : ℕ) → es ≡ low c es ++ high c es → (w : EndsWith (low c es) e) → AreExtents es → end_of e ≤ n → (n ≤ c) ⊎ (n ≤ end_of e) → EndBy n (low n es)
ends_behind es e c n s w are le or =
    let all = whole c es e s w in
    let t = back w.0 (e ∷ high c es) (subst AreExtents all are) in
    ends_low es (low c es) (high c es) n s are (ends_before es e c s w are n le)
    (elim or [ inl l ↦ StartFrom_less n c (high c es) (high_from c es) l | inr l ↦ StartFrom_less n (end_of e) (high c es) t.2 l ])

-- at its start
pub ends_start : (es : List Extent) (e : Extent) (c : ℕ) → es ≡ low c es ++ high c es → (w : EndsWith (low c es) e) → AreExtents es → EndBy e.0 (low e.0 es)
ends_start es e c s w are =
    let all = whole c es e s w in
    let t = subst AreExtents all are in
    let b = back w.0 (e ∷ high c es) t in
    let here : e.0 ≤ e.0 = omega arith in
    ends_low es w.0 (e ∷ high c es) e.0 all are (front_ends w.0 e (high c es) t) (here, StartFrom_less e.0 (end_of e) (high c es) b.2 (omega arith))

-- where none starts below
pub ends_none : (es : List Extent) (c n : ℕ) → low c es ≡ [] → es ≡ low c es ++ high c es → AreExtents es → n ≤ c → EndBy n (low n es)
ends_none es c n e s are l = ends_low es [] (high c es) n (s ∙ ap (λ t. t ++ high c es) e) are tt (StartFrom_less n c (high c es) (high_from c es) l)

EndBy_one : (n : ℕ) (xs : List Extent) (e : Extent) (ys : List Extent) → EndBy n (xs ++ (e ∷ ys)) → end_of e ≤ n
EndBy_one n [] e ys b = b.0
EndBy_one n (x ∷ xs) e ys b = EndBy_one n xs e ys b.1

-- no other address than its start up to its end is one at which no extent goes over
pub not_over : (es : List Extent) (e : Extent) (c : ℕ) → es ≡ low c es ++ high c es → (w : EndsWith (low c es) e) → AreExtents es → (n : ℕ) → n < end_of e → EndBy n (low n es) → n ≤ e.0
not_over es e c s w are n lt b =
    elim (cases_lt e.0 n) [
      | inl l ↦
          let all = whole c es e s w in
          let parts : low n es ≡ low n w.0 ++ (e ∷ low n (high c es)) = ap (low n) all ∙ low-append n w.0 (e ∷ high c es) ∙ ap (λ t. low n w.0 ++ t) (low_keep n e (high c es) l) in
          let le = EndBy_one n (low n w.0) e (low n (high c es)) (subst (EndBy n) parts b) in
          absurd (omega arith)
      | inr g ↦ g
    ]
