-- Extents below an address and from it on.
use Rattle.std.proofs.Common.{◌&&◌, append_assoc, suc, ◌≡◌, ℕ, ◌+◌, ◌<◌, ◌≤◌, ◌⊎◌, not, List, [], ◌∷◌, ◌++◌, length, Some, cond, true, false, append-nil, refl, sym, ap, ◌∙◌, subst, inl, inr, arith}
use Rattle.std.proofs.lemmas.Bool.{cases_lt}
use Rattle.std.specs.List.Sorted.{IsStrictlySortedBy}
use Rattle.std.specs.List.{AllByRecursion}
use Rattle.std.specs.Ordering.{nat_cmp, is_le, is_eq, match_ordering}
use Rattle.std.specs.declared.cmp.Ordering.TheVariants.{Less, Equal, Greater}
use Rattle.std.specs.Cmp.{nat_cmp_is, ranked}
use Rattle.std.specs.Map.{keys_of, lookup, set_value, remove_entry}
use Rattle.std.specs.BTreeMap.{insert_entry, is_at}
use Rattle.std.specs.BTreeMap.Range.{entries_between}
use Rattle.std.specs.declared.ops.Bound.TheVariants.{Included, Excluded}
use Rattle.std.proofs.lemmas.List.Elements.{filter-append}
use Rattle.span_store.specs.Extents.{Extent, end_of, EndBy, StartFrom, AreExtents, low, high, EndsWith}

-- each starts above an address
abbrev pub StartAfter : ℕ → List Extent → Type 0
StartAfter n [] = Unit {0}
StartAfter n (e ∷ es) = (n < e.0) × StartAfter n es

-- each starts below an address
abbrev pub StartBelow : ℕ → List Extent → Type 0
StartBelow n [] = Unit {0}
StartBelow n (e ∷ es) = (e.0 < n) × StartBelow n es

-- the starts ascend
abbrev pub Ascend : List Extent → Type 0
Ascend [] = Unit {0}
Ascend (e ∷ es) = StartAfter e.0 es × Ascend es

pub le_true : (c q : ℕ) → c ≤ q → is_le (nat_cmp c q) ≡ true
le_true c q h =
    elim (cases_lt c q) [
      | inl l ↦ ap is_le (sym (nat_cmp_is c q Less l))
      | inr l ↦ ap is_le (sym (nat_cmp_is c q Equal (omega arith)))
    ]

pub le_false : (c q : ℕ) → q < c → is_le (nat_cmp c q) ≡ false
le_false c q h = ap is_le (sym (nat_cmp_is c q Greater h))

pub low_skip : (c : ℕ) (e : Extent) (es : List Extent) → c ≤ e.0 → low c (e ∷ es) ≡ low c es
low_skip c e es h = ap (λ b. cond (not b) (e ∷ low c es) (low c es)) (le_true c e.0 h)

pub low_keep : (c : ℕ) (e : Extent) (es : List Extent) → e.0 < c → low c (e ∷ es) ≡ e ∷ low c es
low_keep c e es h = ap (λ b. cond (not b) (e ∷ low c es) (low c es)) (le_false c e.0 h)

pub high_skip : (c : ℕ) (e : Extent) (es : List Extent) → e.0 < c → high c (e ∷ es) ≡ high c es
high_skip c e es h = rw (le_false c e.0 h) refl

pub high_keep : (c : ℕ) (e : Extent) (es : List Extent) → c ≤ e.0 → high c (e ∷ es) ≡ e ∷ high c es
high_keep c e es h = rw (le_true c e.0 h) refl

after_all : (n : ℕ) (es : List Extent) → AllByRecursion (λ y. nat_cmp n y ≡ Less) (keys_of es) → StartAfter n es
after_all n [] a = tt
after_all n (e ∷ es) a = (ranked n e.0 Less (sym a.0), after_all n es a.1)

pub ascend : (es : List Extent) → IsStrictlySortedBy nat_cmp (keys_of es) → Ascend es
unfolding IsStrictlySortedBy
ascend [] s = tt
ascend (e ∷ es) s = (after_all e.0 es s.0, ascend es s.1)

pub StartAfter_from : (c n : ℕ) (es : List Extent) → StartAfter n es → c ≤ n + 1 → StartFrom c es
StartAfter_from c n [] s h = tt
StartAfter_from c n (e ∷ es) s h = (let l = s.0 in omega arith, StartAfter_from c n es s.1 h)

pub StartFrom_after : (n : ℕ) (es : List Extent) → StartFrom (n + 1) es → StartAfter n es
StartFrom_after n [] s = tt
StartFrom_after n (e ∷ es) s = (let l = s.0 in omega arith, StartFrom_after n es s.1)

pub low_none : (c : ℕ) (es : List Extent) → StartFrom c es → low c es ≡ []
low_none c [] s = refl
low_none c (e ∷ es) s = low_skip c e es s.0 ∙ low_none c es s.1

pub high_all : (c : ℕ) (es : List Extent) → StartFrom c es → high c es ≡ es
high_all c [] s = refl
high_all c (e ∷ es) s = high_keep c e es s.0 ∙ ap (λ l. e ∷ l) (high_all c es s.1)

pub low_all : (c : ℕ) (es : List Extent) → StartBelow c es → low c es ≡ es
low_all c [] s = refl
low_all c (e ∷ es) s = low_keep c e es s.0 ∙ ap (λ l. e ∷ l) (low_all c es s.1)

pub high_none : (c : ℕ) (es : List Extent) → StartBelow c es → high c es ≡ []
high_none c [] s = refl
high_none c (e ∷ es) s = high_skip c e es s.0 ∙ high_none c es s.1

pub low-append : (c : ℕ) (xs ys : List Extent) → low c (xs ++ ys) ≡ low c xs ++ low c ys
low-append c xs ys = filter-append _ xs ys

pub high-append : (c : ℕ) (xs ys : List Extent) → high c (xs ++ ys) ≡ high c xs ++ high c ys
high-append c xs ys = filter-append _ xs ys

pub split : (c : ℕ) (es : List Extent) → Ascend es → es ≡ low c es ++ high c es
split c [] s = refl
split c (e ∷ es) s =
    elim (cases_lt e.0 c) [
      | inl l ↦ ap (λ t. e ∷ t) (split c es s.1) ∙ sym (ap (λ t. t ++ high c (e ∷ es)) (low_keep c e es l) ∙ ap (λ t. e ∷ (low c es ++ t)) (high_skip c e es l))
      | inr g ↦
          let from : StartFrom c es = StartAfter_from c e.0 es s.0 (omega arith) in
          sym (ap (λ t. t ++ high c (e ∷ es)) (low_skip c e es g ∙ low_none c es from) ∙ high_keep c e es g ∙ ap (λ t. e ∷ t) (high_all c es from))
    ]

pub low_below : (c : ℕ) (es : List Extent) → StartBelow c (low c es)
low_below c [] = tt
low_below c (e ∷ es) =
    elim (cases_lt e.0 c) [
      | inl l ↦ subst (StartBelow c) (sym (low_keep c e es l)) (l, low_below c es)
      | inr g ↦ subst (StartBelow c) (sym (low_skip c e es g)) (low_below c es)
    ]

pub high_from : (c : ℕ) (es : List Extent) → StartFrom c (high c es)
high_from c [] = tt
high_from c (e ∷ es) =
    elim (cases_lt e.0 c) [
      | inl l ↦ subst (StartFrom c) (sym (high_skip c e es l)) (high_from c es)
      | inr g ↦ subst (StartFrom c) (sym (high_keep c e es g)) (g, high_from c es)
    ]

pub StartBelow_last : (c : ℕ) (xs : List Extent) (e : Extent) → StartBelow c (xs ++ (e ∷ [])) → e.0 < c
StartBelow_last c [] e s = s.0
StartBelow_last c (x ∷ xs) e s = StartBelow_last c xs e s.1

-- ------ parts of a list of extents
pub EndBy_more : (m n : ℕ) (es : List Extent) → EndBy m es → m ≤ n → EndBy n es
EndBy_more m n [] s h = tt
EndBy_more m n (e ∷ es) s h = (let l = s.0 in omega arith, EndBy_more m n es s.1 h)

pub StartFrom_less : (m n : ℕ) (es : List Extent) → StartFrom n es → m ≤ n → StartFrom m es
StartFrom_less m n [] s h = tt
StartFrom_less m n (e ∷ es) s h = (let l = s.0 in omega arith, StartFrom_less m n es s.1 h)

pub EndBy-append : (n : ℕ) (xs ys : List Extent) → EndBy n xs → EndBy n ys → EndBy n (xs ++ ys)
EndBy-append n [] ys s t = t
EndBy-append n (x ∷ xs) ys s t = (s.0, EndBy-append n xs ys s.1 t)

pub StartFrom-append : (n : ℕ) (xs ys : List Extent) → StartFrom n xs → StartFrom n ys → StartFrom n (xs ++ ys)
StartFrom-append n [] ys s t = t
StartFrom-append n (x ∷ xs) ys s t = (s.0, StartFrom-append n xs ys s.1 t)

pub StartFrom_front : (n : ℕ) (xs ys : List Extent) → StartFrom n (xs ++ ys) → StartFrom n xs
StartFrom_front n [] ys s = tt
StartFrom_front n (x ∷ xs) ys s = (s.0, StartFrom_front n xs ys s.1)

pub EndBy_front : (n : ℕ) (xs ys : List Extent) → EndBy n (xs ++ ys) → EndBy n xs
EndBy_front n [] ys b = tt
EndBy_front n (x ∷ xs) ys b = (b.0, EndBy_front n xs ys b.1)

StartFrom_at : (n : ℕ) (xs : List Extent) (e : Extent) (ys : List Extent) → StartFrom n (xs ++ (e ∷ ys)) → n ≤ e.0
StartFrom_at n [] e ys s = s.0
StartFrom_at n (x ∷ xs) e ys s = StartFrom_at n xs e ys s.1

pub back : (xs ys : List Extent) → AreExtents (xs ++ ys) → AreExtents ys
back [] ys s = s
back (x ∷ xs) ys s = back xs ys s.3

pub front : (xs ys : List Extent) → AreExtents (xs ++ ys) → AreExtents xs
front [] ys s = tt
front (x ∷ xs) ys s = (s.0, s.1, StartFrom_front (end_of x) xs ys s.2, front xs ys s.3)

pub front_ends : (xs : List Extent) (e : Extent) (ys : List Extent) → AreExtents (xs ++ (e ∷ ys)) → EndBy e.0 xs
front_ends [] e ys s = tt
front_ends (x ∷ xs) e ys s = (StartFrom_at (end_of x) xs e ys s.2, front_ends xs e ys s.3)

pub joined : (n : ℕ) (xs ys : List Extent) → AreExtents xs → AreExtents ys → EndBy n xs → StartFrom n ys → AreExtents (xs ++ ys)
joined n [] ys s t b f = t
joined n (x ∷ xs) ys s t b f =
    let l = b.0 in (s.0, s.1, StartFrom-append (end_of x) xs ys s.2 (StartFrom_less (end_of x) n ys f l), joined n xs ys s.3 t b.1 f)

pub below_ends : (n : ℕ) (es : List Extent) → AreExtents es → EndBy n es → StartBelow n es
below_ends n [] s b = tt
below_ends n (e ∷ es) s b = (let l = b.0 in let p = s.0 in omega arith, below_ends n es s.3 b.1)

pub ascending : (es : List Extent) → AreExtents es → Ascend es
ascending [] s = tt
ascending (e ∷ es) s = (let p = s.0 in StartFrom_after e.0 es (StartFrom_less (e.0 + 1) (end_of e) es s.2 (omega arith)), ascending es s.3)

-- where no extent goes over an address, those below it and the others are the two parts
pub low_cut : (n : ℕ) (xs ys : List Extent) → AreExtents xs → EndBy n xs → StartFrom n ys → low n (xs ++ ys) ≡ xs
low_cut n xs ys s b f = low-append n xs ys ∙ ap (λ t. low n xs ++ t) (low_none n ys f) ∙ ap (λ t. t ++ []) (low_all n xs (below_ends n xs s b)) ∙ append-nil xs

pub high_cut : (n : ℕ) (xs ys : List Extent) → AreExtents xs → EndBy n xs → StartFrom n ys → high n (xs ++ ys) ≡ ys
high_cut n xs ys s b f = high-append n xs ys ∙ ap (λ t. t ++ high n ys) (high_none n xs (below_ends n xs s b)) ∙ high_all n ys f

-- ------ between two addresses
pub none_between : (from to : ℕ) (es : List Extent) → from ≤ to → Ascend es → entries_between nat_cmp (Included from) (Excluded to) es ≡ [] → es ≡ low from es ++ high to es
none_between from to [] h s e = refl
none_between from to (x ∷ es) h s e =
    elim (cases_lt x.0 from) [
      | inl l ↦
          let rest : entries_between nat_cmp (Included from) (Excluded to) es ≡ [] = rw (le_false from x.0 l) at e in
          ap (λ t. x ∷ t) (none_between from to es h s.1 rest) ∙ sym (ap (λ t. t ++ high to (x ∷ es)) (low_keep from x es l) ∙ ap (λ t. x ∷ (low from es ++ t)) (high_skip to x es (omega arith)))
      | inr g ↦ elim (cases_lt x.0 to) [
        | inl u ↦
            let some : x ∷ entries_between nat_cmp (Included from) (Excluded to) es ≡ [] = rw (le_true from x.0 g, le_false to x.0 u) at e in
            let none : suc (length (entries_between nat_cmp (Included from) (Excluded to) es)) ≡ 0 = ap length some in absurd (omega arith)
        | inr u ↦
            let from_to : StartFrom to es = StartAfter_from to x.0 es s.0 (omega arith) in
            let from_from : StartFrom from es = StartFrom_less from to es from_to h in
            sym (ap (λ t. t ++ high to (x ∷ es)) (low_skip from x es g ∙ low_none from es from_from) ∙ high_keep to x es u ∙ ap (λ t. x ∷ t) (high_all to es from_to))
      ]
    ]

is_at_other : (k q : ℕ) → (k < q) ⊎ (q < k) → is_at (nat_cmp k) q ≡ false
is_at_other k q (inl h) = ap is_eq (sym (nat_cmp_is k q Less h))
is_at_other k q (inr h) = ap is_eq (sym (nat_cmp_is k q Greater h))

is_at_same : (k q : ℕ) → k ≡ q → is_at (nat_cmp k) q ≡ true
is_at_same k q h = ap is_eq (sym (nat_cmp_is k q Equal h))

-- without one that starts from an address on, the ones below it stay
pub low-remove : (from k : ℕ) (es : List Extent) → from ≤ k → low from (remove_entry (is_at (nat_cmp k)) es) ≡ low from es
low-remove from k [] h = refl
low-remove from k (e ∷ es) h =
    elim (cases_lt k e.0) [
      | inl l ↦ rw (is_at_other k e.0 (inl l)) (ap (λ t. cond (not (is_le (nat_cmp from e.0))) (e ∷ t) t) (low-remove from k es h))
      | inr from_e ↦ elim (cases_lt e.0 k) [
        | inl l ↦ rw (is_at_other k e.0 (inr l)) (ap (λ t. cond (not (is_le (nat_cmp from e.0))) (e ∷ t) t) (low-remove from k es h))
        | inr g ↦ rw (is_at_same k e.0 (omega arith)) (sym (low_skip from e es (omega arith)))
      ]
    ]

pub high-remove : (to k : ℕ) (es : List Extent) → k < to → high to (remove_entry (is_at (nat_cmp k)) es) ≡ high to es
high-remove to k [] h = refl
high-remove to k (e ∷ es) h =
    elim (cases_lt k e.0) [
      | inl l ↦ rw (is_at_other k e.0 (inl l)) (ap (λ t. cond (is_le (nat_cmp to e.0) && true) (e ∷ t) t) (high-remove to k es h))
      | inr from_e ↦ elim (cases_lt e.0 k) [
        | inl l ↦ rw (is_at_other k e.0 (inr l)) (ap (λ t. cond (is_le (nat_cmp to e.0) && true) (e ∷ t) t) (high-remove to k es h))
        | inr g ↦ rw (is_at_same k e.0 (omega arith)) (sym (high_skip to e es (omega arith)))
      ]
    ]

-- ------ one extent among others
pub lookup_there : (k : ℕ) (b : List ℕ) (xs ys : List Extent) → StartBelow k xs → lookup (is_at (nat_cmp k)) (xs ++ ((k, b) ∷ ys)) ≡ Some b
lookup_there k b [] ys s = rw (is_at_same k k refl) refl
lookup_there k b (x ∷ xs) ys s = rw (is_at_other k x.0 (inr s.0)) (lookup_there k b xs ys s.1)

pub set_there : (k : ℕ) (b c : List ℕ) (xs ys : List Extent) → StartBelow k xs → set_value (is_at (nat_cmp k)) (xs ++ ((k, b) ∷ ys)) c ≡ xs ++ ((k, c) ∷ ys)
set_there k b c [] ys s = rw (is_at_same k k refl) refl
set_there k b c (x ∷ xs) ys s = rw (is_at_other k x.0 (inr s.0)) (ap (λ t. x ∷ t) (set_there k b c xs ys s.1))

-- ------ the last extent below an address
pub whole : (c : ℕ) (es : List Extent) (e : Extent) → es ≡ low c es ++ high c es → (w : EndsWith (low c es) e) → es ≡ w.0 ++ (e ∷ high c es)
whole c es e s w = s ∙ ap (λ t. t ++ high c es) w.1 ∙ append_assoc w.0 (e ∷ []) (high c es)

pub last_below : (c : ℕ) (es : List Extent) (e : Extent) → (w : EndsWith (low c es) e) → e.0 < c
last_below c es e w = StartBelow_last c w.0 e (subst (StartBelow c) w.1 (low_below c es))

-- ------ an extent of its own
pub insert_less : (k : ℕ) (b : List ℕ) (e : Extent) (es : List Extent) → k < e.0 → insert_entry nat_cmp (e ∷ es) k b ≡ (k, b) ∷ e ∷ es
insert_less k b e es h = ap (λ o. match_ordering o ((k, b) ∷ e ∷ es) ((e.0, b) ∷ es) (e ∷ insert_entry nat_cmp es k b)) (sym (nat_cmp_is k e.0 Less h))

insert_same : (k : ℕ) (b : List ℕ) (e : Extent) (es : List Extent) → k ≡ e.0 → insert_entry nat_cmp (e ∷ es) k b ≡ (e.0, b) ∷ es
insert_same k b e es h = ap (λ o. match_ordering o ((k, b) ∷ e ∷ es) ((e.0, b) ∷ es) (e ∷ insert_entry nat_cmp es k b)) (sym (nat_cmp_is k e.0 Equal h))

pub insert_more : (k : ℕ) (b : List ℕ) (e : Extent) (es : List Extent) → e.0 < k → insert_entry nat_cmp (e ∷ es) k b ≡ e ∷ insert_entry nat_cmp es k b
insert_more k b e es h = ap (λ o. match_ordering o ((k, b) ∷ e ∷ es) ((e.0, b) ∷ es) (e ∷ insert_entry nat_cmp es k b)) (sym (nat_cmp_is k e.0 Greater h))

pub low-insert : (k : ℕ) (b : List ℕ) (es : List Extent) → Ascend es → low (k + 1) (insert_entry nat_cmp es k b) ≡ low k es ++ ((k, b) ∷ [])
low-insert k b [] s = low_keep (k + 1) (k, b) [] (omega arith)
low-insert k b (e ∷ es) s =
    elim (cases_lt k e.0) [
      | inl l ↦
          let later : StartFrom (k + 1) (e ∷ es) = (omega arith, StartAfter_from (k + 1) e.0 es s.0 (omega arith)) in
          ap (low (k + 1)) (insert_less k b e es l)
          ∙ low_keep (k + 1) (k, b) (e ∷ es) (omega arith) ∙ ap (λ t. (k, b) ∷ t) (low_none (k + 1) (e ∷ es) later)
          ∙ sym (ap (λ t. t ++ ((k, b) ∷ [])) (low_none k (e ∷ es) (StartFrom_less k (k + 1) (e ∷ es) later (omega arith))))
      | inr ge ↦ elim (cases_lt e.0 k) [
        | inl l ↦
            ap (low (k + 1)) (insert_more k b e es l)
            ∙ low_keep (k + 1) e (insert_entry nat_cmp es k b) (omega arith) ∙ ap (λ t. e ∷ t) (low-insert k b es s.1)
            ∙ sym (ap (λ t. t ++ ((k, b) ∷ [])) (low_keep k e es l))
        | inr le ↦
            let same : k ≡ e.0 = omega arith in
            let later : StartFrom (k + 1) es = StartAfter_from (k + 1) e.0 es s.0 (omega arith) in
            ap (low (k + 1)) (insert_same k b e es same)
            ∙ low_keep (k + 1) (e.0, b) es (omega arith) ∙ ap (λ t. (e.0, b) ∷ t) (low_none (k + 1) es later) ∙ ap (λ a. (a, b) ∷ []) (sym same)
            ∙ sym (ap (λ t. t ++ ((k, b) ∷ [])) (low_skip k e es (omega arith) ∙ low_none k es (StartFrom_less k (k + 1) es later (omega arith))))
      ]
    ]

pub high-insert : (to k : ℕ) (b : List ℕ) (es : List Extent) → k < to → high to (insert_entry nat_cmp es k b) ≡ high to es
high-insert to k b [] h = high_skip to (k, b) [] h
high-insert to k b (e ∷ es) h =
    elim (cases_lt k e.0) [
      | inl l ↦ ap (high to) (insert_less k b e es l) ∙ high_skip to (k, b) (e ∷ es) h
      | inr ge ↦ elim (cases_lt e.0 k) [
        | inl l ↦
            ap (high to) (insert_more k b e es l)
            ∙ high_skip to e (insert_entry nat_cmp es k b) (omega arith) ∙ high-insert to k b es h ∙ sym (high_skip to e es (omega arith))
        | inr le ↦ ap (high to) (insert_same k b e es (omega arith)) ∙ high_skip to (e.0, b) es (omega arith) ∙ sym (high_skip to e es (omega arith))
      ]
    ]

pub high_twice : (from to : ℕ) (es : List Extent) → from ≤ to → high to (high from es) ≡ high to es
high_twice from to [] h = refl
high_twice from to (e ∷ es) h =
    elim (cases_lt e.0 from) [
      | inl l ↦ ap (high to) (high_skip from e es l) ∙ high_twice from to es h ∙ sym (high_skip to e es (omega arith))
      | inr g ↦ ap (high to) (high_keep from e es g) ∙ ap (λ t. cond (is_le (nat_cmp to e.0) && true) (e ∷ t) t) (high_twice from to es h)
    ]

pub high_are : (c : ℕ) (es : List Extent) → AreExtents es → AreExtents (high c es)
high_are c es s = back (low c es) (high c es) (subst AreExtents (split c es (ascending es s)) s)

pub low_are : (c : ℕ) (es : List Extent) → AreExtents es → AreExtents (low c es)
low_are c es s = front (low c es) (high c es) (subst AreExtents (split c es (ascending es s)) s)
