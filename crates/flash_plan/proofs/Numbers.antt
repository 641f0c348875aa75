-- The numbers of the tasks that a draft names, and the units that are made with them.
use Rattle.std.proofs.Common.{◌≡◌, ◌⊎◌, inl, inr, ℕ, suc, ◌+◌, ◌-◌, ◌<◌, ◌≤◌, Bool, true, false, List, [], ◌∷◌, ◌++◌, length, map, drop, get_or, Some, None, if◌then◌else◌, refl, sym, ◌∙◌, ap, append_assoc, length-append, arith}
use Rattle.std.proofs.lemmas.List.{drop_more, map-append, append-nil, at_drop_all}
use Rattle.flash_plan.specs.declared.unit.Draft.{Draft}
use Rattle.flash_plan.specs.declared.unit.UnitPlan.{UnitPlan}
use Rattle.flash_plan.specs.Accepting.{numbers_from, after_of, unit_of, units_of}
use Rattle.flash_plan.specs.Numbering.{one_if, numbered_with, TakesLast}

-- ------ the numbers
one_more : (n : ℕ) (rest : List ℕ) (b : Bool) → (if b then n ∷ rest else rest) ≡ one_if b n ++ rest
one_more n rest true = refl
one_more n rest false = refl

pub numbers_on : (all ns new : List ℕ) (w l : ℕ) (test : ℕ → Bool) (r : Bool) → all ≡ ns ++ numbers_from w (l - w) test → w < l → r ≡ test w → new ≡ ns ++ one_if r w
    → all ≡ new ++ numbers_from (w + 1) (l - (w + 1)) test
numbers_on all ns new w l test r h lt e is =
    let left : l - w ≡ suc (l - (w + 1)) = omega (arith, lt) in
    let rest : List ℕ = numbers_from (w + 1) (l - (w + 1)) test in
    h ∙ ap (λ k. ns ++ numbers_from w k test) left ∙ ap (λ xs. ns ++ xs) (one_more w rest (test w)) ∙ ap (λ b. ns ++ (one_if b w ++ rest)) (sym e)
    ∙ sym (append_assoc ns (one_if r w) rest) ∙ ap (λ xs. xs ++ rest) (sym is)

pub numbers_end : (all ns : List ℕ) (w l : ℕ) (test : ℕ → Bool) → all ≡ ns ++ numbers_from w (l - w) test → l ≤ w → ns ≡ all
numbers_end all ns w l test h le =
    let left : l - w ≡ 0 = omega (arith, le) in
    sym (h ∙ ap (λ k. ns ++ numbers_from w k test) left ∙ append-nil ns)

-- ------ a function of each item
pub map_on : {A B : Type 0} (f : A → B) (all out new : List B) (xs : List A) (i : ℕ) (x : A) (y : B) → all ≡ out ++ map f (drop i xs) → i < length xs → x ≡ get_or xs i x → y ≡ f x
    → new ≡ out ++ y ∷ [] → all ≡ new ++ map f (drop (i + 1) xs)
map_on f all out new xs i x y h lt is e grown =
    let rest = map f (drop (i + 1) xs) in
    h ∙ ap (λ zs. out ++ map f zs) (drop_more xs i x lt ∙ ap (λ z. z ∷ drop (i + 1) xs) (sym is)) ∙ ap (λ z. out ++ z ∷ rest) (sym e)
    ∙ sym (append_assoc out (y ∷ []) rest) ∙ ap (λ zs. zs ++ rest) (sym grown)

pub map_end : {A B : Type 0} (f : A → B) (all out : List B) (xs : List A) (i : ℕ) → all ≡ out ++ map f (drop i xs) → length xs ≤ i → out ≡ all
map_end f all out xs i h le = sym (h ∙ at_drop_all (λ zs. out ++ map f zs) xs i le ∙ append-nil out)

-- ------ the last of two lists
head_same : {A : Type 0} (x y : A) (xs ys : List A) → x ∷ xs ≡ y ∷ ys → x ≡ y
head_same x y xs ys h = cc

tail_same : {A : Type 0} (x y : A) (xs ys : List A) → x ∷ xs ≡ y ∷ ys → xs ≡ ys
tail_same x y xs ys h = cc

last_same : {A : Type 0} (xs ys : List A) (x y : A) → xs ++ x ∷ [] ≡ ys ++ y ∷ [] → (xs ≡ ys) × (x ≡ y)
last_same [] [] x y h = (refl, head_same x y [] [] h)
last_same [] (b ∷ ys) x y h = absurd (omega (arith, ap length h, length-append ys (y ∷ [])))
last_same (a ∷ xs) [] x y h = absurd (omega (arith, ap length h, length-append xs (x ∷ [])))
last_same (a ∷ xs) (b ∷ ys) x y h =
    let heads : a ≡ b = head_same a b (xs ++ x ∷ []) (ys ++ y ∷ []) h in
    let later : (xs ≡ ys) × (x ≡ y) = last_same xs ys x y (tail_same a b (xs ++ x ∷ []) (ys ++ y ∷ []) h) in
    (ap (λ z. z ∷ xs) heads ∙ ap (λ zs. b ∷ zs) later.0, later.1)

-- ------ units from the last draft on
pub record IsTaken (ds left : List Draft) (afters : List (List ℕ)) (units : List UnitPlan) : Type 0 where
  pub numbers : afters ≡ map (after_of ds) left
  pub all : units_of ds ≡ map (unit_of ds) left ++ units

pub taken : (ds old new : List Draft) (afters rest : List (List ℕ)) (units more : List UnitPlan) (u : UnitPlan) → TakesLast old afters new rest (Some u) → IsTaken ds old afters units → more ≡ u ∷ units
    → IsTaken ds new rest more
taken ds old new afters rest units more u t h e =
    let d : Draft = t.0 in
    let after : List ℕ = t.1 in
    let both : rest ++ after ∷ [] ≡ map (after_of ds) new ++ after_of ds d ∷ [] = sym t.3 ∙ h.numbers ∙ ap (map (after_of ds)) t.2 ∙ map-append (after_of ds) new (d ∷ []) in
    let same : (rest ≡ map (after_of ds) new) × (after ≡ after_of ds d) = last_same rest (map (after_of ds) new) after (after_of ds d) both in
    let is : unit_of ds d ≡ u = sym (t.4 ∙ ap (numbered_with d) same.1) in
    record {
      numbers = same.0;
      all = h.all ∙ ap (λ xs. map (unit_of ds) xs ++ units) t.2 ∙ ap (λ xs. xs ++ units) (map-append (unit_of ds) new (d ∷ []))
          ∙ append_assoc (map (unit_of ds) new) (unit_of ds d ∷ []) units ∙ ap (λ x. map (unit_of ds) new ++ x ∷ units) is ∙ ap (λ xs. map (unit_of ds) new ++ xs) (sym e);
    }

pub shorter : (old new : List Draft) (afters rest : List (List ℕ)) (u : UnitPlan) → TakesLast old afters new rest (Some u) → length new < length old
shorter old new afters rest u t = omega (arith, ap length t.2, length-append new (t.0 ∷ []))

none_left : (ds left : List Draft) (afters : List (List ℕ)) → (left ≡ []) ⊎ (afters ≡ []) → afters ≡ map (after_of ds) left → left ≡ []
none_left ds left afters (inl e) h = e
none_left ds [] afters (inr e) h = refl
none_left ds (d ∷ left) afters (inr e) h = absurd (not_nil (after_of ds d) (map (after_of ds) left) (sym h ∙ e))
  where
    not_nil : (x : List ℕ) (xs : List (List ℕ)) → x ∷ xs ≡ [] → ⊥
    not_nil x xs p = cc

pub all_taken : (ds left new : List Draft) (afters rest : List (List ℕ)) (units : List UnitPlan) → TakesLast left afters new rest None → IsTaken ds left afters units → units ≡ units_of ds
all_taken ds left new afters rest units t h =
    let e : left ≡ [] = none_left ds left afters t h.numbers in
    sym (h.all ∙ ap (λ xs. map (unit_of ds) xs ++ units) e)

pub none_taken : (ds : List Draft) (afters : List (List ℕ)) (left : List Draft) (numbers : List (List ℕ)) (units : List UnitPlan) → afters ≡ map (after_of ds) ds → left ≡ ds → numbers ≡ afters → units ≡ []
    → IsTaken ds left numbers units
none_taken ds afters left numbers units h el en eu = record {
  numbers = en ∙ h ∙ ap (map (after_of ds)) (sym el);
  all = sym (append-nil (map (unit_of ds) ds)) ∙ ap (λ xs. map (unit_of ds) xs ++ []) (sym el) ∙ ap (λ xs. map (unit_of ds) left ++ xs) (sym eu);
}
