-- Tasks by their number, and the least number of which a test holds.
use Rattle.std.proofs.Common.{◌≡◌, ℕ, zero, suc, ◌+◌, ◌-◌, ◌<◌, ◌||◌, Bool, true, false, List, [], ◌∷◌, length, drop, get_or, slice_get, Option, Some, refl, sym, ◌∙◌, ap, arith}
use Rattle.std.specs.List.{list_any}
use Rattle.std.proofs.lemmas.List.{drop_more}
use Rattle.flash_base.specs.Lists.{Each}
use Rattle.flash_plan.specs.declared.unit.Draft.{Draft}
use Rattle.flash_plan.specs.Accepting.{draft_of, first_from, is_some_from}

-- ------ one task
pub draft_of-get : (ds : List Draft) (n : ℕ) (d : Draft) → n < length ds → d ≡ get_or ds n d → d ≡ draft_of ds n
draft_of-get [] n d lt h = absurd (omega (arith, lt))
draft_of-get (x ∷ xs) zero d lt h = h
draft_of-get (x ∷ xs) (suc n) d lt h = draft_of-get xs n d (omega (arith, lt)) h

pub each_draft : (P : Draft → Type 0) (ds : List Draft) (n : ℕ) → Each P ds → n < length ds → P (draft_of ds n)
each_draft P [] n h lt = absurd (omega (arith, lt))
each_draft P (d ∷ ds) zero h lt = h.0
each_draft P (d ∷ ds) (suc n) h lt = each_draft P ds n h.1 (omega (arith, lt))

pub item_read : {A : Type 0} (xs : List A) (i : ℕ) (x : A) → slice_get xs i ≡ Some x → x ≡ get_or xs i x
item_read [] i x h = cc
item_read (y ∷ ys) zero x h = cc
item_read (y ∷ ys) (suc i) x h = item_read ys i x h

-- ------ the first task of which a test holds
first_not : (n k : ℕ) (test : ℕ → Bool) → test n ≡ false → first_from n (suc k) test ≡ first_from (n + 1) k test
first_not n k test h = rw h refl

pub first_on : (all : Option ℕ) (n l : ℕ) (test : ℕ → Bool) (r : Bool) → all ≡ first_from n (l - n) test → n < l → r ≡ test n → r ≡ false
    → all ≡ first_from (n + 1) (l - (n + 1)) test
first_on all n l test r h lt e f =
    let left : l - n ≡ suc (l - (n + 1)) = omega (arith, lt) in
    h ∙ ap (λ k. first_from n k test) left ∙ first_not n (l - (n + 1)) test (sym e ∙ f)

-- ------ some number of which a test holds
some_not : (n k : ℕ) (test : ℕ → Bool) → test n ≡ false → is_some_from n (suc k) test ≡ is_some_from (n + 1) k test
some_not n k test h = rw h refl

some_at : (n k : ℕ) (test : ℕ → Bool) → test n ≡ true → is_some_from n (suc k) test ≡ true
some_at n k test h = rw h refl

pub some_on : (all : Bool) (m n : ℕ) (test : ℕ → Bool) (r : Bool) → all ≡ is_some_from m (n - m) test → m < n → r ≡ test m → r ≡ false
    → all ≡ is_some_from (m + 1) (n - (m + 1)) test
some_on all m n test r h lt e f =
    let left : n - m ≡ suc (n - (m + 1)) = omega (arith, lt) in
    h ∙ ap (λ k. is_some_from m k test) left ∙ some_not m (n - (m + 1)) test (sym e ∙ f)

pub some_found : (all : Bool) (m n : ℕ) (test : ℕ → Bool) (r : Bool) → all ≡ is_some_from m (n - m) test → m < n → r ≡ test m → r ≡ true → true ≡ all
some_found all m n test r h lt e f =
    let left : n - m ≡ suc (n - (m + 1)) = omega (arith, lt) in
    sym (h ∙ ap (λ k. is_some_from m k test) left ∙ some_at m (n - (m + 1)) test (sym e ∙ f))

-- ------ some item of which a test holds
any_step : {A : Type 0} (test : A → Bool) (xs : List A) (i : ℕ) (x : A) → i < length xs → x ≡ get_or xs i x
    → list_any test (drop i xs) ≡ (test x || list_any test (drop (i + 1) xs))
any_step test xs i x lt is = ap (list_any test) (drop_more xs i x lt ∙ ap (λ y. y ∷ drop (i + 1) xs) (sym is))

pub any_on : {A : Type 0} (all : Bool) (test : A → Bool) (xs : List A) (i : ℕ) (x : A) (r : Bool) → all ≡ list_any test (drop i xs) → i < length xs → x ≡ get_or xs i x
    → r ≡ test x → r ≡ false → all ≡ list_any test (drop (i + 1) xs)
any_on all test xs i x r h lt is e f =
    h ∙ any_step test xs i x lt is ∙ ap (λ b. b || list_any test (drop (i + 1) xs)) (sym e ∙ f)

pub any_found : {A : Type 0} (all : Bool) (test : A → Bool) (xs : List A) (i : ℕ) (x : A) (r : Bool) → all ≡ list_any test (drop i xs) → i < length xs → x ≡ get_or xs i x
    → r ≡ test x → r ≡ true → true ≡ all
any_found all test xs i x r h lt is e f =
    sym (h ∙ any_step test xs i x lt is ∙ ap (λ b. b || list_any test (drop (i + 1) xs)) (sym e ∙ f))
