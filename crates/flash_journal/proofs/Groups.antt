-- The entries of a group, their bodies and their gates.
use Rattle.std.proofs.Common.{◌≡◌, ◌⊎◌, inl, inr, ℕ, zero, suc, ◌+◌, ◌*◌, ◌-◌, ◌<◌, ◌≤◌, true, false, Bool, List, [], ◌∷◌, ◌++◌, length, get_or, take, refl, sym, ◌∙◌, ap, subst, arith, length-append, append_assoc}
use Rattle.std.specs.Prelude.{slice_index, ◌||◌, replicate}
use Rattle.std.proofs.lemmas.Bool.{cases_Bool, both_ways}
use Rattle.std.proofs.lemmas.List.{get_or_append_left, get_or-append_right}
use Rattle.flash_base.specs.Lists.{Each}
use Rattle.flash_plan.specs.declared.outcome.Entry.{Entry}
use Rattle.flash_plan.specs.declared.outcome.Entry.TheVariants.{Begun}
use Rattle.flash_plan.specs.Outcomes.{same_entry}
use Rattle.journal_model.specs.Records.{body_of}
use Rattle.journal_steps.specs.Read.{is_among, AreOnce}
use Rattle.journal_steps.proofs.Settled.{body_size}
use Rattle.journal_steps.proofs.Several.{nth_entry, among_at}
use Rattle.journal_steps.proofs.One.{same_of}
use Rattle.flash_journal.specs.Bodies.{bodies_of}

pub bodies_size : (es : List Entry) → length (bodies_of es) ≡ 16 * length es
bodies_size [] = refl
bodies_size (e ∷ es) = length-append (body_of e) (bodies_of es) ∙ omega (arith, body_size e, bodies_size es)

pub bodies_at : (es : List Entry) (j t : ℕ) → j < length es → t < 16 → slice_index (bodies_of es) (16 * j + t) ≡ slice_index (body_of (nth_entry es j)) t
bodies_at [] j t lt tlt = absurd (omega (arith, lt))
bodies_at (e ∷ es) zero t lt tlt =
    let at : 16 * zero + t ≡ t = omega arith in
    ap (λ (k : ℕ). slice_index (body_of e ++ bodies_of es) k) at ∙ get_or_append_left (body_of e) (bodies_of es) 0 t (omega (arith, tlt, body_size e))
bodies_at (e ∷ es) (suc j) t lt tlt =
    let at : 16 * suc j + t - 16 ≡ 16 * j + t = omega arith in
    get_or-append_right (body_of e) (bodies_of es) 16 (16 * suc j + t) 0 (body_size e) (omega arith)
    ∙ ap (λ (k : ℕ). slice_index (bodies_of es) k) at ∙ bodies_at es j t (omega (arith, lt)) tlt

bodies_push : (es : List Entry) (e : Entry) → bodies_of (es ++ e ∷ []) ≡ bodies_of es ++ body_of e
bodies_push [] e = no_more (body_of e)
  where
    no_more : (xs : List ℕ) → xs ++ [] ≡ xs
    no_more [] = refl
    no_more (x ∷ xs) = ap (λ (ys : List ℕ). x ∷ ys) (no_more xs)
bodies_push (x ∷ xs) e = ap (λ (bs : List ℕ). body_of x ++ bs) (bodies_push xs e) ∙ sym (append_assoc (body_of x) (bodies_of xs) (body_of e))

-- one entry more of a list
pub take_nth : (es : List Entry) (i : ℕ) → i < length es → take (i + 1) es ≡ take i es ++ (nth_entry es i ∷ [])
take_nth [] i lt = absurd (omega (arith, lt))
take_nth (x ∷ xs) zero lt = refl
take_nth (x ∷ xs) (suc i) lt =
    let next : suc i + 1 ≡ suc (i + 1) = omega arith in
    ap (λ (k : ℕ). take k (x ∷ xs)) next ∙ ap (λ (ys : List Entry). x ∷ ys) (take_nth xs i (omega (arith, lt)))

pub take_all : (es : List Entry) (n : ℕ) → n ≡ length es → take n es ≡ es
take_all es n is = ap (λ (k : ℕ). take k es) is ∙ whole es
  where
    whole : (xs : List Entry) → take (length xs) xs ≡ xs
    whole [] = refl
    whole (x ∷ xs) = ap (λ (ys : List Entry). x ∷ ys) (whole xs)

-- one body more
pub bodies_more : (old new text : List ℕ) (es : List Entry) (i : ℕ) → i < length es → text ≡ body_of (nth_entry es i)
    → take (16 * i) old ≡ bodies_of (take i es) → take (16 * i + length text) new ≡ take (16 * i) old ++ text → take (16 * (i + 1)) new ≡ bodies_of (take (i + 1) es)
bodies_more old new text es i lt spelt was put =
    let size : length text ≡ 16 = ap length spelt ∙ body_size (nth_entry es i) in
    let at : 16 * (i + 1) ≡ 16 * i + length text = omega (arith, size) in
    ap (λ (k : ℕ). take k new) at ∙ put ∙ (λ j. was j ++ spelt j) ∙ sym (ap bodies_of (take_nth es i lt) ∙ bodies_push (take i es) (nth_entry es i))

pub take_replicate : (n k : ℕ) (x : ℕ) → n ≤ k → take n (replicate k x) ≡ replicate n x
take_replicate zero k x le = refl
take_replicate (suc n) zero x le = absurd (omega (arith, le))
take_replicate (suc n) (suc k) x le = ap (λ (xs : List ℕ). x ∷ xs) (take_replicate n k x (omega (arith, le)))

pub replicate_at : (n k x : ℕ) → k < n → slice_index (replicate n x) k ≡ x
replicate_at zero k x lt = absurd (omega (arith, lt))
replicate_at (suc n) zero x lt = refl
replicate_at (suc n) (suc k) x lt = replicate_at n k x (omega (arith, lt))

-- each of a list, and each of its first
pub each_nth : (P : Entry → Type 0) (es : List Entry) (j : ℕ) → Each P es → j < length es → P (nth_entry es j)
each_nth P [] j all lt = absurd (omega (arith, lt))
each_nth P (e ∷ es) zero all lt = all.0
each_nth P (e ∷ es) (suc j) all lt = each_nth P es j all.1 (omega (arith, lt))

pub each_take : (P : Entry → Type 0) (es : List Entry) (n : ℕ) → Each P es → Each P (take n es)
each_take P [] zero all = tt
each_take P [] (suc n) all = tt
each_take P (e ∷ es) zero all = tt
each_take P (e ∷ es) (suc n) all = (all.0, each_take P es n all.1)

or_parts : (a b : Bool) → (a || b) ≡ false → (a ≡ false) × (b ≡ false)
or_parts true b is = absurd (both_ways true is refl)
or_parts false b is = (refl, is)

or_false : (a b : Bool) → a ≡ false → b ≡ false → (a || b) ≡ false
or_false a b e1 e2 = rw (e1, e2) refl

among_take : (es : List Entry) (n : ℕ) (x : Entry) → is_among es x ≡ false → is_among (take n es) x ≡ false
among_take [] zero x is = refl
among_take [] (suc n) x is = refl
among_take (e ∷ es) zero x is = refl
among_take (e ∷ es) (suc n) x is = let parts = or_parts _ _ is in or_false _ _ parts.0 (among_take es n x parts.1)

pub once_take : (es : List Entry) (n : ℕ) → AreOnce es → AreOnce (take n es)
once_take [] zero once = tt
once_take [] (suc n) once = tt
once_take (e ∷ es) zero once = tt
once_take (e ∷ es) (suc n) once = (among_take es n e once.0, once_take es n once.1)

none_is : (b : Bool) → (b ≡ true → ⊥) → b ≡ false
none_is true none = absurd (none refl)
none_is false none = refl

-- an entry of the list is none of those before it
pub not_before : (es : List Entry) (i : ℕ) → AreOnce es → i < length es → is_among (take i es) (nth_entry es i) ≡ false
not_before [] i once lt = absurd (omega (arith, lt))
not_before (e ∷ es) zero once lt = refl
not_before (e ∷ es) (suc i) once lt = or_false _ _ (none_is _ (λ is. both_ways _ once.0 (there is))) (not_before es i once.1 (omega (arith, lt)))
  where
    there : same_entry e (nth_entry es i) ≡ true → is_among es e ≡ true
    there is = subst (λ (y : Entry). is_among es y ≡ true) (sym (same_of e (nth_entry es i) is)) (among_at es i (omega (arith, lt)))

-- those of the first are of the list
pub among_first : (es : List Entry) (n : ℕ) (x : Entry) → is_among (take n es) x ≡ true → is_among es x ≡ true
among_first es n x is = elim (cases_Bool (is_among es x)) [
  | inl there ↦ there
  | inr none ↦ absurd (both_ways _ (among_take es n x none) is)
]
