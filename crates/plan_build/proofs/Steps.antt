-- One step after another, where memory may be wanted at any time.
use Rattle.std.proofs.Common.{◌≡◌, ◌∙◌, ◌⊎◌, inl, inr, sym, ap, Result, Ok, Err}
use Rattle.plan_build.specs.Answers.{just, Then, goes_on, stops}
use Rattle.plan_build.specs.declared.fault.BuildFault.{BuildFault}
use Rattle.plan_build.specs.declared.fault.BuildFault.TheVariants.{NoMemory}

-- an answer that wanted memory, or one of these
abbrev pub Or : {A : Type 0} → Result A BuildFault → (Result A BuildFault → Type 0) → Type 0
Or {A} r P = (◌≡◌ {A = Result A BuildFault} r (Err NoMemory)) ⊎ P r

-- the first step gave a value, and the rest goes on with it
pub on : {A B : Type 0} {first : Result A BuildFault → Type 0} {second : A → Result B BuildFault → Type 0} {r : Result B BuildFault} (x : A) →
    Or (Ok x) first → Or r (second x) → Or r (Then first second)
on x (inl h) q = cc
on x (inr p) (inl h) = inl h
on x (inr p) (inr q) = inr (goes_on x p q)

-- a step that has one answer, and refused
pub refusal : {A : Type 0} (e x : BuildFault) (a : Result A BuildFault) → (e ≡ NoMemory) ⊎ (e ≡ x) → a ≡ Err x → Or (Err e) (just a)
refusal e x a (inl h) is = inl (ap (λ z. Err z) h)
refusal e x a (inr h) is = inr (ap (λ z. Err z) h ∙ sym is)

-- the first step refused
pub off : {A B : Type 0} {first : Result A BuildFault → Type 0} {second : A → Result B BuildFault → Type 0} {r : Result B BuildFault} (e : BuildFault) →
    r ≡ Err e → Or {A = A} (Err e) first → Or r (Then first second)
off {A} {B} e is (inl h) = inl (is ∙ ap (λ e. Err e) (err_is h))
  where
    err_is : ◌≡◌ {A = Result A BuildFault} (Err e) (Err NoMemory) → e ≡ NoMemory
    err_is h = cc
off e is (inr p) = inr (stops e p is)
