-- What a step of the building may answer, and one step after another.
use Rattle.std.specs.Prelude.{◌≡◌, Result, Ok, Err}
use Rattle.plan_build.specs.declared.fault.BuildFault.{BuildFault}

-- this answer and no other
abbrev pub just : {A : Type 0} → Result A BuildFault → Result A BuildFault → Type 0
just a r = r ≡ a

-- The first step gives a value, and the answer is one of the second step with it; or the first refuses, and that is the answer.
pub data Then {A B : Type 0} (first : Result A BuildFault → Type 0)
    (second : A → Result B BuildFault → Type 0) (r : Result B BuildFault) : Type 0 where
  goes_on : (x : A) → first (Ok x) → second x r → Then first second r
  stops : (e : BuildFault) → first (Err e) → r ≡ Err e → Then first second r

infixl 10 ◌>>=◌
abbrev pub ◌>>=◌ : {A B : Type 0} → (Result A BuildFault → Type 0) → (A → Result B BuildFault → Type 0)
    → Result B BuildFault → Type 0
◌>>=◌ first second r = Then first second r

-- the same for steps that have one answer
infixl 10 ◌>=>◌
abbrev pub ◌>=>◌ : {A B : Type 0} → Result A BuildFault → (A → Result B BuildFault) → Result B BuildFault
Ok x >=> f = f x
Err e >=> f = Err e
