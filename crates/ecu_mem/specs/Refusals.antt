-- Refusals at places, and their order.
use Rattle.std.specs.Prelude.{ℕ, Bool, true, false, ◌&&◌, ◌||◌, ◌==◌, nat_lt, List, [], ◌∷◌, Result, Ok, Err, if◌then◌else◌}
use Rattle.ecu_mem.specs.declared.refusal.Refusal.{Refusal}
use Rattle.ecu_mem.specs.declared.refusal.Wrong.TheVariants.{Missing, BadNumber, Twice}

-- what an element is read as, or its first refusal in document order
abbrev pub Reading : Type 0 → Type 0
Reading A = Result A Refusal

-- an element comes before all inside it, and an earlier kid before a later
abbrev pub before : List ℕ → List ℕ → Bool
before p [] = false
before [] (j ∷ q) = true
before (i ∷ p) (j ∷ q) = nat_lt i j || (i == j && before p q)

-- of two refusals the one whose place comes first; at one place the first of the two
abbrev pub first_of : Refusal → Refusal → Refusal
first_of r s = if before s.path r.path then s else r

-- two parts of one element
abbrev pub both : {A B : Type 0} → Reading A → Reading B → Reading (A × B)
both (Ok a) (Ok b) = Ok (a, b)
both (Err r) (Ok b) = Err r
both (Ok a) (Err s) = Err s
both (Err r) (Err s) = Err (first_of r s)

-- the second step, where the first gave a value
infixl 10 ◌>>=◌
abbrev pub ◌>>=◌ : {A B : Type 0} → Reading A → (A → Reading B) → Reading B
Ok x >>= f = f x
Err r >>= f = Err r

abbrev pub read_as : {A B : Type 0} → (A → B) → Reading A → Reading B
read_as f (Ok x) = Ok (f x)
read_as f (Err r) = Err r

abbrev pub lower : ℕ → Refusal → Refusal
lower i r = record r { path = i ∷ r.path }

-- what kid i is read as, with the places of refusals as its parent sees them
abbrev pub in_kid : {A : Type 0} → ℕ → Reading A → Reading A
in_kid i (Ok x) = Ok x
in_kid i (Err r) = Err (lower i r)

-- the element lacks a tag or an attribute
abbrev pub missing : List ℕ → Refusal
missing tag = record { path = []; wrong = Missing tag }

-- the element is no number, name or kind in its range
abbrev pub bad_number : Refusal
bad_number = record { path = []; wrong = BadNumber }

-- an earlier element has its ID
abbrev pub twice : List ℕ → Refusal
twice id = record { path = []; wrong = Twice id }
