-- Lists, item by item.
use Rattle.std.specs.Prelude.{◌≡◌, ℕ, Bool, true, false, ◌&&◌, ◌==◌, List, [], ◌∷◌, ◌++◌}

-- of each item of a list, one after another
abbrev pub Each : {T : Type 0} → (T → Type 0) → List T → Type 0
Each P [] = Unit {0}
Each P (x ∷ xs) = P x × Each P xs

abbrev pub all_of : {T : Type 0} → List T → (T → Bool) → Bool
all_of [] p = true
all_of (x ∷ xs) p = p x && all_of xs p

-- the first list begins the second
abbrev pub BeginsWith : {T : Type 0} → List T → List T → Type 0
BeginsWith {T} xs ys = (more : List T) × (ys ≡ xs ++ more)

-- the first list is some items of the second, in their order
pub data IsSomeOf {T : Type 0} : List T → List T → Type 0 where
  ends : IsSomeOf [] []
  keeps : (x : T) (xs ys : List T) → IsSomeOf xs ys → IsSomeOf (x ∷ xs) (x ∷ ys)
  drops : (y : T) (xs ys : List T) → IsSomeOf xs ys → IsSomeOf xs (y ∷ ys)

abbrev pub same_bytes : List ℕ → List ℕ → Bool
same_bytes [] [] = true
same_bytes [] (y ∷ ys) = false
same_bytes (x ∷ xs) [] = false
same_bytes (x ∷ xs) (y ∷ ys) = x == y && same_bytes xs ys
