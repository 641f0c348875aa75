-- Lists of which one begins the other, and the places of what was added.
use Rattle.std.specs.Prelude.{◌≡◌, ℕ, ◌-◌, List, ◌++◌, length, nat_lt, if◌then◌else◌}
use Rattle.std.specs.List.{range_with_len}

-- xs begins ys
abbrev pub Begins : {A : Type 0} → List A → List A → Type 0
Begins {A} xs ys = (more : List A) × (ys ≡ xs ++ more)

-- the longer of two lists, and the first where they are equally long
abbrev pub longer : {A : Type 0} → List A → List A → List A
longer xs ys = if nat_lt (length xs) (length ys) then ys else xs

-- the positions that a list has and its beginning has not
abbrev pub new_positions : {A : Type 0} → List A → List A → List ℕ
new_positions old new = range_with_len (length old) (length new - length old)
