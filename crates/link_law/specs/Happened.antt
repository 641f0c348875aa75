-- Lists of events: how many are of a kind, and what stands before and behind the last of a kind.
use Rattle.std.specs.Prelude.{ℕ, ◌+◌, Bool, true, false, ◌||◌, List, [], ◌∷◌, ◌++◌, if◌then◌else◌}
use Rattle.bay_core.specs.declared.event.Event.{Event}

-- 1 for yes, 0 for no
abbrev pub one : Bool → ℕ
one true = 1
one false = 0

-- there is one of a kind
abbrev pub has : (Event → Bool) → List Event → Bool
has kind [] = false
has kind (e ∷ es) = kind e || has kind es

-- how many are of a kind
abbrev pub count : (Event → Bool) → List Event → ℕ
count kind [] = 0
count kind (e ∷ es) = one (kind e) + count kind es

-- what stands behind the last of a kind; all of it where there is none
abbrev pub behind_last : (Event → Bool) → List Event → List Event
behind_last kind [] = []
behind_last kind (e ∷ es) = if has kind (e ∷ es) then behind_last kind es else e ∷ es

-- the events to the last of a kind; none where there is none
abbrev pub to_last : (Event → Bool) → List Event → List Event
to_last kind [] = []
to_last kind (e ∷ es) = if has kind (e ∷ es) then e ∷ to_last kind es else []

-- how many of these events pass a test, which is told the events before each
abbrev pub count_after : (List Event → Event → Bool) → List Event → List Event → ℕ
count_after test before [] = 0
count_after test before (e ∷ es) = one (test before e) + count_after test (before ++ (e ∷ [])) es

-- one of these events passes a test, which is told the events before it and those behind it
abbrev pub some_amid : (List Event → Event → List Event → Bool) → List Event → List Event → Bool
some_amid test before [] = false
some_amid test before (e ∷ es) = test before e es || some_amid test (before ++ (e ∷ [])) es
