-- The journal's tables in memory.
use Rattle.std.specs.Prelude.{ℕ, zero, suc, ◌+◌, ◌*◌, Bool, true, false, ◌&&◌, List, [], ◌∷◌, get_or}
use Rattle.flash_plan.specs.declared.outcome.Entry.{Entry}
use Rattle.flash_plan.specs.declared.outcome.Entry.TheVariants.{Begun, Marked, Complete}
use Rattle.journal_model.specs.Records.{Form, names}

abbrev pub one_if : Bool → ℕ
one_if true = 1
one_if false = 0

abbrev pub count_true : List Bool → ℕ
count_true [] = 0
count_true (b ∷ bs) = one_if b + count_true bs

-- how many segments the first units have
abbrev pub before : ℕ → List ℕ → ℕ
before zero xs = 0
before (suc u) [] = 0
before (suc u) (x ∷ xs) = x + before u xs

-- where an entry stands in the table of all entries: two places a unit, and behind them one a segment
abbrev pub place_of : Form → Entry → ℕ
place_of F (Begun u) = 2 * u
place_of F (Marked u s) = 2 * F.units + (before u F.segments + s)
place_of F (Complete u) = 2 * u + 1

-- the table has the entry
abbrev pub is_found : Form → List Bool → Entry → Bool
is_found F found e = names F e && get_or found (place_of F e) false

-- the place of the first mark of each unit
abbrev pub starts_of : ℕ → List ℕ → List ℕ
starts_of n [] = []
starts_of n (x ∷ xs) = n ∷ starts_of (n + x) xs

-- the open gates from the first on, and the closed ones
abbrev pub open_run : List Bool → ℕ
open_run [] = 0
open_run (true ∷ gs) = suc (open_run gs)
open_run (false ∷ gs) = 0

abbrev pub closed_run : List Bool → ℕ
closed_run [] = 0
closed_run (true ∷ gs) = 0
closed_run (false ∷ gs) = suc (closed_run gs)
