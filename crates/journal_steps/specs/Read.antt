-- What the first slots of a journal hold, as the tables in memory have it.
use Rattle.std.specs.Prelude.{◌≡◌, ℕ, ◌+◌, ◌*◌, ◌<◌, ◌≤◌, min, Bool, true, false, not, ◌&&◌, ◌||◌, ◌==◌, List, [], ◌∷◌, length, get_or, slice_index}
use Rattle.flash_base.specs.Numbers.{each_below, some_below}
use Rattle.flash_plan.specs.declared.outcome.Entry.{Entry}
use Rattle.flash_plan.specs.declared.outcome.Entry.TheVariants.{Begun, Marked, Complete}
use Rattle.flash_plan.specs.Outcomes.{same_entry}
use Rattle.journal_model.specs.Records.{Label, Form, slots_of, end_of, new_form, behind, segments_of, body_at, is_open, spells, is_spelt, has}
use Rattle.journal_steps.specs.Tables.{count_true, is_found}

-- the tables have the gates and the entries of the bytes
pub record IsRead (F : Form) (bytes : List ℕ) (gates found : List Bool) : Type 0 where
  pub gates_size : length gates ≡ slots_of F
  pub found_size : length found ≡ slots_of F
  pub balance : count_true gates ≡ count_true found
  pub gate : (k : ℕ) → k < slots_of F → is_open F bytes k ≡ get_or gates k false
  pub entry : (e : Entry) → has F bytes e ≡ is_found F found e

-- of each entry of a list that is no begin, its begin is in the table
abbrev pub needs_none : List Bool → Entry → Bool
needs_none found (Begun u) = true
needs_none found (Marked u s) = get_or found (2 * u) false
needs_none found (Complete u) = get_or found (2 * u) false

-- the entry is one of the list
abbrev pub is_among : List Entry → Entry → Bool
is_among [] e = false
is_among (x ∷ xs) e = same_entry x e || is_among xs e

-- no entry stands twice
abbrev pub AreOnce : List Entry → Type 0
AreOnce [] = Unit {0}
AreOnce (x ∷ xs) = (is_among xs x ≡ false) × AreOnce xs

-- the list has the entries of the table, each once
pub record AreListed (F : Form) (found : List Bool) (entries : List Entry) : Type 0 where
  pub listed : (e : Entry) → is_among entries e ≡ is_found F found e
  pub once : AreOnce entries

-- how many bytes the tests look at: to the end of the slots of a migrated file
abbrev pub limit_of : Label → ℕ
limit_of P = end_of (new_form P (behind P))

-- the beginning of an image, up to m bytes of it
pub record IsFront (m : ℕ) (image front : List ℕ) : Type 0 where
  pub size : length front ≡ min m (length image)
  pub same : (i : ℕ) → i < m → slice_index front i ≡ slice_index image i

-- the tests of one slot: two slots have one body; the body is in the form; no lower open slot has it
abbrev pub twice : Form → List ℕ → ℕ → ℕ → Bool
twice F bytes k l =
    each_below 16 (λ j. slice_index bytes (body_at F k + j) == slice_index bytes (body_at F l + j))

abbrev pub one_formed : Form → List ℕ → ℕ → Bool
one_formed F bytes k = not (is_open F bytes k) || is_spelt F bytes k

abbrev pub one_apart : Form → List ℕ → ℕ → ℕ → Bool
one_apart F bytes k l = not (is_open F bytes l) || not (twice F bytes k l)

abbrev pub one_distinct : Form → List ℕ → ℕ → Bool
one_distinct F bytes k = not (is_open F bytes k) || each_below k (one_apart F bytes k)

-- the test of one unit: it is begun, or nothing else is recorded of it
abbrev pub one_ordered : Form → (Entry → Bool) → ℕ → Bool
one_ordered F R u =
    R (Begun u) || (not (R (Complete u)) && each_below (segments_of F u) (λ s. not (R (Marked u s))))

abbrev pub has_upto : Form → List ℕ → ℕ → Entry → Bool
has_upto F bytes k e = some_below k (λ j. is_open F bytes j && spells F bytes j e)

-- the tables have the first k slots
pub record IsReadUpTo (F : Form) (bytes : List ℕ) (k : ℕ) (gates found : List Bool) : Type 0 where
  pub gates_size : length gates ≡ slots_of F
  pub found_size : length found ≡ slots_of F
  pub balance : count_true gates ≡ count_true found
  pub opened : (j : ℕ) → j < k → get_or gates j false ≡ is_open F bytes j
  pub shut : (j : ℕ) → k ≤ j → get_or gates j false ≡ false
  pub entry : (e : Entry) → is_found F found e ≡ has_upto F bytes k e
  pub formed : each_below k (one_formed F bytes) ≡ true
  pub distinct : each_below k (one_distinct F bytes) ≡ true
