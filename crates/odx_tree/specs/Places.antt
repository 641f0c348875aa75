-- The places of a JSON value that are not in the form of an element, in document order.
use Rattle.std.specs.Prelude.{ℕ, suc, List, [], ◌∷◌, ◌++◌, map, codes, Bool, true, false, ◌&&◌, Option, Some, None, if◌then◌else◌}
use Rattle.std.specs.Ordering.{nat_cmp, match_ordering}
use Rattle.std.specs.Cmp.Lexicographic.{slice_cmp}
use Rattle.serde_json.specs.Data.{Data, string, array, object, Items, no_items, item, Members, no_members, member}
use Rattle.serde_json.specs.Find.{get_member}

-- a text
abbrev pub is_text : Data → Bool
is_text (string s) = true
is_text _ = false

-- a text that is not empty
abbrev pub is_filled_text : Data → Bool
is_filled_text (string (c ∷ s)) = true
is_filled_text _ = false

abbrev pub are_texts : Members → Bool
are_texts no_members = true
are_texts (member k d ms) = is_text d && are_texts ms

-- an object of texts
abbrev pub is_texts : Data → Bool
is_texts (object ms) = are_texts ms
is_texts _ = false

abbrev pub if_there : (Data → Bool) → Option Data → Bool
if_there test None = true
if_there test (Some d) = test d

abbrev pub is_there : (Data → Bool) → Option Data → Bool
is_there test None = false
is_there test (Some d) = test d

-- an object has the tag, the attributes and the text of an element
abbrev pub own_form : Members → Bool
own_form ms =
    is_there is_filled_text (get_member (codes "tag") ms)
    && if_there is_texts (get_member (codes "attrs") ms)
    && if_there is_text (get_member (codes "text") ms)

-- a place is the list of the kid positions that lead to it
abbrev pub Place : Type 0
Place = List ℕ

abbrev pub here : List Place
here = [] ∷ []

abbrev mutual
  -- a value that is no element stands before all inside it, and an earlier kid before a later
  pub misplaced : Data → List Place
  misplaced (object ms) = (if own_form ms then [] else here) ++ misplaced_kids ms
  misplaced _ = here

  -- by the member `kids`
  pub misplaced_kids : Members → List Place
  misplaced_kids no_members = []
  misplaced_kids (member k d ms) =
      match_ordering (slice_cmp nat_cmp (codes "kids") k) (misplaced_kids ms) (misplaced_list d)
      (misplaced_kids ms)

  -- a list of elements
  pub misplaced_list : Data → List Place
  misplaced_list (array ds) = misplaced_items 0 ds
  misplaced_list _ = here

  -- elements, of which the first is kid i
  pub misplaced_items : ℕ → Items → List Place
  misplaced_items i no_items = []
  misplaced_items i (item d ds) = map (λ p. i ∷ p) (misplaced d) ++ misplaced_items (suc i) ds
