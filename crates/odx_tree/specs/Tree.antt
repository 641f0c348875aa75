-- The tree that a JSON value is, or the first value that is not in the form.
use Rattle.std.specs.Prelude.{ℕ, suc, List, [], ◌∷◌, length, codes, Option, Some, None, Result, Ok, Err, if◌then◌else◌, nat_lt}
use Rattle.serde_json.specs.Data.{Data, string, array, object, Items, no_items, item, Members, no_members, member}
use Rattle.std.specs.Ordering.{nat_cmp, match_ordering}
use Rattle.std.specs.Cmp.Lexicographic.{slice_cmp}
use Rattle.serde_json.specs.Find.{get_member}
use Rattle.odx_tree.specs.declared.element.Element.{Element, roll-Element}
use Rattle.odx_tree.specs.declared.fault.TreeFault.{TreeFault}
use Rattle.odx_tree.specs.declared.fault.TreeFault.TheVariants.{TooLarge, NotJson, NotTree}
use Rattle.std.specs.Str.{is_utf8}
use Rattle.serde_json.specs.Read.{read}
use Rattle.odx_tree.specs.Below.{below}

-- the second step, if the first gave a value
infixl 10 ◌>>=◌
abbrev pub ◌>>=◌ : {A B : Type 0} → Result A TreeFault → (A → Result B TreeFault) → Result B TreeFault
Ok x >>= f = f x
Err e >>= f = Err e

abbrev pub not_tree : {A : Type 0} → Result A TreeFault
not_tree = Err (NotTree [])

-- a text that may be absent
abbrev pub text_of : Option Data → Result (List ℕ) TreeFault
text_of None = Ok []
text_of (Some (string s)) = Ok s
text_of (Some _) = not_tree

-- the tag, which is there and is not empty
abbrev pub tag_of : Option Data → Result (List ℕ) TreeFault
tag_of (Some (string (c ∷ s))) = Ok (c ∷ s)
tag_of _ = not_tree

abbrev pub attributes : Members → Result (List (List ℕ × List ℕ)) TreeFault
attributes no_members = Ok []
attributes (member k (string s) ms) = attributes ms >>= λ rest. Ok ((k, s) ∷ rest)
attributes (member k d ms) = not_tree

abbrev pub attrs_of : Option Data → Result (List (List ℕ × List ℕ)) TreeFault
attrs_of None = Ok []
attrs_of (Some (object ms)) = attributes ms
attrs_of (Some _) = not_tree

abbrev pub in_kid : {A : Type 0} → ℕ → Result A TreeFault → Result A TreeFault
in_kid i (Ok x) = Ok x
in_kid i (Err e) = Err (below i e)

abbrev mutual
  pub element : Data → Result Element TreeFault
  element (object ms) =
      tag_of (get_member (codes "tag") ms) >>= λ tag.
      attrs_of (get_member (codes "attrs") ms) >>= λ attrs.
      text_of (get_member (codes "text") ms) >>= λ text.
      kids_in ms >>= λ kids.
      Ok (roll-Element (record { tag = tag; attrs = attrs; kids = kids; text = text }))
  element _ = not_tree

  -- the kids of an object with these members
  pub kids_in : Members → Result (List Element) TreeFault
  kids_in no_members = Ok []
  kids_in (member k d ms) =
      match_ordering (slice_cmp nat_cmp (codes "kids") k) (kids_in ms) (kids_of d) (kids_in ms)

  pub kids_of : Data → Result (List Element) TreeFault
  kids_of (array ds) = elements 0 ds
  kids_of _ = not_tree

  -- the elements, of which the first is kid i
  pub elements : ℕ → Items → Result (List Element) TreeFault
  elements i no_items = Ok []
  elements i (item d ds) =
      in_kid i (element d) >>= λ e.
      elements (suc i) ds >>= λ rest.
      Ok (e ∷ rest)

-- the kids of an object, by its member `kids`
abbrev pub kids_at : Option Data → Result (List Element) TreeFault
kids_at None = Ok []
kids_at (Some d) = kids_of d

-- the value of a JSON text: UTF-8, and as `serde_json` reads it
abbrev pub value_of : List ℕ → Option Data
value_of bytes = if is_utf8 bytes then read bytes else None

abbrev pub tree_of_value : Option Data → Result Element TreeFault
tree_of_value None = Err NotJson
tree_of_value (Some d) = element d

abbrev pub tree_of : List ℕ → Result Element TreeFault
tree_of bytes = if nat_lt 67108864 (length bytes) then Err TooLarge else tree_of_value (value_of bytes)
