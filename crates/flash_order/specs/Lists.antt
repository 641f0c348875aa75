-- Lists inside a task.
use Rattle.std.specs.Prelude.{ℕ, nat_le, List, [], ◌∷◌, length, codes, Option, Some, None, if◌then◌else◌}
use Rattle.serde_json.specs.Data.{Data, Items, no_items, item, Members, no_members, member}
use Rattle.serde_json.specs.Find.{get, as_str, as_array, as_object}
use Rattle.flash_order.specs.Fields.{◌>=>◌, only_if, address, task_name}
use Rattle.flash_order.specs.Listed.{has_members}
use Rattle.flash_plan.specs.declared.unit.Wanted.{Wanted}
use Rattle.text_forms.specs.Bytes.{bytes_text}

-- what every item is, where each is in the form
abbrev pub each_of : {A : Type 0} → (Data → Option A) → Items → Option (List A)
each_of form no_items = Some []
each_of form (item d ds) = form d >=> λ x. each_of form ds >=> λ xs. Some (x ∷ xs)

-- the names of tasks
abbrev pub names : Data → Option (List (List ℕ))
names d = as_array d >=> each_of task_name

-- hexadecimal digits of at least one byte
abbrev pub value : Data → Option (List ℕ)
value d = as_str d >=> bytes_text >=> λ bytes. only_if (nat_le 1 (length bytes)) bytes

-- at least one value
abbrev pub values : Data → Option (List (List ℕ))
values d = as_array d >=> each_of value >=> λ vs. only_if (nat_le 1 (length vs)) vs

abbrev pub wanted : Data → Option Wanted
wanted d =
    if has_members 2 d then (get (codes "did") d >=> address >=> λ did. get (codes "values") d >=> values
    >=> λ vs. Some (record { did = did; values = vs })) else None

-- identifiers with the values that are expected
abbrev pub idents : Data → Option (List Wanted)
idents d = as_array d >=> each_of wanted

abbrev pub dids_of : Members → Option (List (List ℕ × ℕ))
dids_of no_members = Some []
dids_of (member k d ms) = address d >=> λ did. dids_of ms >=> λ rest. Some ((k, did) ∷ rest)

-- an object from names to identifiers
abbrev pub dids : Data → Option (List (List ℕ × ℕ))
dids d = as_object d >=> dids_of
