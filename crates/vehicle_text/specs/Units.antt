-- How a unit is written.
use Rattle.std.specs.Prelude.{ℕ, ◌==◌, not, Bool, true, List, [], ◌∷◌, ◌++◌, map, codes, bytes_eq, Option, Some, None}
use Rattle.serde_json.specs.Data.{Data, array}
use Rattle.serde_json.specs.View.{items_of}
use Rattle.unit_model.specs.declared.spec.PatchSpec.{PatchSpec}
use Rattle.unit_model.specs.declared.spec.RegionSpec.{RegionSpec}
use Rattle.unit_model.specs.declared.spec.UnitSpec.{UnitSpec}
use Rattle.unit_model.specs.declared.unit.Transfer.{Transfer}
use Rattle.vehicle_text.specs.Forms.{bytes_data, flag_data, four_data, four_text, off_data, place_data, two_data, whole_data}
use Rattle.vehicle_text.specs.Keys.{key_given}
use Rattle.vehicle_text.specs.Objects.{Fields, object_in, unless, unless_empty}
use Rattle.vehicle_text.specs.Troubles.{trouble_data}

-- an object of these members
abbrev pub data_in : {A : Type 0} → (A → Fields) → A → Data
data_in f x = object_in (f x)

-- a list, each item written alike
abbrev pub list_data : {A : Type 0} → (A → Data) → List A → Data
list_data f xs = array (items_of (map f xs))

-- a list that is left out where it is empty
abbrev pub list_given : {A : Type 0} → (A → Data) → List A → Option Data
list_given f xs = unless_empty xs (list_data f xs)

abbrev pub region_fields : RegionSpec → Fields
region_fields r = (codes "at", Some (place_data r.at)) ∷ (codes "size", Some (whole_data r.size))
    ∷ (codes "fill", Some (two_data r.fill)) ∷ []

abbrev pub region_data : RegionSpec → Data
region_data r = object_in (region_fields r)

abbrev pub patch_fields : PatchSpec → Fields
patch_fields p = (codes "at", Some (place_data p.at)) ∷ (codes "hex", Some (bytes_data p.bytes)) ∷ []

abbrev pub patch_data : PatchSpec → Data
patch_data p = object_in (patch_fields p)

abbrev pub range_fields : ℕ × ℕ → Fields
range_fields r = (codes "at", Some (place_data r.0)) ∷ (codes "size", Some (whole_data r.1)) ∷ []

abbrev pub range_data : ℕ × ℕ → Data
range_data r = object_in (range_fields r)

abbrev pub ident_field : ℕ × List ℕ → List ℕ × Option Data
ident_field i = (four_text i.0, Some (bytes_data i.1))

-- the members of identifiers, in their order
abbrev pub idents_fields : List (ℕ × List ℕ) → Fields
idents_fields is = map ident_field is

abbrev pub idents_given : List (ℕ × List ℕ) → Option Data
idents_given is = unless_empty is (object_in (idents_fields is))

-- the last block of a transfer: that it was taken, and its length
abbrev pub taken_given : Option ℕ → Option Data
taken_given None = None
taken_given (Some n) = Some (flag_data true)

abbrev pub last_given : Option ℕ → Option Data
last_given None = None
last_given (Some n) = Some (whole_data n)

abbrev pub flag_given : Bool → Option Data
flag_given b = unless (not b) (flag_data true)

abbrev pub off_given : Bool → Option Data
off_given b = unless (not b) off_data

abbrev pub transfer_fields : Transfer → Fields
transfer_fields t =
    (codes "at", Some (place_data t.at)) ∷ (codes "rest", Some (whole_data t.rest))
    ∷ (codes "counter", Some (two_data t.counter)) ∷ (codes "taken", taken_given t.last)
    ∷ (codes "up", flag_given t.up) ∷ (codes "last", last_given t.last) ∷ []

abbrev pub transfer_given : Option Transfer → Option Data
transfer_given None = None
transfer_given (Some t) = Some (object_in (transfer_fields t))

abbrev pub bytes_given : Option (List ℕ) → Option Data
bytes_given None = None
bytes_given (Some bytes) = Some (bytes_data bytes)

-- ------ the parts of a unit, in their order
abbrev pub layout_fields : UnitSpec → Fields
layout_fields u =
    (codes "address", Some (four_data u.address)) ∷ (codes "regions", Some (list_data region_data u.regions))
    ∷ (codes "bytes", list_given patch_data u.bytes) ∷ (codes "idents", idents_given u.idents) ∷ []

abbrev pub rules_fields : UnitSpec → Fields
rules_fields u =
    (codes "key", key_given u.key) ∷ (codes "seed", unless (bytes_eq u.seed (1 ∷ [])) (bytes_data u.seed))
    ∷ (codes "block", unless (u.block == 4095) (whole_data u.block))
    ∷ (codes "check", Some (four_data u.check)) ∷ []

abbrev pub past_fields : UnitSpec → Fields
past_fields u =
    (codes "checked", list_given range_data u.checked) ∷ (codes "passed", flag_given u.passed)
    ∷ (codes "heard", unless (u.heard == 0) (whole_data u.heard))
    ∷ (codes "troubles", list_given trouble_data u.troubles) ∷ []

abbrev pub state_fields : UnitSpec → Fields
state_fields u =
    (codes "kind", unless (u.kind == 1) (two_data u.kind)) ∷ (codes "unlocked", flag_given u.unlocked)
    ∷ (codes "last_seed", bytes_given u.last_seed) ∷ (codes "transfer", transfer_given u.transfer)
    ∷ (codes "dtc", off_given u.dtc_off) ∷ (codes "messages", off_given u.messages_off) ∷ []

abbrev pub unit_fields : UnitSpec → Fields
unit_fields u = layout_fields u ++ (rules_fields u ++ (past_fields u ++ state_fields u))

abbrev pub unit_data : UnitSpec → Data
unit_data u = object_in (unit_fields u)
