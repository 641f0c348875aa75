-- A unit of a vehicle file.
use Rattle.std.specs.Prelude.{ℕ, ◌+◌, ◌-◌, ◌^◌, ◌&&◌, ◌||◌, ◌==◌, not, nat_le, nat_lt, Bool, false, List, [], ◌∷◌, ◌++◌, length, codes, bytes_eq, decimal, Option, Some, None, Ok, if◌then◌else◌}
use Rattle.std.specs.List.{insert}
use Rattle.serde_json.specs.Data.{Data, Items, no_items, item, Members, no_members, member}
use Rattle.serde_json.specs.Find.{as_array, as_object}
use Rattle.flash_base.specs.ByteMaps.{has_each}
use Rattle.flash_base.specs.declared.unit.KeyRule.TheVariants.{Free}
use Rattle.unit_model.specs.Regions.{filled}
use Rattle.unit_model.specs.RegionTests.{LIMIT, apart_from, spec_extents}
use Rattle.unit_model.specs.Rules.{transfer_in}
use Rattle.unit_model.specs.declared.spec.PatchSpec.{PatchSpec}
use Rattle.unit_model.specs.declared.spec.RegionSpec.{RegionSpec}
use Rattle.unit_model.specs.declared.spec.UnitSpec.{UnitSpec}
use Rattle.unit_model.specs.declared.unit.Transfer.{Transfer}
use Rattle.vehicle_file.specs.declared.unit.Layout.{Layout}
use Rattle.vehicle_file.specs.declared.unit.Rules.{Rules}
use Rattle.vehicle_file.specs.declared.unit.Past.{Past}
use Rattle.vehicle_file.specs.declared.unit.State.{State}
use Rattle.vehicle_file.specs.Fields.{Reading, LAST_COUNT, ◌>>=◌, bytes_to, bytes_up_to, chosen, end_place, flag, four, four_digits, hold_to, is_off, list_of, list_with, needed, object_of, place, refused, any_bytes, two, under, whole}
use Rattle.vehicle_file.specs.Keys.{key_rule}
use Rattle.vehicle_file.specs.Troubles.{troubles}

abbrev pub size : Data → Reading ℕ
size d = whole 1 LAST_COUNT d

-- ------ regions, each apart from those before it and below the limit
abbrev pub is_region_member : List ℕ → Bool
is_region_member name =
    bytes_eq name (codes "at") || bytes_eq name (codes "size") || bytes_eq name (codes "fill")

abbrev pub region_members : Data → Reading RegionSpec
region_members o =
    needed (codes "at") place o >>= λ at.
    needed (codes "size") size o >>= λ n.
    needed (codes "fill") two o >>= λ fill.
    Ok (record { at = at; size = n; fill = fill })

abbrev pub lies_well : List RegionSpec → RegionSpec → Bool
lies_well before r = nat_le (r.at + r.size) LIMIT && apart_from (r.at, r.size) (spec_extents before)

abbrev pub region : List RegionSpec → Data → Reading RegionSpec
region before d = object_of is_region_member region_members d >>= λ r. hold_to (lies_well before r) r

abbrev pub regions_from : List RegionSpec → ℕ → Items → Reading (List RegionSpec)
regions_from before i no_items = Ok before
regions_from before i (item d ds) =
    under (decimal i) (region before d) >>= λ r. regions_from (before ++ r ∷ []) (i + 1) ds

abbrev pub regions : Data → Reading (List RegionSpec)
regions d = list_with (regions_from [] 0) (as_array d)

-- ------ bytes in the regions
abbrev pub is_patch_member : List ℕ → Bool
is_patch_member name = bytes_eq name (codes "at") || bytes_eq name (codes "hex")

abbrev pub patch_members : Data → Reading PatchSpec
patch_members o = needed (codes "at") place o >>= λ at. needed (codes "hex") any_bytes o
    >>= λ bytes. Ok (record { at = at; bytes = bytes })

-- the regions have each address of the range
abbrev pub lies_in : List RegionSpec → ℕ → ℕ → Bool
lies_in rs at n = nat_le (at + n) LIMIT && has_each at n (filled rs)

abbrev pub patch : List RegionSpec → Data → Reading PatchSpec
patch rs d = object_of is_patch_member patch_members d >>= λ p. hold_to (lies_in rs p.at (length p.bytes)) p

-- ------ identifiers, in ascending order, each once
-- where an identifier goes among these, the first of which stands at place i; none where it is there
abbrev pub position_from : ℕ → ℕ → List (ℕ × List ℕ) → Option ℕ
position_from i did [] = Some i
position_from i did (j ∷ js) =
    if nat_lt did j.0 then Some i else if did == j.0 then None else position_from (i + 1) did js

abbrev pub ident_at : ℕ → Option ℕ → List (ℕ × List ℕ) → Data → Reading (List (ℕ × List ℕ))
ident_at did None before d = refused
ident_at did (Some i) before d = bytes_up_to 4096 d >>= λ bytes. Ok (insert before i (did, bytes))

abbrev pub ident_of : Option ℕ → List (ℕ × List ℕ) → Data → Reading (List (ℕ × List ℕ))
ident_of None before d = refused
ident_of (Some did) before d = ident_at did (position_from 0 did before) before d

abbrev pub ident : List ℕ → List (ℕ × List ℕ) → Data → Reading (List (ℕ × List ℕ))
ident name before d = under name (ident_of (four_digits name) before d)

abbrev pub idents_from : List (ℕ × List ℕ) → Members → Reading (List (ℕ × List ℕ))
idents_from before no_members = Ok before
idents_from before (member k d ms) = ident k before d >>= λ next. idents_from next ms

abbrev pub idents_with : Option Members → Reading (List (ℕ × List ℕ))
idents_with None = refused
idents_with (Some ms) = idents_from [] ms

abbrev pub idents : Data → Reading (List (ℕ × List ℕ))
idents d = idents_with (as_object d)

-- ------ ranges that were checked
abbrev pub is_range_member : List ℕ → Bool
is_range_member name = bytes_eq name (codes "at") || bytes_eq name (codes "size")

abbrev pub range_members : Data → Reading (ℕ × ℕ)
range_members o = needed (codes "at") place o >>= λ at. needed (codes "size") size o >>= λ n. Ok (at, n)

abbrev pub checked_range : Data → Reading (ℕ × ℕ)
checked_range d = object_of is_range_member range_members d >>= λ r. hold_to (nat_le (r.0 + r.1) LIMIT) r

-- ------ session and transfer
abbrev pub session : Data → Reading ℕ
session d = two d >>= λ kind. hold_to (nat_le 1 kind && nat_le kind 3) kind

abbrev pub seed_given : Data → Reading (Option (List ℕ))
seed_given d = any_bytes d >>= λ bytes. Ok (Some bytes)

abbrev pub some_length : Data → Reading (Option ℕ)
some_length d = whole 0 65533 d >>= λ n. Ok (Some n)

-- `last` counts where a block was taken; a block that was taken without it had one byte
abbrev pub last_block : Bool → Option ℕ → Option ℕ
last_block taken None = if taken then Some 1 else None
last_block taken (Some n) = if taken then Some n else None

abbrev pub is_transfer_member : List ℕ → Bool
is_transfer_member name =
    bytes_eq name (codes "at") || bytes_eq name (codes "rest") || bytes_eq name (codes "counter")
    || bytes_eq name (codes "taken")
    || bytes_eq name (codes "up") || bytes_eq name (codes "last")

abbrev pub transfer_members : Data → Reading Transfer
transfer_members o =
    needed (codes "at") end_place o >>= λ at.
    needed (codes "rest") (whole 0 LAST_COUNT) o >>= λ rest.
    needed (codes "counter") two o >>= λ counter.
    chosen (codes "taken") false flag o >>= λ taken.
    chosen (codes "up") false flag o >>= λ up.
    chosen (codes "last") None some_length o >>= λ last.
    Ok (record { up = up; at = at; rest = rest; counter = counter; last = last_block taken last })

abbrev pub transfer : List RegionSpec → Data → Reading (Option Transfer)
transfer rs d = object_of is_transfer_member transfer_members d
    >>= λ t. hold_to (transfer_in (filled rs) (Some t)) (Some t)

-- ------ a unit, behind these units
abbrev pub has_address : ℕ → List UnitSpec → Bool
has_address a [] = false
has_address a (u ∷ us) = u.address == a || has_address a us

abbrev pub new_address : List UnitSpec → Data → Reading ℕ
new_address before d = four d >>= λ a. hold_to (not (has_address a before)) a

-- its memory: address, regions, bytes and identifiers
abbrev pub layout : List UnitSpec → Data → Reading Layout
layout before o =
    needed (codes "address") (new_address before) o >>= λ address.
    needed (codes "regions") regions o >>= λ rs.
    chosen (codes "bytes") [] (list_of (patch rs)) o >>= λ bytes.
    chosen (codes "idents") [] idents o >>= λ is.
    Ok (record { address = address; regions = rs; bytes = bytes; idents = is })

-- how it answers
abbrev pub rules_at : Data → Reading Rules
rules_at o =
    chosen (codes "key") Free key_rule o >>= λ key.
    chosen (codes "seed") (1 ∷ []) (bytes_to 64) o >>= λ seed.
    chosen (codes "block") 4095 (whole 0 (2 ^ 32 - 1)) o >>= λ block.
    needed (codes "check") four o >>= λ check.
    Ok (record { key = key; seed = seed; block = block; check = check })

-- what was done to it, and what it will do
abbrev pub past : Data → Reading Past
past o =
    chosen (codes "checked") [] (list_of checked_range) o >>= λ checked.
    chosen (codes "passed") false flag o >>= λ passed.
    chosen (codes "heard") 0 (whole 0 LAST_COUNT) o >>= λ heard.
    chosen (codes "troubles") [] troubles o >>= λ ts.
    Ok (record { checked = checked; passed = passed; heard = heard; troubles = ts })

-- the state of its session
abbrev pub state : List RegionSpec → Data → Reading State
state rs o =
    chosen (codes "kind") 1 session o >>= λ kind.
    chosen (codes "unlocked") false flag o >>= λ unlocked.
    chosen (codes "last_seed") None seed_given o >>= λ last_seed.
    chosen (codes "transfer") None (transfer rs) o >>= λ t.
    chosen (codes "dtc") false is_off o >>= λ dtc_off.
    chosen (codes "messages") false is_off o >>= λ messages_off.
    Ok (record {
      kind = kind;
      unlocked = unlocked;
      last_seed = last_seed;
      transfer = t;
      dtc_off = dtc_off;
      messages_off = messages_off;
    })

abbrev pub unit_of : Layout → Rules → Past → State → UnitSpec
unit_of l r p s = record {
  address = l.address;
  regions = l.regions;
  bytes = l.bytes;
  idents = l.idents;
  key = r.key;
  seed = r.seed;
  block = r.block;
  check = r.check;
  checked = p.checked;
  passed = p.passed;
  heard = p.heard;
  troubles = p.troubles;
  kind = s.kind;
  unlocked = s.unlocked;
  last_seed = s.last_seed;
  transfer = s.transfer;
  dtc_off = s.dtc_off;
  messages_off = s.messages_off;
}

abbrev pub unit_members : List UnitSpec → Data → Reading UnitSpec
unit_members before o = layout before o >>= λ l. rules_at o >>= λ r. past o >>= λ p. state l.regions o
    >>= λ s. Ok (unit_of l r p s)

abbrev pub is_layout_member : List ℕ → Bool
is_layout_member name = bytes_eq name (codes "address") || bytes_eq name (codes "regions")
    || bytes_eq name (codes "bytes") || bytes_eq name (codes "idents")

abbrev pub is_rules_member : List ℕ → Bool
is_rules_member name = bytes_eq name (codes "key") || bytes_eq name (codes "seed")
    || bytes_eq name (codes "block") || bytes_eq name (codes "check")

abbrev pub is_past_member : List ℕ → Bool
is_past_member name = bytes_eq name (codes "checked") || bytes_eq name (codes "passed")
    || bytes_eq name (codes "heard") || bytes_eq name (codes "troubles")

abbrev pub is_state_member : List ℕ → Bool
is_state_member name =
    bytes_eq name (codes "kind") || bytes_eq name (codes "unlocked") || bytes_eq name (codes "last_seed")
    || bytes_eq name (codes "transfer")
    || bytes_eq name (codes "dtc") || bytes_eq name (codes "messages")

abbrev pub is_unit_member : List ℕ → Bool
is_unit_member name =
    is_layout_member name || is_rules_member name || is_past_member name || is_state_member name

abbrev pub unit : List UnitSpec → Data → Reading UnitSpec
unit before d = object_of is_unit_member (unit_members before) d

abbrev pub units_from : List UnitSpec → ℕ → Items → Reading (List UnitSpec)
units_from before i no_items = Ok before
units_from before i (item d ds) =
    under (decimal i) (unit before d) >>= λ u. units_from (before ++ u ∷ []) (i + 1) ds

abbrev pub units : Data → Reading (List UnitSpec)
units d = list_with (units_from [] 0) (as_array d)
