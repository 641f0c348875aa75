-- What is written nests no deeper than six objects and lists, and has numbers below 2^64 alone.
use Rattle.std.proofs.Common.{ℕ, suc, ◌^◌, ◌<◌, Bool, true, false, List, [], ◌∷◌, map, Option, Some, None, refl, arith, bytes_eq}
use Rattle.std.specs.Prelude.{◌==◌, not}
use Rattle.std.proofs.lemmas.Bool.{and_from, lt-ltb}
use Rattle.serde_json.specs.Data.{Data, string}
use Rattle.serde_json.specs.View.{items_of}
use Rattle.flash_base.specs.Lists.{Each}
use Rattle.flash_base.specs.declared.unit.KeyRule.{KeyRule}
use Rattle.flash_base.specs.declared.unit.KeyRule.TheVariants.{Free, Xor, Digest}
use Rattle.unit_model.specs.declared.spec.Act.{Act}
use Rattle.unit_model.specs.declared.spec.Act.TheVariants.{Refuse, Odd, Fail, Mute, Delay, Busy, Pending}
use Rattle.unit_model.specs.declared.spec.PatchSpec.{PatchSpec}
use Rattle.unit_model.specs.declared.spec.RegionSpec.{RegionSpec}
use Rattle.unit_model.specs.declared.spec.TroubleSpec.{TroubleSpec}
use Rattle.unit_model.specs.declared.spec.UnitSpec.{UnitSpec}
use Rattle.unit_model.specs.declared.spec.Until.TheVariants.{Times, Heard}
use Rattle.unit_model.specs.declared.unit.Transfer.{Transfer}
use Rattle.gateway_sim.specs.declared.spec.GatewayTrouble.{GatewayTrouble}
use Rattle.gateway_sim.specs.declared.spec.GatewayTrouble.TheVariants.{Deny, Silent, Nack, Alive}
use Rattle.vehicle_file.specs.declared.vehicle.VehicleSpec.{VehicleSpec}
use Rattle.vehicle_text.proofs.Sorted.{ArePlain, IsPlain, ItemsPlain}
use Rattle.vehicle_text.specs.Forms.{bytes_data, flag_data, off_data, two_data, whole_data}
use Rattle.vehicle_text.specs.Keys.{key_fields, key_given}
use Rattle.vehicle_text.specs.Objects.{Fields, members_in, object_in, unless}
use Rattle.vehicle_text.specs.Ranges.{FitsAct, FitsGate, FitsKey, FitsLast, FitsRange, FitsRegion, FitsTransfer, FitsTrouble, FitsUnit, FitsVehicle}
use Rattle.vehicle_text.specs.Texts.{vehicle_data, vehicle_fields}
use Rattle.vehicle_text.specs.Troubles.{act_fields, gate_data, gate_fields, heard_fields, trouble_data, trouble_fields}
use Rattle.vehicle_text.specs.Units.{bytes_given, idents_fields, idents_given, last_given, list_data, list_given, patch_data, patch_fields, range_data, range_fields, region_data, region_fields, taken_given, transfer_fields, transfer_given, unit_data, unit_fields}

abbrev SomePlain : ℕ → Option Data → Type 0
SomePlain n None = Unit {0}
SomePlain n (Some d) = IsPlain n d

abbrev EachPlain : ℕ → Fields → Type 0
EachPlain n [] = Unit {0}
EachPlain n (f ∷ fs) = SomePlain n f.1 × EachPlain n fs

fields_plain : (n : ℕ) (fs : Fields) → EachPlain n fs → ArePlain n (members_in fs)
fields_plain n [] all = record { flat = refl }
fields_plain n ((name, None) ∷ fs) all = fields_plain n fs all.1
fields_plain n ((name, Some d) ∷ fs) all = record { flat = and_from _ _ all.0.flat (fields_plain n fs all.1).flat }

pub object_plain : (n : ℕ) (fs : Fields) → EachPlain n fs → IsPlain (suc n) (object_in fs)
object_plain n fs all = record { flat = (fields_plain n fs all).flat }

items_plain : {A : Type 0} (n : ℕ) (f : A → Data) (P : A → Type 0) → ((x : A) → P x → IsPlain n (f x)) → (xs : List A) → Each P xs → ItemsPlain n (items_of (map f xs))
items_plain n f P each [] all = record { flat = refl }
items_plain n f P each (x ∷ xs) all = record { flat = and_from _ _ (each x all.0).flat (items_plain n f P each xs all.1).flat }

list_plain : {A : Type 0} (n : ℕ) (f : A → Data) (P : A → Type 0) → ((x : A) → P x → IsPlain n (f x)) → (xs : List A) → Each P xs → IsPlain (suc n) (list_data f xs)
list_plain n f P each xs all = record { flat = (items_plain n f P each xs all).flat }

given_plain : {A : Type 0} (n : ℕ) (f : A → Data) (P : A → Type 0) → ((x : A) → P x → IsPlain n (f x)) → (xs : List A) → Each P xs → SomePlain (suc n) (list_given f xs)
given_plain n f P each [] all = tt
given_plain n f P each (x ∷ xs) all = list_plain n f P each (x ∷ xs) all

-- ------ single values
text_plain : (n : ℕ) (t : List ℕ) → IsPlain n (string t)
text_plain n t = record { flat = refl }

whole_plain : (n k : ℕ) → k < 2 ^ 64 → IsPlain n (whole_data k)
whole_plain n k lt = record { flat = lt-ltb k (2 ^ 64) lt }

number_plain : (n k : ℕ) → k < 2 ^ 32 → IsPlain n (whole_data k)
number_plain n k lt = whole_plain n k (omega (arith, lt))

flag_plain : (n : ℕ) (b : Bool) → IsPlain n (flag_data b)
flag_plain n b = record { flat = refl }

unless_plain : (n : ℕ) (b : Bool) (d : Data) → IsPlain n d → SomePlain n (unless b d)
unless_plain n true d is = tt
unless_plain n false d is = is

last_plain : (n : ℕ) (o : Option ℕ) → FitsLast o → SomePlain n (last_given o)
last_plain n None fits = tt
last_plain n (Some k) fits = whole_plain n k fits

taken_plain : (n : ℕ) (o : Option ℕ) → SomePlain n (taken_given o)
taken_plain n None = tt
taken_plain n (Some k) = flag_plain n true

seed_plain : (n : ℕ) (o : Option (List ℕ)) → SomePlain n (bytes_given o)
seed_plain n None = tt
seed_plain n (Some bs) = text_plain n _

-- ------ parts of a unit
region_plain : (n : ℕ) (r : RegionSpec) → FitsRegion r → IsPlain (suc n) (region_data r)
region_plain n r fits = object_plain n (region_fields r) (text_plain n _, (whole_plain n r.size fits.1, (text_plain n _, tt)))

patch_plain : (n : ℕ) (p : PatchSpec) → IsPlain (suc n) (patch_data p)
patch_plain n p = object_plain n (patch_fields p) (text_plain n _, (text_plain n _, tt))

range_plain : (n : ℕ) (r : ℕ × ℕ) → FitsRange r → IsPlain (suc n) (range_data r)
range_plain n r fits = object_plain n (range_fields r) (text_plain n _, (whole_plain n r.1 fits, tt))

idents_plain : (n : ℕ) (is : List (ℕ × List ℕ)) → EachPlain n (idents_fields is)
idents_plain n [] = tt
idents_plain n (i ∷ is) = (text_plain n _, idents_plain n is)

given_idents_plain : (n : ℕ) (is : List (ℕ × List ℕ)) → SomePlain (suc n) (idents_given is)
given_idents_plain n [] = tt
given_idents_plain n (i ∷ is) = object_plain n (idents_fields (i ∷ is)) (idents_plain n (i ∷ is))

key_plain : (n : ℕ) (k : KeyRule) → FitsKey k → SomePlain (suc n) (key_given k)
key_plain n Free fits = tt
key_plain n (Xor l mask) fits = object_plain n (key_fields (Xor l mask)) (text_plain n _, (text_plain n _, (text_plain n _, tt)))
key_plain n (Digest l size secret) fits = object_plain n (key_fields (Digest l size secret)) (text_plain n _, (text_plain n _, (whole_plain n size fits.1, (text_plain n _, tt))))

act_plain : (n : ℕ) (a : Act) → FitsAct a → EachPlain (suc n) (act_fields a)
act_plain n (Refuse nrc) fits = (text_plain (suc n) _, (text_plain (suc n) _, tt))
act_plain n (Odd bytes) fits = (text_plain (suc n) _, (text_plain (suc n) _, tt))
act_plain n (Fail status) fits = (text_plain (suc n) _, (text_plain (suc n) _, tt))
act_plain n Mute fits = (text_plain (suc n) _, tt)
act_plain n (Delay ticks) fits = (text_plain (suc n) _, (number_plain (suc n) ticks fits, tt))
act_plain n (Busy times) fits = (text_plain (suc n) _, (whole_plain (suc n) times fits, tt))
act_plain n (Pending ticks (Times times)) fits = (text_plain (suc n) _, (number_plain (suc n) ticks fits.0, (whole_plain (suc n) times fits.1, tt)))
act_plain n (Pending ticks (Heard unit sid)) fits =
    (text_plain (suc n) _, (number_plain (suc n) ticks fits.0, (object_plain n (heard_fields unit sid) (text_plain n _, (text_plain n _, tt)), tt)))

trouble_plain : (n : ℕ) (t : TroubleSpec) → FitsTrouble t → IsPlain (suc (suc n)) (trouble_data t)
trouble_plain n t fits = object_plain (suc n) (trouble_fields t) (text_plain (suc n) _, (number_plain (suc n) t.nth fits.nth, act_plain n t.act fits.act))

gate_plain : (n : ℕ) (t : GatewayTrouble) → FitsGate t → IsPlain (suc n) (gate_data t)
gate_plain n (Deny nth code) fits = object_plain n (gate_fields (Deny nth code)) (number_plain n nth fits.0, (text_plain n _, (text_plain n _, tt)))
gate_plain n (Silent nth) fits = object_plain n (gate_fields (Silent nth)) (number_plain n nth fits, (text_plain n _, tt))
gate_plain n (Nack unit nth code) fits = object_plain n (gate_fields (Nack unit nth code)) (text_plain n _, (number_plain n nth fits.1, (text_plain n _, (text_plain n _, tt))))
gate_plain n (Alive tick) fits = object_plain n (gate_fields (Alive tick)) (whole_plain n tick fits, (text_plain n _, tt))

transfer_plain : (n : ℕ) (o : Option Transfer) → FitsTransfer o → SomePlain (suc n) (transfer_given o)
transfer_plain n None fits = tt
transfer_plain n (Some t) fits =
    object_plain n (transfer_fields t)
    (text_plain n _, (whole_plain n t.rest fits.rest, (text_plain n _, (taken_plain n t.last, (unless_plain n (not t.up) (flag_data true) (flag_plain n true), (last_plain n t.last fits.last, tt))))))

abbrev any_patch : PatchSpec → Type 0
any_patch p = Unit {0}

every_patch : (ps : List PatchSpec) → Each any_patch ps
every_patch [] = tt
every_patch (p ∷ ps) = (tt, every_patch ps)

unit_plain : (n : ℕ) (u : UnitSpec) → FitsUnit u → IsPlain (suc (suc (suc (suc n)))) (unit_data u)
unit_plain k u fits =
    let n : ℕ = suc (suc (suc k)) in
    object_plain n (unit_fields u) (
      text_plain n _,
      (
        list_plain (suc (suc k)) region_data FitsRegion (region_plain (suc k)) u.regions fits.layout.regions,
        (
          given_plain (suc (suc k)) patch_data any_patch (λ p any. patch_plain (suc k) p) u.bytes (every_patch u.bytes),
          (
            given_idents_plain (suc (suc k)) u.idents,
            (
              key_plain (suc (suc k)) u.key fits.rules.key,
              (
                unless_plain n (bytes_eq u.seed (1 ∷ [])) (bytes_data u.seed) (text_plain n _),
                (
                  unless_plain n (u.block == 4095) (whole_data u.block) (number_plain n u.block fits.rules.block),
                  (
                    text_plain n _,
                    (
                      given_plain (suc (suc k)) range_data FitsRange (range_plain (suc k)) u.checked fits.past.checked,
                      (
                        unless_plain n (not u.passed) (flag_data true) (flag_plain n true),
                        (
                          unless_plain n (u.heard == 0) (whole_data u.heard) (whole_plain n u.heard fits.past.heard),
                          (
                            given_plain (suc (suc k)) trouble_data FitsTrouble (trouble_plain k) u.troubles fits.past.troubles,
                            (
                              unless_plain n (u.kind == 1) (two_data u.kind) (text_plain n _),
                              (
                                unless_plain n (not u.unlocked) (flag_data true) (flag_plain n true),
                                (
                                  seed_plain n u.last_seed,
                                  (
                                    transfer_plain (suc (suc k)) u.transfer fits.state.transfer,
                                    (
                                      unless_plain n (not u.dtc_off) off_data (text_plain n _),
                                      (
                                        unless_plain n (not u.messages_off) off_data (text_plain n _),
                                        tt,
                                      ),
                                    ),
                                  ),
                                ),
                              ),
                            ),
                          ),
                        ),
                      ),
                    ),
                  ),
                ),
              ),
            ),
          ),
        ),
      ),
    )

pub vehicle_plain : (v : VehicleSpec) → FitsVehicle v → IsPlain 6 (vehicle_data v)
vehicle_plain v fits =
    object_plain 5 (vehicle_fields v) (
      text_plain 5 _,
      (
        list_plain 4 unit_data FitsUnit (unit_plain 0) v.units fits.units,
        (
          given_plain 4 gate_data FitsGate (gate_plain 3) v.gateway.gateway fits.gateway,
          tt,
        ),
      ),
    )
