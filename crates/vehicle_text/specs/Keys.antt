-- How the key rule of a unit is written.
use Rattle.std.specs.Prelude.{[], ◌∷◌, codes, Option, Some, None}
use Rattle.serde_json.specs.Data.{Data, string}
use Rattle.flash_base.specs.declared.unit.KeyRule.{KeyRule}
use Rattle.flash_base.specs.declared.unit.KeyRule.TheVariants.{Free, Xor, Digest}
use Rattle.vehicle_text.specs.Forms.{bytes_data, two_data, whole_data}
use Rattle.vehicle_text.specs.Objects.{Fields, object_in}

abbrev pub key_fields : KeyRule → Fields
key_fields Free = (codes "rule", Some (string (codes "none"))) ∷ []
key_fields (Xor level mask) =
    (codes "rule", Some (string (codes "xor"))) ∷ (codes "level", Some (two_data level))
    ∷ (codes "mask", Some (bytes_data mask)) ∷ []
key_fields (Digest level size secret) =
    (codes "rule", Some (string (codes "digest"))) ∷ (codes "level", Some (two_data level))
    ∷ (codes "length", Some (whole_data size)) ∷ (codes "secret", Some (bytes_data secret)) ∷ []

abbrev pub key_data : KeyRule → Data
key_data rule = object_in (key_fields rule)

-- no rule is left out
abbrev pub key_given : KeyRule → Option Data
key_given Free = None
key_given (Xor level mask) = Some (key_data (Xor level mask))
key_given (Digest level size secret) = Some (key_data (Digest level size secret))
