-- The key rule of a unit.
use Rattle.std.specs.Prelude.{ℕ, ◌%◌, ◌&&◌, ◌||◌, ◌==◌, nat_le, Bool, List, codes, bytes_eq, Option, Some, None, Ok, if◌then◌else◌}
use Rattle.serde_json.specs.Data.{Data}
use Rattle.serde_json.specs.Find.{as_str}
use Rattle.text_forms.specs.Bytes.{byte_text}
use Rattle.flash_base.specs.declared.unit.KeyRule.{KeyRule}
use Rattle.flash_base.specs.declared.unit.KeyRule.TheVariants.{Free, Xor, Digest}
use Rattle.vehicle_file.specs.declared.key.RuleName.{RuleName}
use Rattle.vehicle_file.specs.declared.key.RuleName.TheVariants as named
use Rattle.vehicle_file.specs.Fields.{Reading, ◌>>=◌, ◌>=>◌, an_object, bytes_to, needed, object_of, of_form, only_if, whole}

-- an odd number from 01 to 7D
abbrev pub level : Data → Reading ℕ
level d = of_form (as_str d >=> byte_text >=> λ n. only_if (n % 2 == 1 && nat_le n 125) n)

abbrev pub is_free_member : List ℕ → Bool
is_free_member name = bytes_eq name (codes "rule")

abbrev pub is_xor_member : List ℕ → Bool
is_xor_member name =
    bytes_eq name (codes "rule") || bytes_eq name (codes "level") || bytes_eq name (codes "mask")

abbrev pub is_digest_member : List ℕ → Bool
is_digest_member name = bytes_eq name (codes "rule") || bytes_eq name (codes "level")
    || bytes_eq name (codes "length") || bytes_eq name (codes "secret")

abbrev pub free : Data → Reading KeyRule
free d = Ok Free

abbrev pub xor : Data → Reading KeyRule
xor d = needed (codes "level") level d >>= λ l. needed (codes "mask") (bytes_to 32) d
    >>= λ mask. Ok (Xor l mask)

abbrev pub digest : Data → Reading KeyRule
digest d =
    needed (codes "level") level d >>= λ l.
    needed (codes "length") (whole 1 32) d >>= λ n.
    needed (codes "secret") (bytes_to 64) d >>= λ secret.
    Ok (Digest l n secret)

abbrev pub rule_in : List ℕ → Option RuleName
rule_in t =
    if bytes_eq t (codes "none") then Some named.Free
    else if bytes_eq t (codes "xor") then Some named.Xor
    else if bytes_eq t (codes "digest") then Some named.Digest
    else None

abbrev pub rule_name : Data → Reading RuleName
rule_name d = of_form (as_str d >=> rule_in)

abbrev pub rule_of : RuleName → Data → Reading KeyRule
rule_of named.Free d = object_of is_free_member free d
rule_of named.Xor d = object_of is_xor_member xor d
rule_of named.Digest d = object_of is_digest_member digest d

abbrev pub rule_members : Data → Reading KeyRule
rule_members o = needed (codes "rule") rule_name o >>= λ name. rule_of name o

abbrev pub key_rule : Data → Reading KeyRule
key_rule d = an_object rule_members d
