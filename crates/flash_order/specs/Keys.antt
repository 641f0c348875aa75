-- The key rule of a task.
use Rattle.std.specs.Prelude.{ℕ, ◌%◌, ◌&&◌, ◌==◌, nat_le, List, length, codes, bytes_eq, Option, Some, None, if◌then◌else◌}
use Rattle.serde_json.specs.Data.{Data}
use Rattle.serde_json.specs.Find.{get, as_str}
use Rattle.flash_base.specs.declared.unit.KeyRule.{KeyRule}
use Rattle.flash_base.specs.declared.unit.KeyRule.TheVariants.{Free, Xor, Digest}
use Rattle.flash_order.specs.Fields.{◌>=>◌, only_if, one_byte, whole}
use Rattle.flash_order.specs.Listed.{has_members}
use Rattle.text_forms.specs.Bytes.{bytes_text}

-- an odd number from 01 to 7D
abbrev pub level : Data → Option ℕ
level d = get (codes "level") d >=> one_byte >=> λ n. only_if (n % 2 == 1 && nat_le n 125) n

-- at least one byte, and at most so many
abbrev pub some_bytes : ℕ → Data → Option (List ℕ)
some_bytes most d =
    as_str d >=> bytes_text >=> λ bytes. only_if (nat_le 1 (length bytes) && nat_le (length bytes) most) bytes

-- how many bytes of a digest are the key
abbrev pub key_length : Data → Option ℕ
key_length d = get (codes "length") d >=> whole >=> λ n. only_if (nat_le 1 n && nat_le n 32) n

abbrev pub free_rule : Data → Option KeyRule
free_rule d = only_if (has_members 1 d) Free

abbrev pub xor_rule : Data → Option KeyRule
xor_rule d =
    if has_members 3 d then (level d >=> λ l. get (codes "mask") d >=> some_bytes 32
    >=> λ mask. Some (Xor l mask)) else None

abbrev pub digest_rule : Data → Option KeyRule
digest_rule d =
    if has_members 4 d then (level d >=> λ l. key_length d >=> λ n. get (codes "secret") d >=> some_bytes 64
    >=> λ secret. Some (Digest l n secret)) else None

abbrev pub rule_named : List ℕ → Data → Option KeyRule
rule_named name d =
    if bytes_eq name (codes "none") then free_rule d
    else if bytes_eq name (codes "xor") then xor_rule d
    else if bytes_eq name (codes "digest") then digest_rule d
    else None

abbrev pub key_rule : Data → Option KeyRule
key_rule d = get (codes "rule") d >=> as_str >=> λ name. rule_named name d
