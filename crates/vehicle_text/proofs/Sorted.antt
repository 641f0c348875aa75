-- The value that a text is read as: the members of each object stand in the order of their names.
use Rattle.std.proofs.Common.{◌≡◌, ℕ, zero, suc, ◌^◌, ◌≤◌, Bool, true, false, List, [], Option, Some, None, refl, sym, ◌∙◌, ap, arith}
use Rattle.std.specs.Prelude.{◌&&◌, nat_lt, if◌then◌else◌, option_map, option_and_then}
use Rattle.std.specs.Str.{IsUtf8}
use Rattle.std.proofs.lemmas.Bool.{and_parts, ltb-true}
use Rattle.std.proofs.lemmas.List.{append-nil}
use Rattle.std.proofs.lemmas.Str.{is_utf8-from_IsUtf8}
use Rattle.json.specs.Token.{Token}
use Rattle.json.specs.Lex.{tokens}
use Rattle.json.specs.Json as json
use Rattle.json.specs.Tree as tree
use Rattle.json.proofs.Printed.Trees.{value-json_tokens}
use Rattle.serde_json.specs.Data.{Data, Num, unsigned, negative, float, null, boolean, number, string, array, object, Items, no_items, item, Members, no_members, member, put}
use Rattle.serde_json.specs.Read.{number_of, of_items, of_json, of_members, read}
use Rattle.serde_json.specs.Written.{items_outline, members_outline, number_text, outline}
use Rattle.serde_json.proofs.Numbers.{number_of-decimal}
use Rattle.vehicle_file.specs.Files.{value_in}
use Rattle.vehicle_text.specs.Objects.{tokens_of}

abbrev mutual
  pub normal : Data → Data
  normal null = null
  normal (boolean b) = boolean b
  normal (number n) = number n
  normal (string s) = string s
  normal (array ds) = array (normal_items ds)
  normal (object ms) = object (normal_into ms no_members)

  pub normal_items : Items → Items
  normal_items no_items = no_items
  normal_items (item d ds) = item (normal d) (normal_items ds)

  -- the members, put to those that there are
  pub normal_into : Members → Members → Members
  normal_into no_members found = found
  normal_into (member k d ms) found = normal_into ms (put k (normal d) found)

-- ------ values that nest no deeper, and have small numbers alone
abbrev is_small : Num → Bool
is_small (unsigned n) = nat_lt n (2 ^ 64)
is_small (negative z) = false
is_small (float x) = false

abbrev mutual
  is_flat : Data → ℕ → Bool
  is_flat null n = true
  is_flat (boolean b) n = true
  is_flat (number k) n = is_small k
  is_flat (string s) n = true
  is_flat (array ds) zero = false
  is_flat (array ds) (suc n) = items_flat ds n
  is_flat (object ms) zero = false
  is_flat (object ms) (suc n) = members_flat ms n

  items_flat : Items → ℕ → Bool
  items_flat no_items n = true
  items_flat (item d ds) n = is_flat d n && items_flat ds n

  members_flat : Members → ℕ → Bool
  members_flat no_members n = true
  members_flat (member k d ms) n = is_flat d n && members_flat ms n

small_read : (k : Num) → is_small k ≡ true → number_of (number_text k) ≡ Some k
small_read (unsigned n) e = number_of-decimal n (ltb-true n (2 ^ 64) e)
small_read (negative z) e = absurd (false_true e)
  where
    false_true : false ≡ true → ⊥
    false_true e = cc
small_read (float x) e = absurd (false_true e)
  where
    false_true : false ≡ true → ⊥
    false_true e = cc

never : false ≡ true → ⊥
never e = cc

mutual
  reads : (d : Data) (n : ℕ) → is_flat d n ≡ true → of_json (outline d) ≡ Some (normal d)
  reads null n e = refl
  reads (boolean b) n e = refl
  reads (number k) n e = ap (option_map number) (small_read k e)
  reads (string s) n e = refl
  reads (array ds) zero e = absurd (never e)
  reads (array ds) (suc n) e = ap (option_map array) (items_read ds n e)
  reads (object ms) zero e = absurd (never e)
  reads (object ms) (suc n) e = ap (option_map object) (members_read ms n no_members e)

  items_read : (ds : Items) (n : ℕ) → items_flat ds n ≡ true → of_items (items_outline ds) ≡ Some (normal_items ds)
  items_read no_items n e = refl
  items_read (item d ds) n e =
      let parts = and_parts (is_flat d n) (items_flat ds n) e in
      ap (option_and_then (λ x. option_map (item x) (of_items (items_outline ds)))) (reads d n parts.0) ∙ ap (option_map (item (normal d))) (items_read ds n parts.1)

  members_read : (ms : Members) (n : ℕ) (found : Members) → members_flat ms n ≡ true → of_members (members_outline ms) found ≡ Some (normal_into ms found)
  members_read no_members n found e = refl
  members_read (member k d ms) n found e =
      let parts = and_parts (is_flat d n) (members_flat ms n) e in
      ap (option_and_then (λ x. of_members (members_outline ms) (put k x found))) (reads d n parts.0) ∙ members_read ms n (put k (normal d) found) parts.1

mutual
  nests : (d : Data) (n : ℕ) → is_flat d n ≡ true → tree.depth (outline d) ≤ n
  nests null n e = omega arith
  nests (boolean b) n e = omega arith
  nests (number k) n e = omega arith
  nests (string s) n e = omega arith
  nests (array ds) zero e = absurd (never e)
  nests (array ds) (suc n) e = let le : tree.items_depth (items_outline ds) ≤ n = items_nest ds n e in omega (arith, le)
  nests (object ms) zero e = absurd (never e)
  nests (object ms) (suc n) e = let le : tree.members_depth (members_outline ms) ≤ n = members_nest ms n e in omega (arith, le)

  items_nest : (ds : Items) (n : ℕ) → items_flat ds n ≡ true → tree.items_depth (items_outline ds) ≤ n
  items_nest no_items n e = omega arith
  items_nest (item d ds) n e =
      let parts = and_parts (is_flat d n) (items_flat ds n) e in
      let one : tree.depth (outline d) ≤ n = nests d n parts.0 in
      let more : tree.items_depth (items_outline ds) ≤ n = items_nest ds n parts.1 in
      omega (arith, one, more)

  members_nest : (ms : Members) (n : ℕ) → members_flat ms n ≡ true → tree.members_depth (members_outline ms) ≤ n
  members_nest no_members n e = omega arith
  members_nest (member k d ms) n e =
      let parts = and_parts (is_flat d n) (members_flat ms n) e in
      let one : tree.depth (outline d) ≤ n = nests d n parts.0 in
      let more : tree.members_depth (members_outline ms) ≤ n = members_nest ms n parts.1 in
      omega (arith, one, more)

pub record IsPlain (n : ℕ) (d : Data) : Type 0 where
  pub flat : is_flat d n ≡ true

pub record ArePlain (n : ℕ) (ms : Members) : Type 0 where
  pub flat : members_flat ms n ≡ true

pub record ItemsPlain (n : ℕ) (ds : Items) : Type 0 where
  pub flat : items_flat ds n ≡ true

-- ------ a text of these tokens
found : (o : Option (json.Json × List Token)) (j : json.Json) → o ≡ Some (j, []) → option_and_then of_json (option_and_then (λ p. json.if_last p.0 p.1) o) ≡ of_json j
found o j e = ap (λ (x : Option (json.Json × List Token)). option_and_then of_json (option_and_then (λ p. json.if_last p.0 p.1) x)) e

pub text_reads : (text : List ℕ) (d : Data) (n : ℕ) → IsPlain n d → n ≤ 127 → IsUtf8 text → tokens text ≡ tokens_of d → value_in text ≡ Some (normal d)
text_reads text d n plain le utf8 same =
    let j : json.Json = outline d in
    let deep : tree.depth j ≤ 127 = let most : tree.depth j ≤ n = nests d n plain.flat in omega (arith, most, le) in
    let all : json.value 127 (tokens text) ≡ Some (j, []) = ap (json.value 127) (same ∙ sym (append-nil (tokens_of d))) ∙ value-json_tokens j 127 [] deep in
    ap (λ (b : Bool). if b then read text else None) (is_utf8-from_IsUtf8 text utf8) ∙ found (json.value 127 (tokens text)) j all ∙ reads d n plain.flat
