-- Key rules and troubles are read as they are written.
use Rattle.std.proofs.Common.{◌≡◌, ℕ, ◌^◌, ◌<◌, ◌≤◌, Bool, true, false, true≢false, Option, Some, None, refl, sym, ◌∙◌, ap, arith, length}
use Rattle.std.specs.Prelude.{nat_le, nat_lt, ◌&&◌, ◌-◌, ◌%◌, ◌==◌, Ok, Err, codes}
use Rattle.std.proofs.lemmas.Bool.{and_from, and_parts, le-leb, leb-true, ltb-true}
use Rattle.serde_json.specs.Data.{Data, string}
use Rattle.text_forms.specs.Bytes.{byte_text}
use Rattle.serde_json.specs.Find.{as_str}
use Rattle.flash_base.specs.declared.unit.KeyRule.{KeyRule}
use Rattle.flash_base.specs.declared.unit.KeyRule.TheVariants.{Free, Xor, Digest}
use Rattle.unit_model.specs.Rules.{is_level, is_rule, is_size}
use Rattle.unit_model.specs.Troubles.{MOST_TICKS, MOST_TIMES, is_act, is_trouble, is_until}
use Rattle.unit_model.specs.declared.spec.Act.{Act}
use Rattle.unit_model.specs.declared.spec.Act.TheVariants.{Refuse, Odd, Fail, Mute, Delay, Busy, Pending}
use Rattle.unit_model.specs.declared.spec.TroubleSpec.{TroubleSpec}
use Rattle.unit_model.specs.declared.spec.Until.TheVariants.{Times, Heard}
use Rattle.gateway_sim.specs.Troubles as gates
use Rattle.gateway_sim.specs.Troubles.{LAST_TICK}
use Rattle.gateway_sim.specs.declared.spec.GatewayTrouble.{GatewayTrouble}
use Rattle.gateway_sim.specs.declared.spec.GatewayTrouble.TheVariants as gate
use Rattle.vehicle_file.specs.Fields.{Reading, LAST_NTH, ◌>>=◌, ◌>=>◌, bytes_to, four, needed, object_of, of_form, only_if, two, whole}
use Rattle.vehicle_file.specs.Keys.{digest, free, is_digest_member, is_free_member, is_xor_member, key_rule, level, rule_name, rule_of, xor}
use Rattle.vehicle_file.specs.Troubles.{act_of, deed, deed_in, gate_deed, gate_deed_in, gate_members, gate_trouble, has, is_gate_member, is_trouble_member, is_until_member, times, trouble, trouble_of, until, until_members}
use Rattle.vehicle_text.specs.Forms.{bytes_data, four_data, two_data, whole_data}
use Rattle.vehicle_text.specs.Keys.{key_data, key_fields}
use Rattle.vehicle_text.specs.Objects.{Fields, find_or, object_in}
use Rattle.vehicle_text.specs.Ranges.{FitsAct, FitsGate, FitsKey, FitsTrouble}
use Rattle.vehicle_text.specs.Troubles.{act_fields, gate_data, gate_fields, heard_fields, trouble_data, trouble_fields}
use Rattle.vehicle_text.proofs.Digits.{bytes_to_are, four_is, from_zero, two_is, whole_is}
use Rattle.vehicle_text.proofs.Finding.{bind, from_some, needed_is, object_is, read_in, tabled}
use Rattle.vehicle_text.proofs.Sorted.{normal}

-- ------ key rules
abbrev is_ok : Reading ℕ → Bool
is_ok (Ok n) = true
is_ok (Err e) = false

abbrev ok_or : Reading ℕ → ℕ → ℕ
ok_or (Ok n) d = n
ok_or (Err e) d = d

level_is : (n : ℕ) → is_level n ≡ true → level (two_data n) ≡ Ok n
level_is n is =
    let low : n ≤ 125 = leb-true n 125 (and_parts (n % 2 == 1) (nat_le n 125) is).1 in
    let read : two (two_data n) ≡ Ok n = two_is n (omega (arith, low)) in
    narrowed (as_str (two_data n) >=> byte_text) n read is
  where
    narrowed : (o : Option ℕ) (n : ℕ) → of_form o ≡ Ok n → (n % 2 == 1 && nat_le n 125) ≡ true → of_form (o >=> λ m. only_if (m % 2 == 1 && nat_le m 125) m) ≡ Ok n
    narrowed None n e is = absurd (true≢false (ap is_ok (sym e)))
    narrowed (Some m) n e is =
        let same : m ≡ n = ap (λ (r : Reading ℕ). ok_or r 0) e in
        ap (λ (k : ℕ). of_form (only_if (k % 2 == 1 && nat_le k 125) k)) same ∙ ap (λ (b : Bool). of_form (only_if b n)) is

pub key_is : (k : KeyRule) → is_rule k ≡ true → FitsKey k → key_rule (normal (key_data k)) ≡ Ok k
key_is Free rule fits =
    let fs : Fields = key_fields Free in
    bind _ (λ name. rule_of name (read_in fs)) _ _ (needed_is (codes "rule") rule_name fs (string (codes "none")) _ refl refl)
    (object_is is_free_member free fs Free refl refl)
key_is (Xor l mask) rule fits =
    let fs : Fields = key_fields (Xor l mask) in
    let parts = and_parts (is_level l) (is_size 32 (length mask)) rule in
    bind _ (λ name. rule_of name (read_in fs)) _ _ (needed_is (codes "rule") rule_name fs (string (codes "xor")) _ refl refl)
    (object_is is_xor_member xor fs (Xor l mask) refl
    (bind _ _ l _ (needed_is (codes "level") level fs (two_data l) l refl (level_is l parts.0))
    (bind _ _ mask _ (needed_is (codes "mask") (bytes_to 32) fs (bytes_data mask) mask refl (bytes_to_are 32 mask fits parts.1)) refl)))
key_is (Digest l n secret) rule fits =
    let fs : Fields = key_fields (Digest l n secret) in
    let parts = and_parts (is_level l) (is_size 32 n && is_size 64 (length secret)) rule in
    let sizes = and_parts (is_size 32 n) (is_size 64 (length secret)) parts.1 in
    bind _ (λ name. rule_of name (read_in fs)) _ _ (needed_is (codes "rule") rule_name fs (string (codes "digest")) _ refl refl)
    (object_is is_digest_member digest fs (Digest l n secret) refl
    (bind _ _ l _ (needed_is (codes "level") level fs (two_data l) l refl (level_is l parts.0))
    (bind _ _ n _ (needed_is (codes "length") (whole 1 32) fs (whole_data n) n refl (whole_is 1 32 n sizes.0))
    (bind _ _ secret _ (needed_is (codes "secret") (bytes_to 64) fs (bytes_data secret) secret refl (bytes_to_are 64 secret fits.0 sizes.1)) refl))))

-- ------ troubles of a unit
until_is : (unit sid : ℕ) → unit < 65536 → sid < 256 → until (read_in (heard_fields unit sid)) ≡ Ok (Heard unit sid)
until_is unit sid u s =
    let fs : Fields = heard_fields unit sid in
    object_is is_until_member until_members fs (Heard unit sid) refl
    (bind _ _ unit _ (needed_is (codes "unit") four fs (four_data unit) unit refl (four_is unit u))
    (bind _ _ sid _ (needed_is (codes "sid") two fs (two_data sid) sid refl (two_is sid s)) refl))

nth_is : (n : ℕ) → nat_le 1 n ≡ true → n < 2 ^ 32 → whole 1 LAST_NTH (whole_data n) ≡ Ok n
nth_is n some lt = whole_is 1 LAST_NTH n (and_from (nat_le 1 n) (nat_le n LAST_NTH) some (le-leb n LAST_NTH (omega (arith, lt))))

module _ (sid nth : ℕ) where
  abbrev of_act : Act → TroubleSpec
  of_act a = record { sid = sid; nth = nth; act = a }

  abbrev fields : Act → Fields
  fields a = trouble_fields (of_act a)

  -- what is behind the number
  abbrev Later : Act → Type 0
  Later a = (needed (codes "do") deed (read_in (fields a)) >>= λ d. trouble_of sid nth d (read_in (fields a))) ≡ Ok (of_act a)

  later : (a : Act) → is_act a ≡ true → FitsAct a → Later a
  later (Refuse nrc) is fits =
      bind _ (λ d. trouble_of sid nth d (read_in (fields (Refuse nrc)))) (from_some (deed_in (codes "refuse")) refl) _ (needed_is (codes "do") deed (fields (Refuse nrc)) (string (codes "refuse")) (from_some (deed_in (codes "refuse")) refl) refl refl)
      (bind _ (λ a. Ok (of_act a)) (Refuse nrc) _ (tabled (λ w. is_trouble_member w (has (codes "times") (read_in (fields (Refuse nrc))))) act_of (from_some (deed_in (codes "refuse")) refl) (fields (Refuse nrc)) (Refuse nrc) refl
      (bind _ _ nrc _ (needed_is (codes "nrc") two (fields (Refuse nrc)) (two_data nrc) nrc refl (two_is nrc fits)) refl)) refl)
  later (Odd bytes) is fits =
      bind _ (λ d. trouble_of sid nth d (read_in (fields (Odd bytes)))) (from_some (deed_in (codes "odd")) refl) _ (needed_is (codes "do") deed (fields (Odd bytes)) (string (codes "odd")) (from_some (deed_in (codes "odd")) refl) refl refl)
      (bind _ (λ a. Ok (of_act a)) (Odd bytes) _ (tabled (λ w. is_trouble_member w (has (codes "times") (read_in (fields (Odd bytes))))) act_of (from_some (deed_in (codes "odd")) refl) (fields (Odd bytes)) (Odd bytes) refl
      (bind _ _ bytes _ (needed_is (codes "hex") (bytes_to 4096) (fields (Odd bytes)) (bytes_data bytes) bytes refl (bytes_to_are 4096 bytes fits is)) refl)) refl)
  later (Fail status) is fits =
      bind _ (λ d. trouble_of sid nth d (read_in (fields (Fail status)))) (from_some (deed_in (codes "fail")) refl) _ (needed_is (codes "do") deed (fields (Fail status)) (string (codes "fail")) (from_some (deed_in (codes "fail")) refl) refl refl)
      (bind _ (λ a. Ok (of_act a)) (Fail status) _ (tabled (λ w. is_trouble_member w (has (codes "times") (read_in (fields (Fail status))))) act_of (from_some (deed_in (codes "fail")) refl) (fields (Fail status)) (Fail status) refl
      (bind _ _ status _ (needed_is (codes "status") two (fields (Fail status)) (two_data status) status refl (two_is status fits)) refl)) refl)
  later Mute is fits =
      bind _ (λ d. trouble_of sid nth d (read_in (fields Mute))) (from_some (deed_in (codes "mute")) refl) _ (needed_is (codes "do") deed (fields Mute) (string (codes "mute")) (from_some (deed_in (codes "mute")) refl) refl refl)
      (bind _ (λ a. Ok (of_act a)) Mute _ (tabled (λ w. is_trouble_member w (has (codes "times") (read_in (fields Mute)))) act_of (from_some (deed_in (codes "mute")) refl) (fields Mute) Mute refl
      refl) refl)
  later (Delay ticks) is fits =
      bind _ (λ d. trouble_of sid nth d (read_in (fields (Delay ticks)))) (from_some (deed_in (codes "delay")) refl) _ (needed_is (codes "do") deed (fields (Delay ticks)) (string (codes "delay")) (from_some (deed_in (codes "delay")) refl) refl refl)
      (bind _ (λ a. Ok (of_act a)) (Delay ticks) _ (tabled (λ w. is_trouble_member w (has (codes "times") (read_in (fields (Delay ticks))))) act_of (from_some (deed_in (codes "delay")) refl) (fields (Delay ticks)) (Delay ticks) refl
      (bind _ _ ticks _ (needed_is (codes "ticks") (whole 0 MOST_TICKS) (fields (Delay ticks)) (whole_data ticks) ticks refl (whole_is 0 MOST_TICKS ticks (from_zero ticks MOST_TICKS is))) refl)) refl)
  later (Busy n) is fits =
      bind _ (λ d. trouble_of sid nth d (read_in (fields (Busy n)))) (from_some (deed_in (codes "busy")) refl) _ (needed_is (codes "do") deed (fields (Busy n)) (string (codes "busy")) (from_some (deed_in (codes "busy")) refl) refl refl)
      (bind _ (λ a. Ok (of_act a)) (Busy n) _ (tabled (λ w. is_trouble_member w (has (codes "times") (read_in (fields (Busy n))))) act_of (from_some (deed_in (codes "busy")) refl) (fields (Busy n)) (Busy n) refl
      (bind _ _ n _ (needed_is (codes "times") times (fields (Busy n)) (whole_data n) n refl (whole_is 1 MOST_TIMES n is)) refl)) refl)
  later (Pending ticks (Times n)) is fits =
      bind _ (λ d. trouble_of sid nth d (read_in (fields (Pending ticks (Times n))))) (from_some (deed_in (codes "pending")) refl) _ (needed_is (codes "do") deed (fields (Pending ticks (Times n))) (string (codes "pending")) (from_some (deed_in (codes "pending")) refl) refl refl)
      (bind _ (λ a. Ok (of_act a)) (Pending ticks (Times n)) _ (tabled (λ w. is_trouble_member w (has (codes "times") (read_in (fields (Pending ticks (Times n)))))) act_of (from_some (deed_in (codes "pending")) refl) (fields (Pending ticks (Times n))) (Pending ticks (Times n)) refl
      (bind _ _ ticks _ (needed_is (codes "ticks") (whole 1 MOST_TICKS) (fields (Pending ticks (Times n))) (whole_data ticks) ticks refl (whole_is 1 MOST_TICKS ticks (and_parts (is_size MOST_TICKS ticks) (is_until (Times n)) is).0))
      (bind _ _ (Times n) _ (bind _ _ n _ (needed_is (codes "times") times (fields (Pending ticks (Times n))) (whole_data n) n refl (whole_is 1 MOST_TIMES n (and_parts (is_size MOST_TICKS ticks) (is_until (Times n)) is).1)) refl) refl))) refl)
  later (Pending ticks (Heard unit s)) is fits =
      bind _ (λ d. trouble_of sid nth d (read_in (fields (Pending ticks (Heard unit s))))) (from_some (deed_in (codes "pending")) refl) _ (needed_is (codes "do") deed (fields (Pending ticks (Heard unit s))) (string (codes "pending")) (from_some (deed_in (codes "pending")) refl) refl refl)
      (bind _ (λ a. Ok (of_act a)) (Pending ticks (Heard unit s)) _ (tabled (λ w. is_trouble_member w (has (codes "times") (read_in (fields (Pending ticks (Heard unit s)))))) act_of (from_some (deed_in (codes "pending")) refl) (fields (Pending ticks (Heard unit s))) (Pending ticks (Heard unit s)) refl
      (bind _ _ ticks _ (needed_is (codes "ticks") (whole 1 MOST_TICKS) (fields (Pending ticks (Heard unit s))) (whole_data ticks) ticks refl (whole_is 1 MOST_TICKS ticks (and_parts (is_size MOST_TICKS ticks) (is_until (Heard unit s)) is).0))
      (bind _ _ (Heard unit s) _ (needed_is (codes "until") until (fields (Pending ticks (Heard unit s))) (object_in (heard_fields unit s)) (Heard unit s) refl (until_is unit s fits.1.0 fits.1.1)) refl))) refl)

-- what an act has is neither of these
not_sid : (a : Act) (o : Option Data) → find_or (codes "sid") (act_fields a) o ≡ o
not_sid (Refuse nrc) o = refl
not_sid (Odd bytes) o = refl
not_sid (Fail status) o = refl
not_sid Mute o = refl
not_sid (Delay ticks) o = refl
not_sid (Busy n) o = refl
not_sid (Pending ticks (Times n)) o = refl
not_sid (Pending ticks (Heard unit sid)) o = refl

not_nth : (a : Act) (o : Option Data) → find_or (codes "nth") (act_fields a) o ≡ o
not_nth (Refuse nrc) o = refl
not_nth (Odd bytes) o = refl
not_nth (Fail status) o = refl
not_nth Mute o = refl
not_nth (Delay ticks) o = refl
not_nth (Busy n) o = refl
not_nth (Pending ticks (Times n)) o = refl
not_nth (Pending ticks (Heard unit sid)) o = refl

pub trouble_is : (t : TroubleSpec) → is_trouble t ≡ true → FitsTrouble t → trouble (normal (trouble_data t)) ≡ Ok t
trouble_is t is fits =
    let fs : Fields = trouble_fields t in
    let parts = and_parts (nat_le 1 t.nth) (is_act t.act) is in
    bind _ _ t.sid _ (needed_is (codes "sid") two fs (two_data t.sid) t.sid (not_sid t.act (Some (two_data t.sid))) (two_is t.sid fits.sid))
    (bind _ _ t.nth _ (needed_is (codes "nth") (whole 1 LAST_NTH) fs (whole_data t.nth) t.nth (not_nth t.act (Some (whole_data t.nth))) (nth_is t.nth parts.0 fits.nth))
    (later t.sid t.nth t.act parts.1 fits.act))

-- ------ troubles of a gateway
tick_is : (n : ℕ) → nat_lt n LAST_TICK ≡ true → whole 0 (LAST_TICK - 1) (whole_data n) ≡ Ok n
tick_is n lt = whole_is 0 (LAST_TICK - 1) n (from_zero n (LAST_TICK - 1) (le-leb n (LAST_TICK - 1) (omega (arith, ltb-true n LAST_TICK lt))))

pub gate_is : (t : GatewayTrouble) → gates.is_trouble t ≡ true → FitsGate t → gate_trouble (normal (gate_data t)) ≡ Ok t
gate_is (gate.Deny nth code) is fits =
    let fs : Fields = gate_fields (gate.Deny nth code) in
    bind _ (λ d. object_of (is_gate_member d) (gate_members d) (read_in fs)) (from_some (gate_deed_in (codes "deny")) refl) _ (needed_is (codes "do") gate_deed fs (string (codes "deny")) (from_some (gate_deed_in (codes "deny")) refl) refl refl)
    (tabled is_gate_member gate_members (from_some (gate_deed_in (codes "deny")) refl) fs (gate.Deny nth code) refl
    (bind _ _ nth _ (needed_is (codes "nth") (whole 1 LAST_NTH) fs (whole_data nth) nth refl (nth_is nth is fits.0))
    (bind _ _ code _ (needed_is (codes "code") two fs (two_data code) code refl (two_is code fits.1)) refl)))
gate_is (gate.Silent nth) is fits =
    let fs : Fields = gate_fields (gate.Silent nth) in
    bind _ (λ d. object_of (is_gate_member d) (gate_members d) (read_in fs)) (from_some (gate_deed_in (codes "silent")) refl) _ (needed_is (codes "do") gate_deed fs (string (codes "silent")) (from_some (gate_deed_in (codes "silent")) refl) refl refl)
    (tabled is_gate_member gate_members (from_some (gate_deed_in (codes "silent")) refl) fs (gate.Silent nth) refl
    (bind _ _ nth _ (needed_is (codes "nth") (whole 1 LAST_NTH) fs (whole_data nth) nth refl (nth_is nth is fits)) refl))
gate_is (gate.Nack unit nth code) is fits =
    let fs : Fields = gate_fields (gate.Nack unit nth code) in
    bind _ (λ d. object_of (is_gate_member d) (gate_members d) (read_in fs)) (from_some (gate_deed_in (codes "nack")) refl) _ (needed_is (codes "do") gate_deed fs (string (codes "nack")) (from_some (gate_deed_in (codes "nack")) refl) refl refl)
    (tabled is_gate_member gate_members (from_some (gate_deed_in (codes "nack")) refl) fs (gate.Nack unit nth code) refl
    (bind _ _ unit _ (needed_is (codes "unit") four fs (four_data unit) unit refl (four_is unit fits.0))
    (bind _ _ nth _ (needed_is (codes "nth") (whole 1 LAST_NTH) fs (whole_data nth) nth refl (nth_is nth is fits.1))
    (bind _ _ code _ (needed_is (codes "code") two fs (two_data code) code refl (two_is code fits.2)) refl))))
gate_is (gate.Alive tick) is fits =
    let fs : Fields = gate_fields (gate.Alive tick) in
    bind _ (λ d. object_of (is_gate_member d) (gate_members d) (read_in fs)) (from_some (gate_deed_in (codes "alive")) refl) _ (needed_is (codes "do") gate_deed fs (string (codes "alive")) (from_some (gate_deed_in (codes "alive")) refl) refl refl)
    (tabled is_gate_member gate_members (from_some (gate_deed_in (codes "alive")) refl) fs (gate.Alive tick) refl
    (bind _ _ tick _ (needed_is (codes "tick") (whole 0 (LAST_TICK - 1)) fs (whole_data tick) tick refl (tick_is tick is)) refl))
