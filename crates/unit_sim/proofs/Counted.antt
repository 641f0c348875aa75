-- The counts of trouble are beside every obedient step: no step looks at them or changes them.
use Rattle.std.proofs.Common.{◌≡◌, ℕ, true, false, List, [], ◌∷◌, length, Some, None, refl}
use Rattle.std.specs.Prelude.{Bool, Option, ◌==◌, ◌||◌, ◌+◌, not, nat_lt, if◌then◌else◌}
use Rattle.sha2.specs.Sha256.{sha256}
use Rattle.flash_base.specs.ByteMaps.{has_each, bytes_of}
use Rattle.flash_base.specs.Lists.{same_bytes}
use Rattle.uds_codec.specs.Key.{key_of}
use Rattle.uds_codec.specs.Request.{Range, range_of}
use Rattle.uds_codec.specs.declared.request.Request.{Request}
use Rattle.uds_codec.specs.declared.request.Request.TheVariants.{Session, Reset, ReadId, Seed, Key, Routine, Download, Upload, Transfer, Pull, Exit, Setting, Messages}
use Rattle.unit_model.specs.Unit.{ControlUnit, OpenTransfer, Counts, obey, obey_in, read_in, ident_of, has_level, key_in, erase_in, check_in, finish_in, routine, is_locked, receive_in, give_in, exit_in, is_repeat, block_number, last_block, programming, in_default, in_session, refuse}
use Rattle.unit_sim.specs.declared.change.Change.{Change}
use Rattle.unit_sim.specs.declared.change.Change.TheVariants as change
use Rattle.unit_sim.specs.Changes.{changed, written_in}

abbrev pub beside : Counts → ControlUnit → ControlUnit
beside k u = record u { counts = k }

abbrev pub beside_step : Counts → ControlUnit × List ℕ → ControlUnit × List ℕ
beside_step k step = (beside k step.0, step.1)

pick : (k : Counts) (c : Bool) (a b a' b' : ControlUnit × List ℕ) → a' ≡ beside_step k a → b' ≡ beside_step k b → (if c then a' else b') ≡ beside_step k (if c then a else b)
pick k true a b a' b' ya yb = ya
pick k false a b a' b' ya yb = yb

kind_beside : (k : Counts) (u : ControlUnit) (kind : ℕ) (c : Bool) → (if c then in_default (beside k u) else in_session (beside k u) kind) ≡ beside k (if c then in_default u else in_session u kind)
kind_beside k u kind true = refl
kind_beside k u kind false = refl

in_programming : (k : Counts) (u : ControlUnit) (sid : ℕ) (a a' : ControlUnit × List ℕ) → a' ≡ beside_step k a → programming (beside k u) sid a' ≡ beside_step k (programming u sid a)
in_programming k u sid a a' same = pick k (u.session == 2) a (refuse u sid 127) a' (refuse (beside k u) sid 127) same refl

read_beside : (k : Counts) (u : ControlUnit) (did : ℕ) (value : Option (List ℕ)) → read_in (beside k u) did value ≡ beside_step k (read_in u did value)
read_beside k u did None = refl
read_beside k u did (Some value) = refl

key_beside : (k : Counts) (u : ControlUnit) (level : ℕ) (key : List ℕ) (seed : Option (List ℕ)) → key_in (beside k u) level key seed ≡ beside_step k (key_in u level key seed)
key_beside k u level key None = refl
key_beside k u level key (Some seed) = pick k (same_bytes key (key_of u.key seed)) _ _ _ _ refl refl

erase_beside : (k : Counts) (u : ControlUnit) (range : Option Range) → erase_in (beside k u) range ≡ beside_step k (erase_in u range)
erase_beside k u None = refl
erase_beside k u (Some r) = pick k (r.size == 0 || not (length r.more == 0)) _ _ _ _ refl (pick k (not (has_each r.at r.size u.memory)) _ _ _ _ refl refl)

check_beside : (k : Counts) (u : ControlUnit) (id : ℕ) (range : Option Range) → check_in (beside k u) id range ≡ beside_step k (check_in u id range)
check_beside k u id None = refl
check_beside k u id (Some r) =
    pick k (r.size == 0 || not (length r.more == 32)) _ _ _ _ refl
    (pick k (not (has_each r.at r.size u.memory)) _ _ _ _ refl
    (pick k (same_bytes r.more (sha256 (bytes_of r.at r.size u.memory))) _ _ _ _ refl refl))

finish_beside : (k : Counts) (u : ControlUnit) (checked : List (ℕ × ℕ)) → finish_in (beside k u) checked ≡ beside_step k (finish_in u checked)
finish_beside k u [] = refl
finish_beside k u (r ∷ rs) = refl

routine_beside : (k : Counts) (u : ControlUnit) (id : ℕ) (option : List ℕ) → routine (beside k u) id option ≡ beside_step k (routine u id option)
routine_beside k u id option =
    pick k (id == 65280) _ _ _ _ (pick k (is_locked u) _ _ _ _ refl (erase_beside k u (range_of option)))
    (pick k (is_locked u) _ _ _ _ refl
    (pick k (id == 65281) _ _ _ _ (finish_beside k u u.checked)
    (pick k (id == u.check) _ _ _ _ (check_beside k u id (range_of option)) refl)))

receive_beside : (k : Counts) (u : ControlUnit) (t : Option OpenTransfer) (counter : ℕ) (body : List ℕ) → receive_in (beside k u) t counter body ≡ beside_step k (receive_in u t counter body)
receive_beside k u None counter body = refl
receive_beside k u (Some t) counter body =
    pick k t.up _ _ _ _ refl
    (pick k (is_repeat t counter) _ _ _ _ refl
    (pick k (not (counter == t.counter)) _ _ _ _ refl
    (pick k (nat_lt (block_number u) (length body + 2)) _ _ _ _ refl
    (pick k (nat_lt t.rest (length body)) _ _ _ _ refl refl))))

give_beside : (k : Counts) (u : ControlUnit) (t : Option OpenTransfer) (counter : ℕ) → give_in (beside k u) t counter ≡ beside_step k (give_in u t counter)
give_beside k u None counter = refl
give_beside k u (Some t) counter =
    pick k (not t.up) _ _ _ _ refl
    (pick k (is_repeat t counter) _ _ _ _ (again t.last)
    (pick k (t.rest == 0) _ _ _ _ refl
    (pick k (not (counter == t.counter)) _ _ _ _ refl refl)))
  where
    again : (last : Option ℕ) → ◌≡◌ {A = ControlUnit × List ℕ} (beside k u, 118 ∷ counter ∷ last_block (beside k u) t last) (beside k u, 118 ∷ counter ∷ last_block u t last)
    again None = refl
    again (Some n) = refl

exit_beside : (k : Counts) (u : ControlUnit) (t : Option OpenTransfer) → exit_in (beside k u) t ≡ beside_step k (exit_in u t)
exit_beside k u None = refl
exit_beside k u (Some t) = pick k (t.rest == 0) _ _ _ _ refl refl

obey_beside : (k : Counts) (u : ControlUnit) (r : Request) → obey (beside k u) r ≡ beside_step k (obey u r)
obey_beside k u (Session kind) = λ i. (kind_beside k u kind (kind == 1) i, 80 ∷ kind ∷ 0 ∷ 50 ∷ 1 ∷ 244 ∷ [])
obey_beside k u Reset = refl
obey_beside k u (ReadId did) = read_beside k u did (ident_of u.idents did)
obey_beside k u (Seed level) = in_programming k u 39 _ _ (pick k (has_level u.key level) _ _ _ _ refl refl)
obey_beside k u (Key level key) = in_programming k u 39 _ _ (pick k (has_level u.key level) _ _ _ _ (key_beside k u level key u.last_seed) refl)
obey_beside k u (Routine id option) = in_programming k u 49 _ _ (routine_beside k u id option)
obey_beside k u (Download width at size) = in_programming k u 52 _ _ (pick k (is_locked u) _ _ _ _ refl (pick k (not (has_each at size u.memory)) _ _ _ _ refl refl))
obey_beside k u (Upload width at size) = in_programming k u 53 _ _ (pick k (is_locked u) _ _ _ _ refl (pick k (not (has_each at size u.memory)) _ _ _ _ refl refl))
obey_beside k u (Transfer counter body) = in_programming k u 54 _ _ (receive_beside k u u.transfer counter body)
obey_beside k u (Pull counter) = in_programming k u 54 _ _ (give_beside k u u.transfer counter)
obey_beside k u Exit = in_programming k u 55 _ _ (exit_beside k u u.transfer)
obey_beside k u (Setting off) = pick k (u.session == 1) _ _ _ _ refl refl
obey_beside k u (Messages off) = pick k (u.session == 1) _ _ _ _ refl refl

pub obedient_beside : (k : Counts) (u : ControlUnit) (sid : ℕ) (r : Option Request) → obey_in (beside k u) sid r ≡ beside_step k (obey_in u sid r)
obedient_beside k u sid None = refl
obedient_beside k u sid (Some r) = obey_beside k u r

pub changed_beside : (k : Counts) (u : ControlUnit) (c : Change) → changed c (beside k u) ≡ beside k (changed c u)
changed_beside k u change.Nothing = refl
changed_beside k u (change.Enter kind) = kind_beside k u kind (kind == 1)
changed_beside k u (change.Seeded seed) = refl
changed_beside k u change.Unlocked = refl
changed_beside k u (change.Erased at size) = refl
changed_beside k u (change.Checked ranges) = refl
changed_beside k u change.Passed = refl
changed_beside k u (change.Downloads at size) = refl
changed_beside k u (change.Uploads at size) = refl
changed_beside k u (change.Written body) = go u.transfer
  where
    go : (t : Option OpenTransfer) → written_in (beside k u) t body.now ≡ beside k (written_in u t body.now)
    go None = refl
    go (Some t) = refl
changed_beside k u (change.Given size) = refl
changed_beside k u change.Closed = refl
changed_beside k u (change.Setting off) = refl
changed_beside k u (change.Messages off) = refl
