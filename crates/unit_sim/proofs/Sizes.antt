-- Each answer of an obedient unit can be sent.
use Rattle.std.proofs.Common.{◌≡◌, ℕ, zero, suc, ◌+◌, ◌-◌, ◌/◌, ◌%◌, ◌≤◌, Bool, true, false, List, [], ◌∷◌, ◌++◌, length, Some, None, Option, refl, sym, ◌∙◌, ap, subst, arith, length-append}
use Rattle.std.specs.Prelude.{◌==◌, ◌||◌, ◌&&◌, not, nat_lt, nat_le, if◌then◌else◌, replicate}
use Rattle.std.proofs.lemmas.Bool.{and_parts, leb-true}
use Rattle.std.proofs.lemmas.List.{length-replicate}
use Rattle.sha2.specs.Sha256.{sha256}
use Rattle.flash_base.specs.Numbers.{big_endian}
use Rattle.flash_base.specs.ByteMaps.{MemoryMap, has_each, bytes_of}
use Rattle.flash_base.specs.Lists.{same_bytes}
use Rattle.uds_codec.specs.Key.{key_of}
use Rattle.uds_codec.specs.declared.request.Request.{Request}
use Rattle.uds_codec.specs.declared.request.Request.TheVariants.{Session, Reset, ReadId, Seed, Key, Routine, Download, Upload, Transfer, Pull, Exit, Setting, Messages}
use Rattle.uds_codec.specs.Request.{Range, range_of, request_of, sid_of, is_service, setting_code, messages_code}
use Rattle.unit_model.specs.declared.unit.Transfer.{Transfer as Running}
use Rattle.unit_model.specs.Rules.{last_in, transfer_in}
use Rattle.unit_model.specs.Running.{open_of}
use Rattle.unit_model.specs.Unit.{ControlUnit, OpenTransfer, obey, obey_in, obedient, read_in, key_in, has_level, erase_in, check_in, finish_in, receive_in, give_in, exit_in, routine, programming, is_locked, refuse, give_seed, ident_of, seed_given, block_bytes, block_number, block_up, last_block, is_repeat}
use Rattle.unit_model.specs.Idents.{all_short}
use Rattle.unit_model.specs.Step.{CanSend}

-- a step whose answer can be sent
record IsSent (step : ControlUnit × List ℕ) : Type 0 where
  pub can : CanSend step.1

either : (c : Bool) (a b : ControlUnit × List ℕ) → IsSent a → IsSent b → IsSent (if c then a else b)
either true a b ya yb = ya
either false a b ya yb = yb

short : (w : ControlUnit) (xs : List ℕ) → 1 ≤ length xs → length xs ≤ 65535 → IsSent (w, xs)
short w xs some few = record { can = record { some = some; few = few } }

refused : (u : ControlUnit) (sid nrc : ℕ) → IsSent (refuse u sid nrc)
refused u sid nrc = short u (127 ∷ sid ∷ nrc ∷ []) (omega arith) (omega arith)

two : (w : ControlUnit) (a b : ℕ) → IsSent (w, a ∷ b ∷ [])
two w a b = short w (a ∷ b ∷ []) (omega arith) (omega arith)

few_more : (w : ControlUnit) (a : ℕ) (xs : List ℕ) → length xs ≤ 8 → IsSent (w, a ∷ xs)
few_more w a xs le = short w (a ∷ xs) (omega arith) (omega (arith, le))

big_size : (n x : ℕ) → length (big_endian n x) ≡ n
big_size zero x = refl
big_size (suc n) x = length-append (big_endian n (x / 256)) (x % 256 ∷ []) ∙ ap (λ (k : ℕ). k + 1) (big_size n (x / 256)) ∙ omega arith

abbrev value_in : Option (List ℕ) → List ℕ
value_in None = []
value_in (Some v) = v

ident_short : (is : List (ℕ × List ℕ)) (did : ℕ) (value : List ℕ) → all_short is ≡ true → ident_of is did ≡ Some value → length value ≤ 4096
ident_short [] did value all there = cc
ident_short (i ∷ is) did value all there = go (ident_short is did value (and_parts _ _ all).1) (i.0 == did) there
  where
    go : (ident_of is did ≡ Some value → length value ≤ 4096) → (c : Bool) → (if c then Some i.1 else ident_of is did) ≡ Some value → length value ≤ 4096
    go again true found = subst (λ (o : Option (List ℕ)). length (value_in o) ≤ 4096) found (leb-true _ _ (and_parts _ _ all).0)
    go again false further = again further

read_sent : (u : ControlUnit) (did : ℕ) (value : Option (List ℕ)) → ((v : List ℕ) → value ≡ Some v → length v ≤ 4096) → IsSent (read_in u did value)
read_sent u did None le = refused u 34 49
read_sent u did (Some v) le = short u (98 ∷ (big_endian 2 did ++ v)) (omega arith) (omega (arith, length-append (big_endian 2 did) v, big_size 2 did, le v refl))

seed_size : (u : ControlUnit) (c : Bool) → length (if c then replicate (length u.seed) 0 else u.seed) ≡ length u.seed
seed_size u true = length-replicate {A = ℕ} (length u.seed) 0
seed_size u false = refl

seed_sent : (u : ControlUnit) (level : ℕ) → length u.seed ≤ 64 → IsSent (give_seed u level)
seed_sent u level le = short _ (103 ∷ level ∷ seed_given u) (omega arith) (omega (arith, seed_size u u.unlocked, le))

key_sent : (u : ControlUnit) (level : ℕ) (key : List ℕ) (seed : Option (List ℕ)) → IsSent (key_in u level key seed)
key_sent u level key None = refused u 39 36
key_sent u level key (Some seed) = either (same_bytes key (key_of u.key seed)) _ _ (two _ 103 (level + 1)) (refused u 39 53)

erase_sent : (u : ControlUnit) (range : Option Range) → IsSent (erase_in u range)
erase_sent u None = refused u 49 19
erase_sent u (Some r) = either (r.size == 0 || not (length r.more == 0)) _ _ (refused u 49 19) (either (not (has_each r.at r.size u.memory)) _ _ (refused u 49 49) (few_more _ 113 (1 ∷ 255 ∷ 0 ∷ 0 ∷ []) (omega arith)))

check_sent : (u : ControlUnit) (id : ℕ) (range : Option Range) → IsSent (check_in u id range)
check_sent u id None = refused u 49 19
check_sent u id (Some r) = either (r.size == 0 || not (length r.more == 32)) _ _ (refused u 49 19) (either (not (has_each r.at r.size u.memory)) _ _ (refused u 49 49) (either (same_bytes r.more (sha256 (bytes_of r.at r.size u.memory))) _ _ (said _ 0) (said _ 1)))
  where
    said : (w : ControlUnit) (x : ℕ) → IsSent (w, 113 ∷ 1 ∷ (big_endian 2 id ++ (x ∷ [])))
    said w x = short w (113 ∷ 1 ∷ (big_endian 2 id ++ (x ∷ []))) (omega arith) (omega (arith, length-append (big_endian 2 id) (x ∷ []), big_size 2 id))

finish_sent : (u : ControlUnit) (checked : List (ℕ × ℕ)) → IsSent (finish_in u checked)
finish_sent u [] = few_more _ 113 (1 ∷ 255 ∷ 1 ∷ 1 ∷ []) (omega arith)
finish_sent u (r ∷ rs) = few_more _ 113 (1 ∷ 255 ∷ 1 ∷ 0 ∷ []) (omega arith)

routine_sent : (u : ControlUnit) (id : ℕ) (option : List ℕ) → IsSent (routine u id option)
routine_sent u id option =
    either (id == 65280) _ _ (either (is_locked u) _ _ (refused u 49 51) (erase_sent u (range_of option)))
    (either (is_locked u) _ _ (refused u 49 51)
    (either (id == 65281) _ _ (finish_sent u u.checked)
    (either (id == u.check) _ _ (check_sent u id (range_of option)) (refused u 49 49))))

block_size : (n : ℕ) (a b c : Bool) → length (if a then 16 ∷ big_endian 1 n else if b then 32 ∷ big_endian 2 n else if c then 48 ∷ big_endian 3 n else 64 ∷ big_endian 4 n) ≤ 5
block_size n true b c = omega (arith, big_size 1 n)
block_size n false true c = omega (arith, big_size 2 n)
block_size n false false true = omega (arith, big_size 3 n)
block_size n false false false = omega (arith, big_size 4 n)

block_sent : (w : ControlUnit) (first n : ℕ) → IsSent (w, first ∷ block_bytes n)
block_sent w first n = few_more w first (block_bytes n) (omega (arith, block_size n (nat_lt n 256) (nat_lt n 65536) (nat_lt n 16777216)))

receive_sent : (u : ControlUnit) (transfer : Option OpenTransfer) (counter : ℕ) (body : List ℕ) → IsSent (receive_in u transfer counter body)
receive_sent u None counter body = refused u 54 36
receive_sent u (Some t) counter body =
    either t.up _ _ (refused u 54 19)
    (either (is_repeat t counter) _ _ (two _ 118 counter)
    (either (not (counter == t.counter)) _ _ (refused u 54 115)
    (either (nat_lt (block_number u) (length body + 2)) _ _ (refused u 54 19)
    (either (nat_lt t.rest (length body)) _ _ (refused u 54 113) (two _ 118 counter)))))

bytes_size : (at n : ℕ) (m : MemoryMap) → length (bytes_of at n m) ≡ n
bytes_size at zero m = refl
bytes_size at (suc n) m = omega (arith, bytes_size (at + 1) n m)

-- the last block was none too long
record IsShortLast (last : Option ℕ) : Type 0 where
  pub few : (n : ℕ) → last ≡ Some n → n ≤ 65533

given_sent : (u w : ControlUnit) (counter at n : ℕ) → n ≤ 65533 → IsSent (w, 118 ∷ counter ∷ bytes_of at n u.memory)
given_sent u w counter at n le = short w (118 ∷ counter ∷ bytes_of at n u.memory) (omega arith) (omega (arith, bytes_size at n u.memory, le))

again_sent : (u : ControlUnit) (t : OpenTransfer) (counter : ℕ) (last : Option ℕ) → IsShortLast last → IsSent (u, 118 ∷ counter ∷ last_block u t last)
again_sent u t counter None is = two u 118 counter
again_sent u t counter (Some n) is = given_sent u u counter _ n (is.few n refl)

abbrev AreShort : Option OpenTransfer → Type 0
AreShort None = Unit {0}
AreShort (Some t) = IsShortLast t.last

give_sent : (u : ControlUnit) (transfer : Option OpenTransfer) (counter : ℕ) → AreShort transfer → IsSent (give_in u transfer counter)
give_sent u None counter is = refused u 54 36
give_sent u (Some t) counter is =
    either (not t.up) _ _ (refused u 54 19)
    (either (is_repeat t counter) _ _ (again_sent u t counter t.last is)
    (either (t.rest == 0) _ _ (refused u 54 36)
    (either (not (counter == t.counter)) _ _ (refused u 54 115) (given_sent u _ counter t.at (block_up u t) (omega arith)))))

exit_sent : (u : ControlUnit) (transfer : Option OpenTransfer) → IsSent (exit_in u transfer)
exit_sent u None = refused u 55 36
exit_sent u (Some t) = either (t.rest == 0) _ _ (short _ (119 ∷ []) (omega arith) (omega arith)) (refused u 55 36)

in_programming : (u : ControlUnit) (sid : ℕ) (step : ControlUnit × List ℕ) → IsSent step → IsSent (programming u sid step)
in_programming u sid step is = either (u.session == 2) step (refuse u sid 127) is (refused u sid 127)

obey_sent : (u : ControlUnit) → all_short u.idents ≡ true → length u.seed ≤ 64 → AreShort u.transfer → (r : Request) → IsSent (obey u r)
obey_sent u idents seed hand (Session kind) = few_more _ 80 (kind ∷ 0 ∷ 50 ∷ 1 ∷ 244 ∷ []) (omega arith)
obey_sent u idents seed hand Reset = two _ 81 1
obey_sent u idents seed hand (ReadId did) = read_sent u did (ident_of u.idents did) (λ v. ident_short u.idents did v idents)
obey_sent u idents seed hand (Seed level) = in_programming u 39 _ (either (has_level u.key level) _ _ (seed_sent u level seed) (refused u 39 18))
obey_sent u idents seed hand (Key level key) = in_programming u 39 _ (either (has_level u.key level) _ _ (key_sent u level key u.last_seed) (refused u 39 18))
obey_sent u idents seed hand (Routine id option) = in_programming u 49 _ (routine_sent u id option)
obey_sent u idents seed hand (Download width at size) = in_programming u 52 _ (either (is_locked u) _ _ (refused u 52 51) (either (not (has_each at size u.memory)) _ _ (refused u 52 49) (block_sent _ 116 (block_number u))))
obey_sent u idents seed hand (Upload width at size) = in_programming u 53 _ (either (is_locked u) _ _ (refused u 53 51) (either (not (has_each at size u.memory)) _ _ (refused u 53 49) (block_sent _ 117 (block_number u))))
obey_sent u idents seed hand (Transfer counter body) = in_programming u 54 _ (receive_sent u u.transfer counter body)
obey_sent u idents seed hand (Pull counter) = in_programming u 54 _ (give_sent u u.transfer counter hand)
obey_sent u idents seed hand Exit = in_programming u 55 _ (exit_sent u u.transfer)
obey_sent u idents seed hand (Setting off) = either (u.session == 1) _ _ (refused u 133 127) (two _ 197 (setting_code off))
obey_sent u idents seed hand (Messages off) = either (u.session == 1) _ _ (refused u 40 127) (two _ 104 (messages_code off))

obedient_sent : (u : ControlUnit) → all_short u.idents ≡ true → length u.seed ≤ 64 → AreShort u.transfer → (sid : ℕ) (r : Option Request) → IsSent (obey_in u sid r)
obedient_sent u idents seed hand sid None = refused u sid (if is_service sid then 19 else 17)
obedient_sent u idents seed hand sid (Some r) = obey_sent u idents seed hand r

some_is : (a b : ℕ) → Some a ≡ Some b → a ≡ b
some_is a b e = cc

last_short : (m : MemoryMap) (at : ℕ) (last : Option ℕ) → last_in m at last ≡ true → IsShortLast last
last_short m at None ok = record { few = λ n e. absurd (cc) }
last_short m at (Some k) ok =
    let few : k ≤ 65533 = leb-true _ _ (and_parts (nat_le k 65533) (nat_le k at && has_each (at - k) k m) ok).0 in
    record { few = λ n e. omega (arith, some_is k n e) }

open_short : (m : MemoryMap) (t : Option Running) → transfer_in m t ≡ true → AreShort (open_of t)
open_short m None is = tt
open_short m (Some t) is = last_short m t.at t.last (and_parts _ _ (and_parts _ _ is).1).1

-- of a unit with these identifiers, this seed and this transfer in hand
pub can_send : (u : ControlUnit) (m : MemoryMap) (t : Option Running) (bytes : List ℕ) → all_short u.idents ≡ true → length u.seed ≤ 64 → u.transfer ≡ open_of t → transfer_in m t ≡ true → CanSend (obedient u bytes).1
can_send u m t bytes idents seed same hand = (obedient_sent u idents seed (subst AreShort (sym same) (open_short m t hand)) (sid_of bytes) (request_of bytes)).can
