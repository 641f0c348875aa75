-- A control unit, and the step of a unit that obeys (ISO 14229-1; the options of the routines are this project's own).
use Rattle.std.specs.Prelude.{ℕ, ◌+◌, ◌-◌, ◌^◌, min, Bool, true, false, ◌&&◌, ◌||◌, ◌==◌, nat_lt, not, List, [], ◌∷◌, ◌++◌, length, replicate, filter, Option, Some, None, is_some, if◌then◌else◌}
use Rattle.sha2.specs.Sha256.{sha256}
use Rattle.flash_base.specs.Numbers.{big_endian}
use Rattle.flash_base.specs.ByteMaps.{MemoryMap, fill, put, has_each, bytes_of}
use Rattle.flash_base.specs.Lists.{same_bytes}
use Rattle.flash_base.specs.declared.unit.KeyRule.{KeyRule}
use Rattle.flash_base.specs.declared.unit.KeyRule.TheVariants.{Free, Xor, Digest}
use Rattle.uds_codec.specs.declared.request.Request.{Request}
use Rattle.uds_codec.specs.declared.request.Request.TheVariants.{Session, Reset, ReadId, Seed, Key, Routine, Download, Upload, Transfer, Pull, Exit, Setting, Messages}
use Rattle.uds_codec.specs.Request.{Range, range_of, request_of, is_service, sid_of, setting_code, messages_code}
use Rattle.uds_codec.specs.Key.{key_of}
use Rattle.flash_base.specs.Counts.{one_more}

-- a transfer in hand, down into the unit or up out of it: the next address, how many bytes are left, the next counter, and the
-- length of the last block, if there was one; its bytes end at the next address
pub record OpenTransfer : Type 0 where
  pub up : Bool
  pub at : ℕ
  pub rest : ℕ
  pub counter : ℕ
  pub last : Option ℕ

-- how often the unit has departed from the obedient step; refused and nacked by code
pub record Counts : Type 0 where
  pub refused : ℕ → ℕ
  pub odd : ℕ
  pub failed : ℕ
  pub muted : ℕ
  pub late : ℕ
  pub stalled : ℕ
  pub busy : ℕ
  pub nacked : ℕ → ℕ

-- session: 1 default, 2 programming, 3 extended. memory: the regions, with a byte at each address. checked: the ranges
-- (address, size) that a check routine found equal. passed: the final check found that all is well. heard: how many
-- requests. dtc_off: the setting of trouble codes is off. messages_off: normal messages are off. woken: how often either was
-- turned on, or the default session entered. idents: identifiers with their values. block: the longest whole TransferData
-- request. check: the check routine.
pub record ControlUnit : Type 0 where
  pub address : ℕ
  pub session : ℕ
  pub unlocked : Bool
  pub seed : List ℕ
  pub last_seed : Option (List ℕ)
  pub memory : MemoryMap
  pub transfer : Option OpenTransfer
  pub checked : List (ℕ × ℕ)
  pub passed : Bool
  pub heard : ℕ
  pub dtc_off : Bool
  pub messages_off : Bool
  pub woken : ℕ
  pub idents : List (ℕ × List ℕ)
  pub key : KeyRule
  pub block : ℕ
  pub check : ℕ
  pub counts : Counts

abbrev pub meets : ℕ → ℕ → ℕ × ℕ → Bool
meets at size r = nat_lt r.0 (at + size) && nat_lt at (r.0 + r.1)

abbrev pub apart : ℕ → ℕ → List (ℕ × ℕ) → List (ℕ × ℕ)
apart at size checked = filter (λ r. not (meets at size r)) checked

abbrev pub heard_one : ControlUnit → ControlUnit
heard_one u = record u { heard = one_more u.heard }

abbrev pub answer : ControlUnit → List ℕ → ControlUnit × List ℕ
answer u reply = (u, reply)

abbrev pub refuse : ControlUnit → ℕ → ℕ → ControlUnit × List ℕ
refuse u sid nrc = (u, 127 ∷ sid ∷ nrc ∷ [])

abbrev pub in_session : ControlUnit → ℕ → ControlUnit
in_session u kind = record u { session = kind; unlocked = false; transfer = None }

-- entering the default session turns both on
abbrev pub in_default : ControlUnit → ControlUnit
in_default u = record (in_session u 1) { dtc_off = false; messages_off = false; woken = one_more u.woken }

abbrev pub in_kind : ControlUnit → ℕ → ControlUnit
in_kind u kind = if kind == 1 then in_default u else in_session u kind

abbrev pub ident_of : List (ℕ × List ℕ) → ℕ → Option (List ℕ)
ident_of [] did = None
ident_of (i ∷ is) did = if i.0 == did then Some i.1 else ident_of is did

abbrev pub read_in : ControlUnit → ℕ → Option (List ℕ) → ControlUnit × List ℕ
read_in u did None = refuse u 34 49
read_in u did (Some value) = answer u (98 ∷ (big_endian 2 did ++ value))

abbrev pub has_level : KeyRule → ℕ → Bool
has_level Free level = false
has_level (Xor l mask) level = l == level
has_level (Digest l size secret) level = l == level

abbrev pub has_key : KeyRule → Bool
has_key Free = false
has_key (Xor l mask) = true
has_key (Digest l size secret) = true

abbrev pub seed_given : ControlUnit → List ℕ
seed_given u = if u.unlocked then replicate (length u.seed) 0 else u.seed

abbrev pub give_seed : ControlUnit → ℕ → ControlUnit × List ℕ
give_seed u level = answer (record u { last_seed = Some (seed_given u) }) (103 ∷ level ∷ seed_given u)

abbrev pub key_in : ControlUnit → ℕ → List ℕ → Option (List ℕ) → ControlUnit × List ℕ
key_in u level key None = refuse u 39 36
key_in u level key (Some seed) =
    if same_bytes key (key_of u.key seed) then answer (record u { unlocked = true }) (103 ∷ (level + 1) ∷ [])
    else refuse u 39 53

abbrev pub is_locked : ControlUnit → Bool
is_locked u = has_key u.key && not u.unlocked

abbrev pub erased : ControlUnit → ℕ → ℕ → ControlUnit
erased u at size = record u {
  memory = fill at size 255 u.memory;
  checked = apart at size u.checked;
  passed = false;
  transfer = None;
}

abbrev pub erase_in : ControlUnit → Option Range → ControlUnit × List ℕ
erase_in u None = refuse u 49 19
erase_in u (Some r) =
    if r.size == 0 || not (length r.more == 0) then refuse u 49 19
    else if not (has_each r.at r.size u.memory) then refuse u 49 49
    else answer (erased u r.at r.size) (113 ∷ 1 ∷ 255 ∷ 0 ∷ 0 ∷ [])

abbrev pub check_in : ControlUnit → ℕ → Option Range → ControlUnit × List ℕ
check_in u id None = refuse u 49 19
check_in u id (Some r) =
    if r.size == 0 || not (length r.more == 32) then refuse u 49 19
    else if not (has_each r.at r.size u.memory) then refuse u 49 49
    else if same_bytes r.more (sha256 (bytes_of r.at r.size u.memory)) then
    answer (record u { checked = (r.at, r.size) ∷ u.checked }) (113 ∷ 1 ∷ (big_endian 2 id ++ (0 ∷ [])))
    else answer u (113 ∷ 1 ∷ (big_endian 2 id ++ (1 ∷ [])))

abbrev pub finish_in : ControlUnit → List (ℕ × ℕ) → ControlUnit × List ℕ
finish_in u [] = answer u (113 ∷ 1 ∷ 255 ∷ 1 ∷ 1 ∷ [])
finish_in u (r ∷ rs) = answer (record u { passed = true }) (113 ∷ 1 ∷ 255 ∷ 1 ∷ 0 ∷ [])

abbrev pub routine : ControlUnit → ℕ → List ℕ → ControlUnit × List ℕ
routine u id option =
    if id == 65280 then (if is_locked u then refuse u 49 51 else erase_in u (range_of option))
    else if is_locked u then refuse u 49 51
    else if id == 65281 then finish_in u u.checked
    else if id == u.check then check_in u id (range_of option)
    else refuse u 49 49

-- a block number has four bytes; a unit has none above
abbrev pub block_number : ControlUnit → ℕ
block_number u = min u.block (2 ^ 32 - 1)

-- in the fewest bytes, one at least
abbrev pub block_bytes : ℕ → List ℕ
block_bytes n =
    if nat_lt n 256 then 16 ∷ big_endian 1 n
    else if nat_lt n 65536 then 32 ∷ big_endian 2 n
    else if nat_lt n 16777216 then 48 ∷ big_endian 3 n
    else 64 ∷ big_endian 4 n

abbrev pub opened : Bool → ℕ → ℕ → OpenTransfer
opened up at size = record { up = up; at = at; rest = size; counter = 1; last = None }

abbrev pub downloading : ControlUnit → ℕ → ℕ → ControlUnit
downloading u at size = record u {
  transfer = Some (opened false at size);
  checked = apart at size u.checked;
  passed = false;
}

abbrev pub download : ControlUnit → ℕ → ℕ → ControlUnit × List ℕ
download u at size =
    if is_locked u then refuse u 52 51
    else if not (has_each at size u.memory) then refuse u 52 49
    else answer (downloading u at size) (116 ∷ block_bytes (block_number u))

abbrev pub upload : ControlUnit → ℕ → ℕ → ControlUnit × List ℕ
upload u at size =
    if is_locked u then refuse u 53 51
    else if not (has_each at size u.memory) then refuse u 53 49
    else answer (record u { transfer = Some (opened true at size) }) (117 ∷ block_bytes (block_number u))

abbrev pub next_counter : ℕ → ℕ
next_counter counter = if counter == 255 then 0 else counter + 1

-- behind a block of so many bytes
abbrev pub behind : OpenTransfer → ℕ → OpenTransfer
behind t n = record {
  up = t.up;
  at = t.at + n;
  rest = t.rest - n;
  counter = next_counter t.counter;
  last = Some n;
}

-- the counter is that of the last block
abbrev pub is_repeat : OpenTransfer → ℕ → Bool
is_repeat t counter = is_some t.last && next_counter counter == t.counter

abbrev pub written : ControlUnit → OpenTransfer → List ℕ → ControlUnit
written u t body = record u { memory = put t.at body u.memory; transfer = Some (behind t (length body)) }

abbrev pub receive : ControlUnit → OpenTransfer → ℕ → List ℕ → ControlUnit × List ℕ
receive u t counter body =
    if t.up then refuse u 54 19
    else if is_repeat t counter then answer u (118 ∷ counter ∷ [])
    else if not (counter == t.counter) then refuse u 54 115
    else if nat_lt (block_number u) (length body + 2) then refuse u 54 19
    else if nat_lt t.rest (length body) then refuse u 54 113
    else answer (written u t body) (118 ∷ counter ∷ [])

abbrev pub receive_in : ControlUnit → Option OpenTransfer → ℕ → List ℕ → ControlUnit × List ℕ
receive_in u None counter body = refuse u 54 36
receive_in u (Some t) counter body = receive u t counter body

-- how many bytes the next block up has: what is left, as far as an answer and the block number have room
abbrev pub block_up : ControlUnit → OpenTransfer → ℕ
block_up u t = min t.rest (min 65533 (block_number u - 2))

abbrev pub block_at : ControlUnit → ℕ → ℕ → List ℕ
block_at u at n = bytes_of at n u.memory

abbrev pub last_block : ControlUnit → OpenTransfer → Option ℕ → List ℕ
last_block u t None = []
last_block u t (Some n) = block_at u (t.at - n) n

abbrev pub give : ControlUnit → OpenTransfer → ℕ → ControlUnit × List ℕ
give u t counter =
    if not t.up then refuse u 54 19
    else if is_repeat t counter then answer u (118 ∷ counter ∷ last_block u t t.last)
    else if t.rest == 0 then refuse u 54 36
    else if not (counter == t.counter) then refuse u 54 115
    else answer (record u { transfer = Some (behind t (block_up u t)) })
    (118 ∷ counter ∷ block_at u t.at (block_up u t))

abbrev pub give_in : ControlUnit → Option OpenTransfer → ℕ → ControlUnit × List ℕ
give_in u None counter = refuse u 54 36
give_in u (Some t) counter = give u t counter

abbrev pub exit_in : ControlUnit → Option OpenTransfer → ControlUnit × List ℕ
exit_in u None = refuse u 55 36
exit_in u (Some t) = if t.rest == 0 then answer (record u { transfer = None }) (119 ∷ []) else refuse u 55 36

abbrev pub programming : ControlUnit → ℕ → ControlUnit × List ℕ → ControlUnit × List ℕ
programming u sid step = if u.session == 2 then step else refuse u sid 127

abbrev pub extended : ControlUnit → ℕ → ControlUnit × List ℕ → ControlUnit × List ℕ
extended u sid step = if u.session == 1 then refuse u sid 127 else step

-- turned off, or on again
abbrev pub woken_by : Bool → ControlUnit → ℕ
woken_by off u = if off then u.woken else one_more u.woken

abbrev pub set_dtc : ControlUnit → Bool → ControlUnit
set_dtc u off = record u { dtc_off = off; woken = woken_by off u }

abbrev pub set_messages : ControlUnit → Bool → ControlUnit
set_messages u off = record u { messages_off = off; woken = woken_by off u }

-- the state and the answer of a request that is in the form
abbrev pub obey : ControlUnit → Request → ControlUnit × List ℕ
obey u (Session kind) = answer (in_kind u kind) (80 ∷ kind ∷ 0 ∷ 50 ∷ 1 ∷ 244 ∷ [])
obey u Reset = answer (in_default u) (81 ∷ 1 ∷ [])
obey u (ReadId did) = read_in u did (ident_of u.idents did)
obey u (Seed level) = programming u 39 (if has_level u.key level then give_seed u level else refuse u 39 18)
obey u (Key level key) =
    programming u 39 (if has_level u.key level then key_in u level key u.last_seed else refuse u 39 18)
obey u (Routine id option) = programming u 49 (routine u id option)
obey u (Download width at size) = programming u 52 (download u at size)
obey u (Upload width at size) = programming u 53 (upload u at size)
obey u (Transfer counter body) = programming u 54 (receive_in u u.transfer counter body)
obey u (Pull counter) = programming u 54 (give_in u u.transfer counter)
obey u Exit = programming u 55 (exit_in u u.transfer)
obey u (Setting off) = extended u 133 (answer (set_dtc u off) (197 ∷ setting_code off ∷ []))
obey u (Messages off) = extended u 40 (answer (set_messages u off) (104 ∷ messages_code off ∷ []))

abbrev pub obey_in : ControlUnit → ℕ → Option Request → ControlUnit × List ℕ
obey_in u sid None = refuse u sid (if is_service sid then 19 else 17)
obey_in u sid (Some r) = obey u r

-- of any bytes, without the count of what was heard
abbrev pub obedient : ControlUnit → List ℕ → ControlUnit × List ℕ
obedient u bytes = obey_in u (sid_of bytes) (request_of bytes)
