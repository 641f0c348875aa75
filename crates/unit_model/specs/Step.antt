-- One step of a unit: obedient, or one of the departures.
use Rattle.std.specs.Prelude.{◌≡◌, ◌⊎◌, ℕ, ◌+◌, ◌≤◌, Bool, true, false, ◌&&◌, ◌||◌, ◌==◌, nat_lt, nat_le, not, List, [], ◌∷◌, ◌++◌, length, Option, Some, None, if◌then◌else◌, IsTrue, is_some}
use Rattle.flash_base.specs.ByteMaps.{byte_at, SameOutside}
use Rattle.flash_base.specs.Lists.{Each}
use Rattle.uds_codec.specs.declared.request.Request.{Request}
use Rattle.uds_codec.specs.declared.request.Request.TheVariants.{Session, Reset, ReadId, Seed, Key, Routine, Download, Upload, Transfer, Pull, Exit, Setting, Messages}
use Rattle.uds_codec.specs.Request.{Range, range_of, request_of, sid_of}
use Rattle.uds_codec.specs.Answer.{Verdict, Pending, Busy, Refusal, Accepted, BadStatus, Malformed, judge}
use Rattle.unit_model.specs.declared.reply.Due.TheVariants.{At, Held}
use Rattle.unit_model.specs.declared.reply.UnitReply.{UnitReply}
use Rattle.flash_base.specs.Counts.{one_more}
use Rattle.unit_model.specs.Unit.{ControlUnit, Counts, OpenTransfer, obedient, obey, heard_one, apart}

abbrev pub pending_bytes : ℕ → List ℕ
pending_bytes sid = 127 ∷ sid ∷ 120 ∷ []

abbrev pub reply_at : ℕ → List ℕ → UnitReply
reply_at due body = record { due = At due; body = body }

-- responses pending at these ticks, in order
abbrev pub pendings : ℕ → List ℕ → List UnitReply
pendings sid [] = []
pendings sid (t ∷ ts) = reply_at t (pending_bytes sid) ∷ pendings sid ts

abbrev pub ascends : ℕ → List ℕ → Bool
ascends from [] = true
ascends from (t ∷ ts) = nat_le from t && ascends t ts

-- some answer comes 1,000 ticks or more after what stood before it
abbrev pub is_late : ℕ → List ℕ → Bool
is_late from [] = false
is_late from (t ∷ ts) = nat_le (from + 1000) t || is_late t ts

abbrev pub is_stalled : List ℕ → Bool
is_stalled ticks = nat_lt 200 (length ticks)

abbrev pub raise_if : Bool → ℕ → ℕ
raise_if c n = if c then one_more n else n

-- what the ticks of responses pending and answer raise
abbrev pub timed : Bool → Bool → ControlUnit → ControlUnit
timed late stalled u = record u {
  counts =
      record u.counts { late = raise_if late u.counts.late; stalled = raise_if stalled u.counts.stalled };
}

-- a range that a departure may leave with any bytes, and whether it is an erase's
pub record Spoil : Type 0 where
  pub at : ℕ
  pub size : ℕ
  pub erase : Bool

-- an erase's, in any state of the unit and whatever its answer would have been; an option that is not in form has none
abbrev pub erase_range : Option Range → Option Spoil
erase_range None = None
erase_range (Some r) = if r.size == 0 || not (length r.more == 0) then None
    else Some (record { at = r.at; size = r.size; erase = true })

-- a block's, where the obedient step would have written it; one that is said again writes nothing
abbrev pub block_range : Option OpenTransfer → ℕ → ℕ → Option Spoil
block_range None counter n = None
block_range (Some t) counter n =
    if counter == t.counter then Some (record { at = t.at; size = n; erase = false }) else None

abbrev pub is_accepted : List ℕ → Bool
is_accepted [] = false
is_accepted (x ∷ xs) = not (x == 127)

abbrev pub spoil_of : ControlUnit → Request → Option Spoil
spoil_of u (Routine id option) = if id == 65280 then erase_range (range_of option) else None
spoil_of u (Transfer counter body) =
    if is_accepted (obey u (Transfer counter body)).1 then block_range u.transfer counter (length body)
    else None
spoil_of u (Session kind) = None
spoil_of u Reset = None
spoil_of u (ReadId did) = None
spoil_of u (Seed level) = None
spoil_of u (Key level key) = None
spoil_of u (Download width at size) = None
spoil_of u (Upload width at size) = None
spoil_of u (Pull counter) = None
spoil_of u Exit = None
spoil_of u (Setting off) = None
spoil_of u (Messages off) = None

abbrev pub spoil_in : ControlUnit → Option Request → Option Spoil
spoil_in u None = None
spoil_in u (Some r) = spoil_of u r

-- the range is spoiled: any bytes at those of its addresses that the unit has, and nothing else but what follows from it
pub record Spoiled (s : Spoil) (old new : ControlUnit) : Type 0 where
  pub memory : SameOutside s.at s.size old.memory new.memory
  pub domain : (a : ℕ) → is_some (byte_at new.memory a) ≡ is_some (byte_at old.memory a)
  pub rest : new ≡ record old {
    memory = new.memory;
    checked = apart s.at s.size old.checked;
    passed = false;
    transfer = if s.erase then None else old.transfer;
  }

-- what a departure leaves: the old state, or, of an erase or of a block that would have been written, its range spoiled
abbrev pub Leaves : ControlUnit → List ℕ → ControlUnit → Type 0
Leaves old bytes mid = (mid ≡ old)
    ⊎ ((s : Spoil) × (spoil_in old (request_of bytes) ≡ Some s) × Spoiled s old mid)

abbrev pub is_good : Verdict → Bool
is_good Pending = false
is_good Busy = false
is_good (Refusal nrc) = false
is_good (Accepted rest) = true
is_good (BadStatus status) = false
is_good Malformed = false

abbrev pub raise_code : ℕ → (ℕ → ℕ) → ℕ → ℕ
raise_code code counts c = if c == code then one_more (counts c) else counts c

-- the answer in place of the obedient one, and the count that it raises
pub data Departure : Type 0 where
  Refuses : ℕ → Departure
  Odd : List ℕ → Departure
  Fails : List ℕ → Departure
  Mutes : Departure
  Busies : Departure

abbrev pub raised : Departure → Counts → Counts
raised (Refuses nrc) c = record c { refused = raise_code nrc c.refused }
raised (Odd body) c = record c { odd = one_more c.odd }
raised (Fails body) c = record c { failed = one_more c.failed }
raised Mutes c = record c { muted = one_more c.muted }
raised Busies c = record c { busy = one_more c.busy }

-- when it is one: the obedient answer is another
abbrev pub IsDeparture : Departure → ControlUnit → List ℕ → Type 0
IsDeparture (Refuses nrc) u bytes = (nrc ≡ 33 → ⊥) × (nrc ≡ 120 → ⊥)
    × ((obedient u bytes).1 ≡ 127 ∷ sid_of bytes ∷ nrc ∷ [] → ⊥)
IsDeparture (Odd body) u bytes = (judge bytes body ≡ Malformed) × (1 ≤ length body) × (length body ≤ 65535)
IsDeparture (Fails body) u bytes = (status : ℕ) × (judge bytes body ≡ BadStatus status)
    × IsTrue (is_good (judge bytes (obedient u bytes).1)) × (length body ≤ 65535)
IsDeparture Mutes u bytes = Unit {0}
IsDeparture Busies u bytes = Unit {0}

abbrev pub said_by : Departure → ℕ → Option (List ℕ)
said_by (Refuses nrc) sid = Some (127 ∷ sid ∷ nrc ∷ [])
said_by (Odd body) sid = Some body
said_by (Fails body) sid = Some body
said_by Mutes sid = None
said_by Busies sid = Some (127 ∷ sid ∷ 33 ∷ [])

abbrev pub last_replies : Option (List ℕ) → ℕ → List UnitReply
last_replies None due = []
last_replies (Some body) due = reply_at due body ∷ []

abbrev pub last_tick : Option (List ℕ) → ℕ → List ℕ
last_tick None due = []
last_tick (Some body) due = due ∷ []

-- the obedient step, with its answer after any responses pending
pub record Obeys (old : ControlUnit) (bytes : List ℕ) (tick : ℕ) (replies : List UnitReply)
    (new : ControlUnit) : Type 0 where
  pub ticks : List ℕ
  pub due : ℕ
  pub ascending : IsTrue (ascends tick (ticks ++ (due ∷ [])))
  pub gives : replies ≡ pendings (sid_of bytes) ticks ++ (reply_at due (obedient old bytes).1 ∷ [])
  pub becomes : new ≡ heard_one (timed (is_late tick (ticks ++ (due ∷ []))) (is_stalled ticks)
      (obedient old bytes).0)

-- the obedient step, with its answer held
pub record Holds (old : ControlUnit) (bytes : List ℕ) (tick : ℕ) (replies : List UnitReply)
    (new : ControlUnit) : Type 0 where
  pub every : ℕ
  pub unit : ℕ
  pub sid : ℕ
  pub some : 1 ≤ every
  pub gives : replies ≡ record { due = Held every unit sid; body = (obedient old bytes).1 } ∷ []
  pub becomes : new ≡ heard_one (obedient old bytes).0

-- a departure
pub record Departs (old : ControlUnit) (bytes : List ℕ) (tick : ℕ) (replies : List UnitReply)
    (new : ControlUnit) : Type 0 where
  pub kind : Departure
  pub mid : ControlUnit
  pub ticks : List ℕ
  pub due : ℕ
  pub is : IsDeparture kind old bytes
  pub leaves : Leaves old bytes mid
  pub ascending : IsTrue (ascends tick (ticks ++ last_tick (said_by kind (sid_of bytes)) due))
  pub gives : replies ≡ pendings (sid_of bytes) ticks ++ last_replies (said_by kind (sid_of bytes)) due
  pub becomes : new ≡ heard_one (timed (is_late tick (ticks ++ last_tick (said_by kind (sid_of bytes)) due))
      (is_stalled ticks) (record mid { counts = raised kind mid.counts }))

-- each reply can be sent
pub record CanSend (body : List ℕ) : Type 0 where
  pub some : 1 ≤ length body
  pub few : length body ≤ 65535

pub record UnitStep (old : ControlUnit) (bytes : List ℕ) (tick : ℕ) (replies : List UnitReply)
    (new : ControlUnit) : Type 0 where
  pub how : Obeys old bytes tick replies new ⊎ Holds old bytes tick replies new
      ⊎ Departs old bytes tick replies new
  pub sizes : Each (λ r. CanSend r.body) replies
