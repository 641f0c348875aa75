-- What a unit's state is at each place of the script, and what one step of it may have been.
use Rattle.std.specs.Prelude.{◌≡◌, ◌⊎◌, ℕ, ◌+◌, ◌<◌, true, false, List, length, Option, Some, None, IsTrue, is_some}
use Rattle.flash_base.specs.ByteMaps.{byte_at}
use Rattle.flash_plan.specs.declared.unit.Segment.{Segment}
use Rattle.flash_plan.specs.declared.unit.UnitPlan.{UnitPlan}
use Rattle.uds_codec.specs.Key.{all_zero}
use Rattle.uds_codec.specs.Request.{sid_of}
use Rattle.unit_model.specs.Step.{Departure, IsDeparture, Leaves, said_by}
use Rattle.unit_model.specs.Unit.{ControlUnit, OpenTransfer, has_key, obedient}
use Rattle.run_model.specs.Places.{is_free}
use Rattle.run_model.specs.Script.{Cursor, Blocks, Place, AtIdent, AtBegin, AtProgram, AtSeed, AtKey, AtErase, AtDownload, AtBlock, AtExit, AtCheck, AtMark, AtFinish, AtReset, AtDone, AtEnd}
use Rattle.run_model.specs.Sound.{HoldsBytes, HasSegment}

-- the unit has the addresses of the segment
abbrev pub HasRoom : Segment → ControlUnit → Type 0
HasRoom s u = (k : ℕ) → k < length s.body → is_some (byte_at u.memory (s.at + k)) ≡ true

-- a transfer down is open with the script's next address, rest and counter, and the bytes before it are the image's
pub record HasTransfer (c : Cursor) (b : Blocks) (u : ControlUnit) : Type 0 where
  pub last : Option ℕ
  pub transfer : u.transfer ≡ Some
      (record {
        up = false;
        at = c.now.at + length b.sent;
        rest = length b.rest;
        counter = b.counter;
        last = last;
      })
  pub holds : HoldsBytes c.now.at b.sent u.memory
  pub room : HasRoom c.now u

-- a transfer down is open whose bytes have all come
pub record HasFilled (c : Cursor) (u : ControlUnit) : Type 0 where
  pub last : OpenTransfer
  pub transfer : u.transfer ≡ Some last
  pub down : last.up ≡ false
  pub at : last.at ≡ c.now.at + length c.now.body
  pub rest : last.rest ≡ 0
  pub holds : HoldsBytes c.now.at c.now.body u.memory

-- programming session (ISO 14229-1, service 0x10, kind 02)
abbrev pub Programs : ControlUnit → Type 0
Programs u = u.session ≡ 2

-- the key was answered, where one was due: a seed of zero bytes asks for none, and an unlocked unit gives zero bytes
abbrev pub Opened : UnitPlan → ControlUnit → Type 0
Opened plan u = Programs u × (has_key plan.key ≡ true → (u.unlocked ≡ true) ⊎ (all_zero u.seed ≡ true))

-- The unit's state agrees with the answers that led to the place. The segments finished before are marked, and that they are in
-- the unit is said of every marked one; a segment that stands to be marked is in it too.
abbrev pub StateAt : UnitPlan → Place → ControlUnit → Type 0
StateAt plan (AtIdent w ws) u = Unit {0}
StateAt plan AtBegin u = Unit {0}
StateAt plan AtProgram u = Unit {0}
StateAt plan (AtSeed level) u = Programs u
StateAt plan (AtKey level seed) u = Programs u × (u.last_seed ≡ Some seed)
StateAt plan (AtErase c) u = Opened plan u
StateAt plan (AtDownload c) u = Opened plan u
StateAt plan (AtBlock c b) u = Opened plan u × HasTransfer c b u
StateAt plan (AtExit c) u = Opened plan u × HasFilled c u
StateAt plan (AtCheck c) u = Opened plan u × HoldsBytes c.now.at c.now.body u.memory
StateAt plan (AtMark c) u = Opened plan u × HasSegment u c.now
StateAt plan AtFinish u = Opened plan u
StateAt plan AtReset u = Opened plan u × IsTrue u.passed
StateAt plan AtDone u = IsTrue u.passed
StateAt plan (AtEnd outcome) u = Unit {0}

-- a unit that is not there has answered nothing
abbrev pub StateIn : UnitPlan → Place → Option ControlUnit → Type 0
StateIn plan place None = IsTrue (is_free place)
StateIn plan place (Some u) = StateAt plan place u

pub record SameButCounts (old new : ControlUnit) : Type 0 where
  pub same : new ≡ record old { heard = new.heard; counts = new.counts }

-- the unit has made the obedient step, and its answer is that step's
pub record Obeyed (old : ControlUnit) (bytes : List ℕ) (said : Option (List ℕ))
    (new : ControlUnit) : Type 0 where
  pub said_is : said ≡ Some (obedient old bytes).1
  pub state : SameButCounts (obedient old bytes).0 new

-- the unit has departed from it, and its answer, if there is one, is the departure's
pub record Departed (old : ControlUnit) (bytes : List ℕ) (said : Option (List ℕ))
    (new : ControlUnit) : Type 0 where
  pub kind : Departure
  pub mid : ControlUnit
  pub is : IsDeparture kind old bytes
  pub leaves : Leaves old bytes mid
  pub said_is : said ≡ said_by kind (sid_of bytes)
  pub state : SameButCounts mid new
