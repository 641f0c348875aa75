-- What the gateway's counts say of the link, and what the calls that failed do: kept by each event.
use Rattle.std.specs.Prelude.{◌≡◌, ◌⊎◌, ℕ, ◌+◌, ◌≤◌, Bool, true, false, not, List, [], ◌∷◌, ◌++◌, is_some, if◌then◌else◌}
use Rattle.doip_frame.specs.Frame.{stream_of}
use Rattle.doip_frame.specs.declared.frame.Frame.{Frame}
use Rattle.doip_frame.specs.declared.frame.Frame.TheVariants.{HeaderNack, Activate, Activated, AliveAsk, AliveSay, Message, Ack, Nack, Other}
use Rattle.flash_base.specs.Lists.{Each, same_bytes}
use Rattle.unit_model.specs.Vehicle.{Gateway, Vehicle}
use Rattle.run_model.specs.Link.{Link, Phase, is_live, is_asked}
use Rattle.run_model.specs.Link as phase
use Rattle.bay_core.specs.LinkLaws.{first_code}
use Rattle.bay_core.specs.declared.event.Event.{Event}
use Rattle.bay_core.specs.declared.event.Event.TheVariants.{Claimed, Began, Sent, Collected, Tended, Marked, Completed, DiskFailed, Ended}
use Rattle.bay_core.specs.declared.event.Heard.{Heard}
use Rattle.bay_core.specs.declared.event.Heard.TheVariants.{Kept, Quiet, Piece, Lost}
use Rattle.bay_core.specs.declared.event.Tend.{Tend}
use Rattle.bay_core.specs.declared.event.Tend.TheVariants.{Dialed, Asked, Said, Polled}
use Rattle.outcome_law.specs.Rising.{RoseBy, Rose, Grows}

-- ------ faults of the link
-- the bytes of a receive are not the next ones due: they were garbled on the way
abbrev pub is_garbled : List ℕ → Vehicle → Vehicle → Bool
is_garbled piece old new = not (same_bytes old.gateway.ready (piece ++ new.gateway.ready))

abbrev pub is_heard_fault : Heard → Vehicle → Vehicle → Bool
is_heard_fault Kept old new = false
is_heard_fault Quiet old new = false
is_heard_fault (Piece bytes) old new = is_garbled bytes old new
is_heard_fault Lost old new = true

abbrev pub is_tend_fault : Tend → Vehicle → Vehicle → Bool
is_tend_fault (Dialed lost) old new = lost
is_tend_fault (Asked lost) old new = lost
is_tend_fault (Said lost) old new = lost
is_tend_fault (Polled heard) old new = is_heard_fault heard old new

-- the call of the event failed, or its bytes were garbled
abbrev pub is_fault : Event → Vehicle → Vehicle → Bool
is_fault (Claimed u) old new = false
is_fault (Began u) old new = false
is_fault (Sent u place lost) old new = lost
is_fault (Collected u heard) old new = is_heard_fault heard old new
is_fault (Tended step) old new = is_tend_fault step old new
is_fault (Marked u s) old new = false
is_fault (Completed u) old new = false
is_fault (DiskFailed u entry) old new = false
is_fault (Ended u outcome) old new = false

abbrev pub fault_of : Bool → ℕ
fault_of fault = if fault then 1 else 0

-- how many there were
abbrev pub faults_of : List Event → Vehicle → List Vehicle → ℕ
faults_of [] v vehicles = 0
faults_of (e ∷ es) v [] = 0
faults_of (e ∷ es) v (w ∷ vehicles) = fault_of (is_fault e v w) + faults_of es w vehicles

-- ------ losses
-- so many losses are covered by faults of the link and activations that were not answered in time
abbrev pub IsLostBy : ℕ → ℕ → Vehicle → Vehicle → Type 0
IsLostBy losses faults first now = (k : ℕ) × (losses ≤ faults + k)
    × RoseBy k first.gateway.silent now.gateway.silent

-- an answer to the activation is among these
abbrev pub has_answer : List Frame → Bool
has_answer fs = is_some (first_code fs)

-- while the activation is awaited, its answer is on the way, or it is one more that is not answered in time
pub record AreLossesCounted (l : Link) (faults : ℕ) (first now : Vehicle) : Type 0 where
  pub silent : ℕ
  pub losses : l.losses ≤ faults + silent
  pub count : RoseBy silent first.gateway.silent now.gateway.silent
  pub awaits : is_asked l.phase ≡ true → (has_answer (stream_of (l.rest ++ now.gateway.ready)).frames ≡ true)
      ⊎ RoseBy (silent + 1) first.gateway.silent now.gateway.silent

-- ------ denials
-- a denial was counted; the gateway refuses no header of the tester
abbrev pub IsFairFrame : (ℕ → ℕ) → (ℕ → ℕ) → Frame → Type 0
IsFairFrame old new (HeaderNack code) = ⊥
IsFairFrame old new (Activated t entity code oem) = (code ≡ 16) ⊎ Rose (old code) (new code)
IsFairFrame old new (Activate source kind oem) = Unit {0}
IsFairFrame old new AliveAsk = Unit {0}
IsFairFrame old new (AliveSay source) = Unit {0}
IsFairFrame old new (Message s t body) = Unit {0}
IsFairFrame old new (Ack s t code before) = Unit {0}
IsFairFrame old new (Nack s t code before) = Unit {0}
IsFairFrame old new (Other kind payload) = Unit {0}

pub record AreFair (old new : ℕ → ℕ) (l : Link) (g : Gateway) : Type 0 where
  pub ready : Each (IsFairFrame old new) (stream_of (l.got ++ g.ready)).frames
  pub later : Each (λ q. Each (IsFairFrame old new) (stream_of q.1).frames) g.later

abbrev pub IsPhaseCounted : (ℕ → ℕ) → (ℕ → ℕ) → Phase → Type 0
IsPhaseCounted old new phase.Down = Unit {0}
IsPhaseCounted old new phase.Dialed = Unit {0}
IsPhaseCounted old new phase.Asked = Unit {0}
IsPhaseCounted old new phase.Up = Unit {0}
IsPhaseCounted old new (phase.Refused code) = Rose (old code) (new code)

-- the link, after so many faults
pub record IsLinkCounted (l : Link) (faults : ℕ) (first now : Vehicle) : Type 0 where
  pub losses : AreLossesCounted l faults first now
  pub denials : (code : ℕ) → Grows (first.gateway.denied code) (now.gateway.denied code)
  pub denied : IsPhaseCounted first.gateway.denied now.gateway.denied l.phase
  pub fair : is_live l.phase ≡ true → AreFair first.gateway.denied now.gateway.denied l now.gateway
