-- What the counts of the vehicle say of each conversation: kept beside the joint state by each event.
use Rattle.std.specs.Prelude.{◌≡◌, ◌⊎◌, ℕ, ◌+◌, ◌<◌, ◌≤◌, ◌%◌, ◌-◌, Bool, true, false, List, [], ◌∷◌, ◌++◌, length, Option, Some, None, is_some, if◌then◌else◌}
use Rattle.flash_base.specs.ByteMaps.{byte_at}
use Rattle.doip_frame.specs.Frame.{stream_of}
use Rattle.flash_base.specs.Lists.{Each}
use Rattle.flash_plan.specs.Plan.{plan_of, count_of}
use Rattle.flash_plan.specs.declared.outcome.Entry.{Entry}
use Rattle.flash_plan.specs.declared.outcome.Entry.TheVariants.{Begun}
use Rattle.flash_plan.specs.declared.unit.LinkRules.{LinkRules}
use Rattle.flash_plan.specs.declared.unit.UnitPlan.{UnitPlan}
use Rattle.flash_plan.specs.declared.unit.Wanted.{Wanted}
use Rattle.uds_codec.specs.Request.{sid_of}
use Rattle.unit_model.specs.Unit.{ControlUnit, Counts, is_locked}
use Rattle.unit_model.specs.Step.{Departure, Refuses, Odd, Fails, Mutes, Busies, is_late}
use Rattle.unit_model.specs.Vehicle.{HeldAnswer, Gateway, Vehicle, unit_at}
use Rattle.run_model.specs.Link.{Link, is_live}
use Rattle.run_model.specs.Entries.{marks_of}
use Rattle.run_model.specs.Places.{AreMarked, is_ended}
use Rattle.run_model.specs.Script.{Place, AtIdent, AtDownload, AtBlock, AtFinish, AtEnd, bytes_at, start_place}
use Rattle.run_model.specs.States.{StateAt, HasRoom, Obeyed, Departed}
use Rattle.run_model.specs.Talk.{Talk}
use Rattle.run_model.specs.Ways.{UnitMessage, Nacked, messages_from, messages_in, messages_later, on_way, has_no_message, pending_messages, final_message}
use Rattle.unit_session.specs.Left.{requests_left}
use Rattle.bay_core.specs.Core.{Slot, Core}
use Rattle.bay_core.specs.Joint.{is_open_slot, held_of}
use Rattle.outcome_law.specs.Causes.{HasNoneChecked, IsCaused}
use Rattle.outcome_law.specs.Rising.{RoseBy, Rose, CountsGrow}

-- ------ the unit
-- what it is made of, which no step changes
pub record SameMake (old new : ControlUnit) : Type 0 where
  pub idents : new.idents ≡ old.idents
  pub key : new.key ≡ old.key
  pub check : new.check ≡ old.check
  pub block : new.block ≡ old.block
  pub seed : new.seed ≡ old.seed
  pub domain : (a : ℕ) → is_some (byte_at new.memory a) ≡ is_some (byte_at old.memory a)

pub record Kept (old new : ControlUnit) : Type 0 where
  pub make : SameMake old new
  pub counts : CountsGrow old.counts new.counts

abbrev pub KeptIn : Option ControlUnit → Option ControlUnit → Type 0
KeptIn None None = Unit {0}
KeptIn None (Some w) = ⊥
KeptIn (Some u) None = ⊥
KeptIn (Some u) (Some w) = Kept u w

-- behind the erase of a segment a download is not refused; a block is as long as the unit's number says, or shorter; the whole check
-- finds something, unless every segment was found marked and nothing was checked
abbrev pub Takes : UnitPlan → (ℕ → Bool) → ControlUnit → Place → ControlUnit → Type 0
Takes plan found first (AtDownload c) u = (is_locked u ≡ false) × HasRoom c.now u
Takes plan found first (AtBlock c b) u = b.limit ≤ u.block
Takes plan found first AtFinish u = u.checked ≡ [] → HasNoneChecked plan found first
Takes plan found first place u = Unit {0}

abbrev pub TakesIn : UnitPlan → (ℕ → Bool) → Option ControlUnit → Place → Option ControlUnit → Type 0
TakesIn plan found None place now = Unit {0}
TakesIn plan found (Some u) place None = Unit {0}
TakesIn plan found (Some u) place (Some w) = Takes plan found u place w

-- where every segment was found marked, no range comes to the checked ones and none goes
abbrev pub SameChecked : UnitPlan → (ℕ → Bool) → Option ControlUnit → Option ControlUnit → Type 0
SameChecked plan found None now = Unit {0}
SameChecked plan found (Some u) None = Unit {0}
SameChecked plan found (Some u) (Some w) = AreMarked found (length plan.segments) → w.checked ≡ u.checked

-- ------ the place
-- an identifier that is asked for is expected, and the task was not begun
abbrev pub IsIdentPlace : UnitPlan → Bool → Place → Type 0
IsIdentPlace plan begun (AtIdent w ws) = (begun ≡ false)
    × ((seen : List Wanted) × (seen ++ (w ∷ ws) ≡ plan.idents))
IsIdentPlace plan begun place = Unit {0}

-- an end has its cause
abbrev pub IsEndCaused : UnitPlan → Bool → (ℕ → Bool) → Option ControlUnit → Option ControlUnit → Place
    → Type 0
IsEndCaused plan begun found first now (AtEnd outcome) = IsCaused plan begun found first now outcome
IsEndCaused plan begun found first now place = Unit {0}

-- so many busy answers were counted
abbrev pub BusyBy : ℕ → Option ControlUnit → Option ControlUnit → Type 0
BusyBy n None now = n ≡ 0
BusyBy n (Some u) None = ⊥
BusyBy n (Some u) (Some w) = RoseBy n u.counts.busy w.counts.busy

-- the conversation of one unit, whose state was `first` at the start of the run and is `now`
pub record IsTalkCounted (plan : UnitPlan) (begun : Bool) (found : ℕ → Bool) (first now : Option ControlUnit)
    (t : Talk) : Type 0 where
  pub ident : IsIdentPlace plan begun t.place
  pub ended : IsEndCaused plan begun found first now t.place
  pub busy : BusyBy t.busies first now
  pub takes : t.awaiting ≡ false → TakesIn plan found first t.place now
  pub left : is_ended t.place ≡ false
      → t.number + requests_left plan t.place ≤ requests_left plan (start_place plan begun)

-- ------ what is awaited
-- the count of the departure rose; a busy answer counts beside those of this request
abbrev pub IsCounted : Departure → ℕ → Counts → Counts → Type 0
IsCounted (Refuses nrc) busies old new = Rose (old.refused nrc) (new.refused nrc)
IsCounted (Odd body) busies old new = Rose old.odd new.odd
IsCounted (Fails body) busies old new = Rose old.failed new.failed
IsCounted Mutes busies old new = Rose old.muted new.muted
IsCounted Busies busies old new = RoseBy (busies + 1) old.busy new.busy

-- The unit heard the request in hand: it obeyed, or departed, which was counted. More than 200 responses pending were counted
-- too; the held answer has said at least as many as came and are on the way.
pub record IsHeardCounted (plan : UnitPlan) (found : ℕ → Bool) (t : Talk) (first : ControlUnit)
    (held : List HeldAnswer) (way : List UnitMessage) (u : ControlUnit) : Type 0 where
  pub before : ControlUnit
  pub said : Option (List ℕ)
  pub pending : ℕ
  pub state : StateAt plan t.place before
  pub takes : Takes plan found first t.place before
  pub make : SameMake first before
  pub step : Obeyed before (bytes_at plan t.place) said u
      ⊎ ((d : Departed before (bytes_at plan t.place) said u)
      × IsCounted d.kind t.busies first.counts u.counts)
  pub on_way : way ≡ pending_messages (sid_of (bytes_at plan t.place)) pending ++ final_message said
  pub patience : (t.pendings + pending ≤ 200) ⊎ Rose first.counts.stalled u.counts.stalled
  pub holding : (one : HeldAnswer) → held ≡ one ∷ [] → (t.pendings + pending ≤ one.pending)
      × ((one.pending ≤ 200) ⊎ Rose first.counts.stalled u.counts.stalled)

-- the gateway refused to deliver it, which was counted
pub record IsMissedCounted (first : ControlUnit) (way : List UnitMessage) (u : ControlUnit) : Type 0 where
  pub code : ℕ
  pub on_way : way ≡ Nacked code ∷ []
  pub count : Rose (first.counts.nacked code) (u.counts.nacked code)

abbrev pub IsAwaitCounted : UnitPlan → (ℕ → Bool) → Talk → List HeldAnswer → List UnitMessage
    → Option ControlUnit → Option ControlUnit → Type 0
IsAwaitCounted plan found t held way None None = way ≡ Nacked 3 ∷ []
IsAwaitCounted plan found t held way None (Some w) = ⊥
IsAwaitCounted plan found t held way (Some u) None = ⊥
IsAwaitCounted plan found t held way (Some u) (Some w) =
    IsMissedCounted u way w ⊎ IsHeardCounted plan found t u held way w

-- ------ when it comes
-- the ticks at which messages of the unit are due
abbrev pub dues : ℕ → ℕ → List (ℕ × List ℕ) → List ℕ
dues tester a [] = []
dues tester a (q ∷ qs) = if has_no_message (messages_in tester a (stream_of q.1).frames) then dues tester a qs
    else q.0 ∷ dues tester a qs

-- what has come and was not taken yet
abbrev pub come : ℕ → ℕ → List (ℕ × UnitMessage) → List ℕ → Gateway → List UnitMessage
come tester a inbox rest g =
    messages_from a inbox ++ messages_in tester a (stream_of (rest ++ g.ready)).frames

-- a held answer says that it is pending each `every` ticks; where that is 1,000 or more, 1,000 have not gone by
pub record IsHeldTimed (last tick : ℕ) (h : HeldAnswer) : Type 0 where
  pub some : 1 ≤ h.every
  pub from : h.from ≤ last
  pub turn : (last - h.from) % h.every ≡ 0
  pub next : tick < last + h.every
  pub early : (h.every < 1000) ⊎ (tick < h.from + 1000)

-- The last message of the unit that has come, or the sending, was at `last`, and each message behind comes less than 1,000
-- ticks after the one before it.
pub record IsOnTime (tester a sent : ℕ) (inbox : List (ℕ × UnitMessage)) (rest : List ℕ)
    (g : Gateway) : Type 0 where
  pub last : ℕ
  pub past : last ≤ g.tick
  pub after : Each (λ d. g.tick < d) (dues tester a g.later)
  pub taken : come tester a inbox rest g ≡ [] → last ≤ sent
  pub next : is_late last (dues tester a g.later) ≡ false
  pub held : (one : HeldAnswer) → held_of a g.held ≡ one ∷ [] → IsHeldTimed last g.tick one

-- or something of the unit came late, which was counted; a refusal to deliver has come at once
abbrev pub IsTimed : ℕ → ℕ → ℕ → List (ℕ × UnitMessage) → List ℕ → Gateway → Option ControlUnit
    → Option ControlUnit → Type 0
IsTimed tester a sent inbox rest g None now = messages_later tester a g.later ≡ []
IsTimed tester a sent inbox rest g (Some u) None = ⊥
IsTimed tester a sent inbox rest g (Some u) (Some w) =
    Rose u.counts.late w.counts.late ⊎ IsOnTime tester a sent inbox rest g

-- ------ one unit, and all
pub record IsUnitCounted (tester : ℕ) (plan : UnitPlan) (begun : Bool) (found : ℕ → Bool) (t0 : ℕ) (l : Link)
    (s : Slot) (first now : Vehicle) : Type 0 where
  pub kept : KeptIn (unit_at first.units plan.address) (unit_at now.units plan.address)
  pub checked : SameChecked plan found (unit_at first.units plan.address) (unit_at now.units plan.address)
  pub talk : IsTalkCounted plan begun found (unit_at first.units plan.address)
      (unit_at now.units plan.address) s.talk
  pub awaits : is_live l.phase ≡ true → is_open_slot s ≡ true → s.talk.awaiting ≡ true
      → IsAwaitCounted plan found s.talk (held_of plan.address now.gateway.held)
      (on_way tester plan.address l.inbox l.rest now.gateway) (unit_at first.units plan.address)
      (unit_at now.units plan.address)
  pub timed : is_live l.phase ≡ true → is_open_slot s ≡ true → s.talk.awaiting ≡ true
      → IsTimed tester plan.address (t0 + s.talk.since) l.inbox l.rest now.gateway
      (unit_at first.units plan.address) (unit_at now.units plan.address)

-- each unit of the plan; what was found recorded is
pub record AreUnitsCounted (rules : LinkRules) (P : List UnitPlan) (found : Entry → Bool) (t0 : ℕ) (c : Core)
    (first now : Vehicle) : Type 0 where
  pub units : (n : ℕ) → n < count_of P
      → IsUnitCounted rules.tester (plan_of P n) (c.recorded (Begun n)) (marks_of found n) t0 c.link
      (c.slots n) first now
  pub more : (e : Entry) → found e ≡ true → c.recorded e ≡ true
