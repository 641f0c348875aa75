-- What each event keeps, in two parts: link, vehicle and conversations fit together, whatever is recorded; and the records fit
-- both.
use Rattle.std.specs.Prelude.{◌≡◌, ◌⊎◌, ℕ, ◌+◌, ◌<◌, Bool, true, false, ◌&&◌, ◌==◌, List, [], ◌∷◌, length, Option, None, IsTrue, is_none, filter, MatchOption}
use Rattle.flash_plan.specs.Plan.{plan_of, count_of, segment_of}
use Rattle.flash_plan.specs.declared.outcome.Entry.{Entry}
use Rattle.flash_plan.specs.declared.outcome.Entry.TheVariants.{Begun, Marked, Complete}
use Rattle.flash_plan.specs.declared.unit.LinkRules.{LinkRules}
use Rattle.flash_plan.specs.declared.unit.UnitPlan.{UnitPlan}
use Rattle.run_model.specs.Connected.{IsConnected, IsAddressed}
use Rattle.run_model.specs.Link.{Link, is_live, is_up}
use Rattle.run_model.specs.Entries.{marks_of}
use Rattle.run_model.specs.Places.{IsPlace, IsAsked, FitsMarks, is_ended, needs_begun, needs_request}
use Rattle.run_model.specs.Script.{bytes_at}
use Rattle.run_model.specs.Sound.{IsSound, AllComplete, HasSegment, VehicleHas}
use Rattle.run_model.specs.States.{StateIn}
use Rattle.run_model.specs.Talk.{Talk}
use Rattle.run_model.specs.Ways.{UnitMessage, AwaitsIn, on_way, messages_later, ascends_for}
use Rattle.uds_codec.specs.Request.{sid_of}
use Rattle.unit_model.specs.Unit.{ControlUnit}
use Rattle.unit_model.specs.Vehicle.{HeldAnswer, Gateway, Vehicle, unit_at}
use Rattle.bay_core.specs.Core.{Slot, Core}

-- The records are those of the events, but for the entries whose append failed: each of them may be there.
pub record RecordsAgree (c : Core) (R : Entry → Bool) : Type 0 where
  pub has : (e : Entry) → IsTrue (c.recorded e) → IsTrue (R e)
  pub only : (e : Entry) → IsTrue (R e) → IsTrue (c.recorded e) ⊎ IsTrue (c.doubted e)

-- claimed and without outcome
abbrev pub is_open_slot : Slot → Bool
is_open_slot s = s.claimed && is_none s.outcome

-- One unit: its slot, whether the link lives, what is on the way from the unit, and its state.
-- Nothing is on the way from a unit that was not claimed, nor from one that awaits nothing and whose conversation has not
-- ended. The state agrees with the answers of this attempt. Of a unit whose answer is awaited, either the gateway's refusal to
-- deliver is on the way, or responses pending and at last the answer of the very step that the unit made.
pub record IsSlotJoint (plan : UnitPlan) (live : Bool) (s : Slot) (way : List UnitMessage)
    (o : Option ControlUnit) : Type 0 where
  pub unclaimed : live ≡ true → s.claimed ≡ false → way ≡ []
  pub rests : live ≡ true → s.claimed ≡ true → s.talk.awaiting ≡ false → is_ended s.talk.place ≡ false
      → way ≡ []
  pub state : is_open_slot s ≡ true → s.talk.awaiting ≡ false → StateIn plan s.talk.place o
  pub awaits : live ≡ true → is_open_slot s ≡ true → s.talk.awaiting ≡ true → AwaitsIn plan s.talk.place way o

-- the held answers of a unit
abbrev pub held_of : ℕ → List HeldAnswer → List HeldAnswer
held_of a held = filter (λ h. h.unit == a) held

-- the one answer of the unit is held, to the request with this service, and nothing else of it is queued for later
pub record IsLoneHeld (tester a sid : ℕ) (g : Gateway) : Type 0 where
  pub one : HeldAnswer
  pub held : held_of a g.held ≡ one ∷ []
  pub service : one.sid ≡ sid
  pub later : messages_later tester a g.later ≡ []

abbrev pub HoldsAtMost : ℕ → ℕ → ℕ → Gateway → Type 0
HoldsAtMost tester a sid g = (held_of a g.held ≡ []) ⊎ IsLoneHeld tester a sid g

-- One unit with the link and the vehicle: besides, its queued frames come in the order in which they were queued, and while
-- its answer is awaited, a held answer is the only thing that it has still to say; `order` and `held` only make the rest inductive.
pub record IsUnitJoint (tester : ℕ) (plan : UnitPlan) (l : Link) (s : Slot) (v : Vehicle) : Type 0 where
  pub slot : IsSlotJoint plan (is_live l.phase) s (on_way tester plan.address l.inbox l.rest v.gateway)
      (unit_at v.units plan.address)
  pub order : is_live l.phase ≡ true → ascends_for tester plan.address v.gateway.tick v.gateway.later ≡ true
  pub held : is_live l.phase ≡ true → is_open_slot s ≡ true → s.talk.awaiting ≡ true
      → HoldsAtMost tester plan.address (sid_of (bytes_at plan s.talk.place)) v.gateway

-- ------ what the events alone keep: it follows from their being legal
-- the conversation stands at a place of the plan's script, awaits only where a request was due, is behind Begin only where Begun
-- is recorded, and behind a segment only where that is recorded marked
pub record IsTalk (plan : UnitPlan) (is_begun : Bool) (marks : ℕ → Bool) (t : Talk) : Type 0 where
  pub place : IsPlace plan t.place
  pub asked : IsAsked plan t.place
  pub awaits : t.awaiting ≡ true → needs_request t.place ≡ true
  pub begun : needs_begun t.place ≡ true → is_begun ≡ true
  pub marks_are : (s : ℕ) → t.marks s ≡ marks s
  pub marked : FitsMarks plan t.marks t.place

pub record IsSlot (plan : UnitPlan) (recorded : Entry → Bool) (n : ℕ) (s : Slot) : Type 0 where
  pub talk : IsTalk plan (recorded (Begun n)) (marks_of recorded n) s.talk
  pub after : s.claimed ≡ true → AllComplete recorded plan.after
  pub incomplete : s.outcome ≡ None → recorded (Complete n) ≡ false
  pub untouched : s.claimed ≡ false → (s.talk.awaiting ≡ false) × (is_ended s.talk.place ≡ false)

pub record IsSane (P : List UnitPlan) (c : Core) : Type 0 where
  pub slots : (n : ℕ) → n < count_of P → IsSlot (plan_of P n) c.recorded n (c.slots n)
  pub sure : c.halt.stop ≡ None → (e : Entry) → c.doubted e ≡ false
  pub down : is_up c.link.phase ≡ false → (n : ℕ) → n < count_of P → is_open_slot (c.slots n) ≡ true
      → (c.slots n).talk.awaiting ≡ false

-- ------ the first part
-- recorded in this run, by an event
pub record IsNew (found : Entry → Bool) (c : Core) (e : Entry) : Type 0 where
  pub recorded : c.recorded e ≡ true
  pub unfound : found e ≡ false

-- the unit holds each of its segments that was not found marked, checked, and it has passed
pub record IsDone (plan : UnitPlan) (found : ℕ → Bool) (u : ControlUnit) : Type 0 where
  pub segments : (s : ℕ) → s < length plan.segments → found s ≡ false → HasSegment u (segment_of plan s)
  pub passed : IsTrue u.passed

-- Link and gateway speak of the same connection; each unit's state and what is on the way from it fit its conversation; the
-- vehicle's tick is that of the opening and the link's; what was marked in this run is in its unit; and a unit that was completed
-- in this run is done. Nothing here speaks of the disk, and of what was found only to leave it out.
pub record IsVehicleJoint (rules : LinkRules) (P : List UnitPlan) (found : Entry → Bool) (c : Core)
    (v : Vehicle) (t0 : ℕ) : Type 0 where
  pub connected : IsTrue (is_live c.link.phase) → IsConnected rules.tester c.link v.gateway
  pub addressed : IsTrue (is_live c.link.phase) → IsAddressed rules.tester c.link v.gateway
  pub units : (n : ℕ) → n < count_of P → IsUnitJoint rules.tester (plan_of P n) c.link (c.slots n) v
  pub ticks : v.gateway.tick ≡ t0 + c.link.ticks
  pub marked : (n s : ℕ) → n < count_of P → s < length (plan_of P n).segments → IsNew found c (Marked n s)
      → VehicleHas (plan_of P n) (segment_of (plan_of P n) s) v
  pub completed : (n : ℕ) → n < count_of P → IsNew found c (Complete n)
      → MatchOption (unit_at v.units (plan_of P n).address) ⊥ (IsDone (plan_of P n) (marks_of found n))
  -- of the events alone: what makes the rest inductive
  pub sane : IsSane P c

-- ------ the second part
-- the records are those of the events, and the vehicle is sound for them
pub record IsRecordJoint (P : List UnitPlan) (c : Core) (R : Entry → Bool) (v v0 : Vehicle) : Type 0 where
  pub records : RecordsAgree c R
  pub sound : IsSound P R v v0

-- ------ both
pub record IsJoint (rules : LinkRules) (P : List UnitPlan) (found : Entry → Bool) (c : Core)
    (R : Entry → Bool) (v v0 : Vehicle) (t0 : ℕ) : Type 0 where
  pub vehicle : IsVehicleJoint rules P found c v t0
  pub records : IsRecordJoint P c R v v0
