-- What the state of a replay holds of the core's definition.
use Rattle.std.specs.Prelude.{◌≡◌, ℕ, ◌<◌, ◌≤◌, Bool, true, false, List, [], length, Option, Some, None, nat_lt, ◌==◌, if◌then◌else◌}
use Rattle.flash_plan.specs.declared.outcome.Entry.{Entry}
use Rattle.flash_plan.specs.declared.outcome.Entry.TheVariants.{Begun, Marked, Complete}
use Rattle.flash_plan.specs.declared.outcome.Outcome.{Outcome}
use Rattle.flash_plan.specs.declared.outcome.Outcome.TheVariants.{DiskFault}
use Rattle.flash_plan.specs.Outcomes.{same_outcome}
use Rattle.flash_plan.specs.declared.unit.LinkRules.{LinkRules}
use Rattle.flash_plan.specs.declared.unit.UnitPlan.{UnitPlan}
use Rattle.flash_plan.specs.Plan.{plan_of, count_of}
use Rattle.barrier_board.specs.Board.{post_of, says_complete}
use Rattle.barrier_board.specs.declared.board.Claimed.{Claimed}
use Rattle.barrier_board.specs.declared.board.Claimed.TheVariants.{Unit as Took, Nothing}
use Rattle.barrier_board.specs.declared.post.Post.{Post}
use Rattle.run_model.specs.Entries.{marks_of}
use Rattle.run_model.specs.Link as phase
use Rattle.run_model.specs.Talk.{Talk, talk_start}
use Rattle.unit_session.specs.Session as session
use Rattle.unit_session.specs.Session.{talk_of, is_begun}
use Rattle.unit_session.specs.declared.session.UnitSession.{UnitSession}
use Rattle.link_state.specs.State.{Shows, IsOf, emptied_link}
use Rattle.bay_core.specs.Core.{Core, Slot, addresses_of, core_after, link_after, slots_own, slots_lost, Halt, no_halt, recorded_after, doubted_after, is_disk_failure, halt_after}
use Rattle.bay_core.specs.Legal.{is_allowed, is_stop}
use Rattle.bay_core.specs.declared.event.Event.{Event}
use Rattle.bay_core.specs.declared.event.Event.TheVariants as event
use Rattle.bay_replay.specs.declared.halt.Halt as kept_halt
use Rattle.bay_replay.specs.declared.state.Core as kept
use Rattle.bay_replay.specs.declared.units.Unit.{Unit as Kept}
use Rattle.bay_replay.specs.Units.{unit_of, kept_talk}
use Rattle.bay_replay.specs.Verdict.{EndsRightly, StopsRightly}

-- what the events so far make of a run, and the rules of its link
pub record Told : Type 0 where
  pub rules : LinkRules
  pub core : Core

-- before a loss and the stop are looked at
abbrev pub told_own : List UnitPlan → Event → Told → Told
told_own P e t = record t {
  core = record {
    link = link_after t.rules P e t.core.link;
    slots = slots_own t.rules P e t.core;
    recorded = recorded_after e t.core.recorded;
    doubted = doubted_after e t.core.doubted;
    halt = t.core.halt;
    before = t.core.before;
  };
}

-- a loss starts each attempt again
abbrev pub told_lost : List UnitPlan → ℕ → Told → Told
told_lost P before t = record t {
  core = record t.core {
    slots = slots_lost P t.core.recorded
        (nat_lt before t.core.link.losses) t.core.slots;
  };
}

-- then a loss and the stop, by the losses before the event
abbrev pub told_settled : List UnitPlan → Event → ℕ → Told → Told
told_settled P e before t = record t {
  core = record t.core {
    slots = slots_lost P t.core.recorded (nat_lt before t.core.link.losses) t.core.slots;
    halt = halt_after t.core.halt e t.rules t.core.link;
    before = if is_disk_failure e then t.core.before else halt_after t.core.halt e t.rules t.core.link;
  };
}

abbrev pub told_after : List UnitPlan → Event → Told → Told
told_after P e t = record t { core = core_after t.rules P e t.core }

-- ------ want of memory
-- a receive for which there was no memory leaves no message and no byte of the connection
abbrev pub told_emptied : Told → Told
told_emptied t = record t { core = record t.core { link = emptied_link t.core.link } }

-- the link is used no more, and each attempt starts again
abbrev pub told_down : List UnitPlan → Told → Told
told_down P t = record t {
  core = record t.core {
    link = record t.core.link { phase = phase.Down };
    slots = slots_lost P t.core.recorded true t.core.slots;
  };
}

-- A run that is stopped for want of memory, as it is seen from then on: no connection, no message and no byte of one, and no
-- answer of an attempt that was under way. No loss is counted, and what is recorded stays.
abbrev pub shut : List UnitPlan → Core → Core
shut P c = record c {
  link = record c.link { phase = phase.Down; rest = []; inbox = [] };
  slots = slots_lost P c.recorded true c.slots;
}

abbrev pub told_shut : List UnitPlan → Told → Told
told_shut P t = record t { core = shut P t.core }

-- ------ what is kept
abbrev pub halt_of : kept_halt.Halt → Halt
halt_of h = record { stop = h.stop; failed = h.failed }

-- the core, if the run were stopped so
abbrev pub with_halt : kept_halt.Halt → Core → Core
with_halt h c = record c { halt = halt_of h }

-- One unit: its post on the board and what is kept beside it are its slot. Its outcome is Complete exactly where it is recorded
-- complete. Its conversation is the slot's, with the marks that are recorded; before the claim it stands at its first request.
pub record HoldsSlot (plan : UnitPlan) (post : Post) (unit : Kept) (recorded : Entry → Bool) (n : ℕ)
    (s : Slot) : Type 0 where
  pub after : post.after ≡ plan.after
  pub taken : post.claimed ≡ s.claimed
  pub outcome : post.outcome ≡ s.outcome
  pub complete : says_complete s.outcome ≡ recorded (Complete n)
  pub claimed : unit.claimed ≡ s.claimed
  pub faulted : unit.faulted ≡ s.faulted
  pub begun : unit.begun ≡ recorded (Begun n)
  pub known : is_begun unit.session ≡ recorded (Begun n)
  pub talk : talk_of plan unit.session ≡ kept_talk s.talk
  pub marks : (k : ℕ) → s.talk.marks k ≡ recorded (Marked n k)
  pub fresh : s.claimed ≡ false → s.talk ≡ talk_start plan (recorded (Begun n)) (marks_of recorded n)
  pub fits : session.IsOf plan unit.session
  pub ends : EndsRightly s.talk.place

abbrev pub HoldsSlots : List UnitPlan → List Post → List Kept → (Entry → Bool) → (ℕ → Slot) → Type 0
HoldsSlots P posts units recorded slots = (n : ℕ) → n < count_of P
    → HoldsSlot (plan_of P n) (post_of posts n) (unit_of units n) recorded n (slots n)

-- All units, the link with its inboxes, whether and by what the run is stopped, and how that was before the failed appends that
-- stand directly before.
pub record HoldsBody (P : List UnitPlan) (k : kept.Core) (t : Told) : Type 0 where
  pub posts : length k.board ≡ count_of P
  pub units : length k.units ≡ count_of P
  pub slots : HoldsSlots P k.board k.units t.core.recorded t.core.slots
  pub link : Shows k.link t.core.link
  pub labels : IsOf t.rules.tester (addresses_of P) k.link
  pub halt : halt_of k.halt ≡ t.core.halt
  pub before : halt_of k.before ≡ t.core.before
  pub right : StopsRightly t.core.halt.stop

-- and while the run is not stopped, no more losses were made than may be; relinks is a byte
pub record Holds (P : List UnitPlan) (k : kept.Core) (t : Told) : Type 0 where
  pub body : HoldsBody P k t
  pub byte : t.rules.relinks < 256
  pub few : t.core.halt.stop ≡ None → t.core.link.losses ≤ t.rules.relinks

-- An event is taken exactly where it is allowed, and then all that it makes of the run is held; where it is not, nothing changed.
pub record Takes (P : List UnitPlan) (e : Event) (t : Told) (old : kept.Core) (ok : Bool)
    (k : kept.Core) : Type 0 where
  pub allowed : ok ≡ is_allowed P t.core e
  pub holds : ok ≡ true → Holds P k (told_after P e t)
  pub same : ok ≡ false → k ≡ old

-- the lowest unit that is ready was taken up, or none is ready and nothing changed
abbrev pub Claims : List UnitPlan → Told → kept.Core → Claimed → kept.Core → Type 0
Claims P t old (Took u) k = (is_allowed P t.core (event.Claimed u) ≡ true)
    × Holds P k (told_after P (event.Claimed u) t)
Claims P t old Nothing k = (k ≡ old) × ((u : ℕ) → is_allowed P t.core (event.Claimed u) ≡ false)

-- ------ parts of what is allowed
-- it is that unit
abbrev pub names : Option ℕ → ℕ → Bool
names None u = false
names (Some w) u = w == u

-- what stopped the run ends the unit so
abbrev pub is_stopped : Core → ℕ → Outcome → Bool
is_stopped c u outcome =
    if (c.slots u).faulted then same_outcome DiskFault outcome else is_stop c.halt.stop outcome

-- ------ the parts that a caller sees
-- the conversation of a unit, where the unit was ever claimed; of its marks those below 256
abbrev pub IsSessionSeen : UnitPlan → Slot → Option UnitSession → Type 0
IsSessionSeen plan s None = s.claimed ≡ false
IsSessionSeen plan s (Some said) = (s.claimed ≡ true) × (talk_of plan said ≡ kept_talk s.talk)

-- the conversation of a unit as it is kept
pub record IsConversation (plan : UnitPlan) (s : Slot) (said : UnitSession) : Type 0 where
  pub fits : session.IsOf plan said
  pub talk : talk_of plan said ≡ kept_talk s.talk

-- who was claimed, and the outcome of each unit
pub record IsBoardOf (P : List UnitPlan) (c : Core) (posts : List Post) : Type 0 where
  pub size : length posts ≡ count_of P
  pub after : (n : ℕ) → n < count_of P → (post_of posts n).after ≡ (plan_of P n).after
  pub claimed : (n : ℕ) → n < count_of P → (post_of posts n).claimed ≡ (c.slots n).claimed
  pub outcome : (n : ℕ) → n < count_of P → (post_of posts n).outcome ≡ (c.slots n).outcome
