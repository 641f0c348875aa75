-- What the events make of a run: link, units, records, and what stopped it.
use Rattle.std.specs.Prelude.{ℕ, ◌+◌, Bool, true, false, ◌||◌, ◌==◌, nat_lt, List, [], ◌∷◌, Option, Some, None, if◌then◌else◌}
use Rattle.flash_plan.specs.Outcomes.{with_entry}
use Rattle.run_model.specs.Entries.{marks_of}
use Rattle.flash_plan.specs.declared.outcome.Outcome.TheVariants as outcome
use Rattle.flash_plan.specs.declared.outcome.Outcome.TheVariants.{DiskFault, LinkLost, LinkRefused}
use Rattle.run_model.specs.Link.{Link, Phase, link_start, hear_piece, polled_quiet, drop_link, lost_or, dialed_link, asked_link, said_link, take_message, first_message}
use Rattle.run_model.specs.Link as phase
use Rattle.flash_plan.specs.declared.unit.UnitPlan.{UnitPlan}
use Rattle.flash_plan.specs.declared.unit.LinkRules.{LinkRules}
use Rattle.flash_plan.specs.declared.outcome.Entry.{Entry}
use Rattle.flash_plan.specs.declared.outcome.Entry.TheVariants as entry
use Rattle.flash_plan.specs.declared.outcome.Entry.TheVariants.{Begun}
use Rattle.flash_plan.specs.declared.outcome.Outcome.{Outcome}
use Rattle.flash_plan.specs.Plan.{plan_of}
use Rattle.bay_core.specs.declared.event.Heard.{Heard}
use Rattle.bay_core.specs.declared.event.Heard.TheVariants.{Kept, Quiet, Piece, Lost}
use Rattle.bay_core.specs.declared.event.Tend.{Tend}
use Rattle.bay_core.specs.declared.event.Tend.TheVariants.{Dialed, Asked, Said, Polled}
use Rattle.bay_core.specs.declared.event.Event.{Event}
use Rattle.bay_core.specs.declared.event.Event.TheVariants.{Claimed, Began, Sent, Collected, Tended, Marked, Completed, DiskFailed, Ended}
use Rattle.run_model.specs.Talk.{Talk, talk_start, talk_lost, talk_marked, talk_sent, talk_takes, talk_quiet}

-- ------ the link
abbrev pub addresses_of : List UnitPlan → List ℕ
addresses_of [] = []
addresses_of (u ∷ us) = u.address ∷ addresses_of us

-- what a receive does
abbrev pub heard_link : LinkRules → List UnitPlan → Heard → Link → Link
heard_link rules P Kept l = l
heard_link rules P Quiet l = polled_quiet l
heard_link rules P (Piece bytes) l = hear_piece rules.tester (addresses_of P) bytes l
heard_link rules P Lost l = drop_link l

-- for the unit that waits a message is taken, where there is one
abbrev pub taken_link : ℕ → Heard → Link → Link
taken_link a Kept l = take_message a l
taken_link a Quiet l = l
taken_link a (Piece bytes) l = take_message a l
taken_link a Lost l = l

abbrev pub tended_link : LinkRules → List UnitPlan → Tend → Link → Link
tended_link rules P (Dialed lost) l = dialed_link lost l
tended_link rules P (Asked lost) l = asked_link lost l
tended_link rules P (Said lost) l = said_link lost l
tended_link rules P (Polled heard) l = heard_link rules P heard l

abbrev pub link_after : LinkRules → List UnitPlan → Event → Link → Link
link_after rules P (Claimed u) l = l
link_after rules P (Began u) l = l
link_after rules P (Sent u place lost) l = lost_or lost l
link_after rules P (Collected u heard) l = taken_link (plan_of P u).address heard (heard_link rules P heard l)
link_after rules P (Tended step) l = tended_link rules P step l
link_after rules P (Marked u s) l = l
link_after rules P (Completed u) l = l
link_after rules P (DiskFailed u entry) l = l
link_after rules P (Ended u why) l = l

-- ------ the units
-- faulted: an append for the unit failed
pub record Slot : Type 0 where
  pub claimed : Bool
  pub talk : Talk
  pub outcome : Option Outcome
  pub faulted : Bool

-- whether and by what the run is stopped, and whether an append has failed
pub record Halt : Type 0 where
  pub stop : Option Outcome
  pub failed : Bool

-- recorded: what was found, and the entries that were recorded since. doubted: those whose append failed; each of them may be
-- there. before: how it stood before the failed appends that stand directly before, which are those of one group.
pub record Core : Type 0 where
  pub link : Link
  pub slots : ℕ → Slot
  pub recorded : Entry → Bool
  pub doubted : Entry → Bool
  pub halt : Halt
  pub before : Halt

abbrev pub with_slot : ℕ → Slot → (ℕ → Slot) → ℕ → Slot
with_slot u s slots n = if n == u then s else slots n

abbrev pub slot_start : List UnitPlan → (Entry → Bool) → ℕ → Slot
slot_start P found n = record {
  claimed = false;
  talk = talk_start (plan_of P n) (found (Begun n)) (marks_of found n);
  outcome = if found (entry.Complete n) then Some outcome.Complete else None;
  faulted = false;
}

abbrev pub no_halt : Halt
no_halt = record { stop = None; failed = false }

abbrev pub core_start : List UnitPlan → (Entry → Bool) → Core
core_start P found = record {
  link = link_start;
  slots = slot_start P found;
  recorded = found;
  doubted = λ e. false;
  halt = no_halt;
  before = no_halt;
}

-- the event's own unit
abbrev pub slot_claimed : List UnitPlan → Core → ℕ → Slot
slot_claimed P c u = record (c.slots u) {
  claimed = true;
  talk = talk_start (plan_of P u) (c.recorded (Begun u)) (marks_of c.recorded u);
}

abbrev pub with_talk : (Talk → Talk) → Slot → Slot
with_talk f s = record s { talk = f s.talk }

abbrev pub collects : List UnitPlan → LinkRules → ℕ → Heard → Link → Talk → Talk
collects P rules u Kept l t = talk_takes (plan_of P u) l.ticks (first_message (plan_of P u).address l.inbox) t
collects P rules u Quiet l t = talk_quiet (plan_of P u) (l.ticks + 1) t
collects P rules u (Piece bytes) l t =
    talk_takes (plan_of P u) l.ticks (first_message (plan_of P u).address
    (heard_link rules P (Piece bytes) l).inbox) t
collects P rules u Lost l t = t

-- before a loss is looked at
abbrev pub slots_own : LinkRules → List UnitPlan → Event → Core → ℕ → Slot
slots_own rules P (Claimed u) c = with_slot u (slot_claimed P c u) c.slots
slots_own rules P (Began u) c =
    with_slot u (with_talk (λ t. talk_start (plan_of P u) true (marks_of c.recorded u)) (c.slots u)) c.slots
slots_own rules P (Sent u place lost) c = with_slot u (with_talk (talk_sent c.link.ticks) (c.slots u)) c.slots
slots_own rules P (Collected u heard) c =
    with_slot u (with_talk (collects P rules u heard c.link) (c.slots u)) c.slots
slots_own rules P (Tended step) c = c.slots
slots_own rules P (Marked u s) c = with_slot u (with_talk (talk_marked s) (c.slots u)) c.slots
slots_own rules P (Completed u) c =
    with_slot u (record (c.slots u) { outcome = Some outcome.Complete }) c.slots
slots_own rules P (DiskFailed u entry) c = with_slot u (record (c.slots u) { faulted = true }) c.slots
slots_own rules P (Ended u why) c = with_slot u (record (c.slots u) { outcome = Some why }) c.slots

abbrev pub slots_lost : List UnitPlan → (Entry → Bool) → Bool → (ℕ → Slot) → ℕ → Slot
slots_lost P records lost slots n =
    if lost then with_talk (talk_lost (plan_of P n) (records (Begun n))) (slots n) else slots n

abbrev pub recorded_after : Event → (Entry → Bool) → Entry → Bool
recorded_after (Claimed u) records = records
recorded_after (Began u) records = with_entry (Begun u) records
recorded_after (Sent u place lost) records = records
recorded_after (Collected u heard) records = records
recorded_after (Tended step) records = records
recorded_after (Marked u s) records = with_entry (entry.Marked u s) records
recorded_after (Completed u) records = with_entry (entry.Complete u) records
recorded_after (DiskFailed u entry) records = records
recorded_after (Ended u why) records = records

abbrev pub doubted_after : Event → (Entry → Bool) → Entry → Bool
doubted_after (DiskFailed u entry) doubted = with_entry entry doubted
doubted_after e doubted = doubted

abbrev pub refused_stop : Phase → Option Outcome
refused_stop phase.Down = None
refused_stop phase.Dialed = None
refused_stop phase.Asked = None
refused_stop phase.Up = None
refused_stop (phase.Refused code) = Some (LinkRefused code)

abbrev pub link_stop : LinkRules → Link → Option Outcome
link_stop rules l = if nat_lt rules.relinks l.losses then Some (LinkLost l.losses) else refused_stop l.phase

abbrev pub is_disk_failure : Event → Bool
is_disk_failure (DiskFailed u entry) = true
is_disk_failure e = false

abbrev pub stop_after : Option Outcome → Event → LinkRules → Link → Option Outcome
stop_after (Some outcome) e rules l = Some outcome
stop_after None e rules l = if is_disk_failure e then Some DiskFault else link_stop rules l

abbrev pub halt_after : Halt → Event → LinkRules → Link → Halt
halt_after h e rules l = record { stop = stop_after h.stop e rules l; failed = is_disk_failure e || h.failed }

abbrev pub core_after : LinkRules → List UnitPlan → Event → Core → Core
core_after rules P e c = record {
  link = link_after rules P e c.link;
  slots = slots_lost P (recorded_after e c.recorded)
      (nat_lt c.link.losses (link_after rules P e c.link).losses) (slots_own rules P e c);
  recorded = recorded_after e c.recorded;
  doubted = doubted_after e c.doubted;
  halt = halt_after c.halt e rules (link_after rules P e c.link);
  before = if is_disk_failure e then c.before else halt_after c.halt e rules (link_after rules P e c.link);
}

abbrev pub core_of : LinkRules → List UnitPlan → Core → List Event → Core
core_of rules P c [] = c
core_of rules P c (e ∷ es) = core_of rules P (core_after rules P e c) es
