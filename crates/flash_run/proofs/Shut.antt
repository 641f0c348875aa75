-- A run that was stopped for want of memory: what is kept of it allows the same closing events, and goes with them.
use Rattle.std.proofs.Common.{◌≡◌, inl, inr, ℕ, true, false, List, [], ◌∷◌, None, Some, refl, sym, ◌∙◌, ap, arith}
use Rattle.std.specs.Prelude.{Bool, Option, ◌==◌, ◌&&◌, ◌||◌, not, nat_lt, is_some, is_none, if◌then◌else◌}
use Rattle.std.proofs.lemmas.Bool.{cases_Bool, false≢true, le-ltb, eqb-true}
use Rattle.bay_core.specs.Core.{Core, Slot, Halt, core_after, with_slot, with_talk, slots_lost, slots_own, recorded_after, stop_after, refused_stop, is_disk_failure, halt_after}
use Rattle.bay_core.specs.Legal.{is_allowed, is_done, is_end, is_stop, is_memory, is_blocker, is_blocked, is_open_unit}
use Rattle.bay_core.specs.declared.event.Event.{Event}
use Rattle.bay_core.specs.declared.event.Event.TheVariants.{Claimed, Began, Sent, Collected, Tended, Marked, Completed, DiskFailed, Ended}
use Rattle.bay_replay.specs.Held.{shut}
use Rattle.flash_plan.specs.Outcomes.{same_outcome}
use Rattle.flash_plan.specs.Plan.{plan_of, count_of}
use Rattle.flash_plan.specs.declared.outcome.Entry.{Entry}
use Rattle.flash_plan.specs.declared.outcome.Entry.TheVariants as entry
use Rattle.flash_plan.specs.declared.outcome.Outcome.{Outcome}
use Rattle.flash_plan.specs.declared.outcome.Outcome.TheVariants as outcome
use Rattle.flash_plan.specs.declared.unit.LinkRules.{LinkRules}
use Rattle.flash_plan.specs.declared.unit.UnitPlan.{UnitPlan}
use Rattle.flash_plan.specs.declared.unit.Wanted.{Wanted}
use Rattle.run_model.specs.Link.{Link}
use Rattle.run_model.specs.Link as phase
use Rattle.run_model.specs.Script.{Place, AtIdent, AtBegin, AtProgram, AtSeed, AtKey, AtErase, AtDownload, AtBlock, AtExit, AtCheck, AtMark, AtFinish, AtReset, AtDone, AtEnd, idents_from, start_place}
use Rattle.run_model.specs.Talk.{Talk, talk_lost, keeps_on_loss}
use Rattle.flash_run.specs.Run.{IsSettled, is_closing, is_complete_entry}
use Rattle.flash_run.proofs.Settled.{link_free}

-- ------ one conversation
start_end : (plan : UnitPlan) (begun : Bool) (o : Outcome) → is_end (start_place plan begun) o ≡ false
start_end plan true o = refl
start_end plan false o = idents plan.idents
  where
    idents : (ws : List Wanted) → is_end (idents_from ws) o ≡ false
    idents [] = refl
    idents (w ∷ ws) = refl

start_done : (plan : UnitPlan) (begun : Bool) → is_done (start_place plan begun) ≡ false
start_done plan true = refl
start_done plan false = idents plan.idents
  where
    idents : (ws : List Wanted) → is_done (idents_from ws) ≡ false
    idents [] = refl
    idents (w ∷ ws) = refl

-- a place at which an attempt starts again is neither done nor an end
again_end : (p : Place) (o : Outcome) → keeps_on_loss p ≡ false → is_end p o ≡ false
again_end (AtIdent w ws) o e = refl
again_end AtBegin o e = refl
again_end AtProgram o e = refl
again_end (AtSeed level) o e = refl
again_end (AtKey level seed) o e = refl
again_end (AtErase c) o e = refl
again_end (AtDownload c) o e = refl
again_end (AtBlock c b) o e = refl
again_end (AtExit c) o e = refl
again_end (AtCheck c) o e = refl
again_end (AtMark c) o e = refl
again_end AtFinish o e = refl
again_end AtReset o e = refl
again_end AtDone o e = refl
again_end (AtEnd x) o e = absurd (false≢true (sym e))

again_done : (p : Place) → keeps_on_loss p ≡ false → is_done p ≡ false
again_done (AtIdent w ws) e = refl
again_done AtBegin e = refl
again_done AtProgram e = refl
again_done (AtSeed level) e = refl
again_done (AtKey level seed) e = refl
again_done (AtErase c) e = refl
again_done (AtDownload c) e = refl
again_done (AtBlock c b) e = refl
again_done (AtExit c) e = refl
again_done (AtCheck c) e = refl
again_done (AtMark c) e = refl
again_done AtFinish e = refl
again_done AtReset e = refl
again_done AtDone e = absurd (false≢true (sym e))
again_done (AtEnd x) e = refl

pub lost_end : (plan : UnitPlan) (begun : Bool) (t : Talk) (o : Outcome) → is_end (talk_lost plan begun t).place o ≡ is_end t.place o
lost_end plan begun t o = elim (cases_Bool (keeps_on_loss t.place)) [
  | inl e ↦ rw e refl
  | inr e ↦ rw e (start_end plan begun o ∙ sym (again_end t.place o e))
]

pub lost_done : (plan : UnitPlan) (begun : Bool) (t : Talk) → is_done (talk_lost plan begun t).place ≡ is_done t.place
lost_done plan begun t = elim (cases_Bool (keeps_on_loss t.place)) [
  | inl e ↦ rw e refl
  | inr e ↦ rw e (start_done plan begun ∙ sym (again_done t.place e))
]

-- ------ what is allowed
blocker_same : (P : List UnitPlan) (c : Core) (ws : List ℕ) (by : ℕ) → is_blocker (shut P c) ws by ≡ is_blocker c ws by
blocker_same P c [] by = refl
blocker_same P c (w ∷ ws) by = ap (λ (b : Bool). if c.recorded (entry.Complete w) then b else w == by && is_some (c.slots w).outcome) (blocker_same P c ws by)

blocked_same : (P : List UnitPlan) (c : Core) (u : ℕ) (o : Outcome) → is_blocked P (shut P c) u o ≡ is_blocked P c u o
blocked_same P c u (outcome.Blocked by) = blocker_same P c (plan_of P u).after by
blocked_same P c u outcome.Complete = refl
blocked_same P c u (outcome.IdentMismatch did) = refl
blocked_same P c u (outcome.Refused sid nrc) = refl
blocked_same P c u (outcome.BadAnswer sid) = refl
blocked_same P c u (outcome.CheckFailed routine segment status) = refl
blocked_same P c u (outcome.Undelivered code) = refl
blocked_same P c u (outcome.NoAnswer sid) = refl
blocked_same P c u (outcome.PendingLimit sid) = refl
blocked_same P c u (outcome.BusyLimit sid) = refl
blocked_same P c u (outcome.LinkLost times) = refl
blocked_same P c u (outcome.LinkRefused code) = refl
blocked_same P c u outcome.DiskFault = refl
blocked_same P c u outcome.NoMemory = refl

recorded_same : (P : List UnitPlan) (c : Core) (u : ℕ) (x : Entry) → is_complete_entry x ≡ true → is_allowed P (shut P c) (DiskFailed u x) ≡ is_allowed P c (DiskFailed u x)
recorded_same P c u (entry.Begun w) e = absurd (false≢true e)
recorded_same P c u (entry.Marked w s) e = absurd (false≢true e)
recorded_same P c u (entry.Complete w) e =
    ap (λ (b : Bool). w == u && (is_open_unit P c u && b && not c.before.failed)) (lost_done (plan_of P u) (c.recorded (entry.Begun u)) (c.slots u).talk)

pub same_allowed : (P : List UnitPlan) (c : Core) (e : Event) → is_closing e ≡ true → is_allowed P (shut P c) e ≡ is_allowed P c e
same_allowed P c (Claimed u) is = absurd (false≢true is)
same_allowed P c (Began u) is = absurd (false≢true is)
same_allowed P c (Sent u place lost) is = absurd (false≢true is)
same_allowed P c (Collected u h) is = absurd (false≢true is)
same_allowed P c (Tended step) is = absurd (false≢true is)
same_allowed P c (Marked u s) is = absurd (false≢true is)
same_allowed P c (Completed u) is = ap (λ (b : Bool). is_open_unit P c u && b && not c.halt.failed) (lost_done (plan_of P u) (c.recorded (entry.Begun u)) (c.slots u).talk)
same_allowed P c (DiskFailed u x) is = recorded_same P c u x is
same_allowed P c (Ended u o) is =
    ap (λ (b : Bool). nat_lt u (count_of P) && is_none (c.slots u).outcome && (((c.slots u).claimed && b) || (if (c.slots u).faulted then same_outcome outcome.DiskFault o else is_stop c.halt.stop o) || is_memory o || is_blocked P (shut P c) u o))
    (lost_end (plan_of P u) (c.recorded (entry.Begun u)) (c.slots u).talk o)
    ∙ ap (λ (b : Bool). nat_lt u (count_of P) && is_none (c.slots u).outcome && (((c.slots u).claimed && is_end (c.slots u).talk.place o) || (if (c.slots u).faulted then same_outcome outcome.DiskFault o else is_stop c.halt.stop o) || is_memory o || b))
    (blocked_same P c u o)

-- ------ what the event makes
with_lost : (P : List UnitPlan) (R : Entry → Bool) (u : ℕ) (s t : Slot) (slots : ℕ → Slot) (n : ℕ) → t ≡ with_talk (talk_lost (plan_of P u) (R (entry.Begun u))) s → with_slot u t (slots_lost P R true slots) n ≡ slots_lost P R true (with_slot u s slots) n
with_lost P R u s t slots n is = elim (cases_Bool (n == u)) [
  | inl e ↦ rw e (is ∙ ap (λ (k : ℕ). with_talk (talk_lost (plan_of P k) (R (entry.Begun k))) s) (sym (eqb-true n u e)))
  | inr e ↦ rw e refl
]

-- the link stops nothing that it did not stop before
shut_stop : (o : Option Outcome) (e : Event) (rules : LinkRules) (l : Link) → (o ≡ None → refused_stop l.phase ≡ None) → stop_after o e rules (record l { phase = phase.Down; rest = []; inbox = [] }) ≡ stop_after o e rules l
shut_stop (Some x) e rules l free = refl
shut_stop None e rules l free = ap (λ (x : Option Outcome). if is_disk_failure e then Some outcome.DiskFault else (if nat_lt rules.relinks l.losses then Some (outcome.LinkLost l.losses) else x)) (sym (free refl))

core_path : (a b : Core) → a.link ≡ b.link → ((n : ℕ) → a.slots n ≡ b.slots n) → a.recorded ≡ b.recorded → a.doubted ≡ b.doubted → a.halt ≡ b.halt → a.before ≡ b.before → a ≡ b
core_path a b l s r d h f = λ i. record { link = l i; slots = λ n. s n i; recorded = r i; doubted = d i; halt = h i; before = f i }

lost_twice : (P : List UnitPlan) (R : Entry → Bool) (lost : Bool) (slots slots2 : ℕ → Slot) (n : ℕ) → lost ≡ false → slots n ≡ slots_lost P R true slots2 n → slots_lost P R lost slots n ≡ slots_lost P R true (slots_lost P R lost slots2) n
lost_twice P R true slots slots2 n not_lost is = absurd (false≢true (sym not_lost))
lost_twice P R false slots slots2 n not_lost is = is

halt_same : (h : Halt) (e : Event) (rules : LinkRules) (l : Link) → (h.stop ≡ None → refused_stop l.phase ≡ None) → halt_after h e rules (record l { phase = phase.Down; rest = []; inbox = [] }) ≡ halt_after h e rules l
halt_same h e rules l free = ap (λ (o : Option Outcome). record { stop = o; failed = is_disk_failure e || h.failed }) (shut_stop h.stop e rules l free)

never : (n : ℕ) → nat_lt n n ≡ false
never n = le-ltb n n (omega arith)

pub same_after : (rules : LinkRules) (P : List UnitPlan) (c : Core) (e : Event) → IsSettled rules c → is_closing e ≡ true → core_after rules P e (shut P c) ≡ shut P (core_after rules P e c)
same_after rules P c (Claimed u) settled is = absurd (false≢true is)
same_after rules P c (Began u) settled is = absurd (false≢true is)
same_after rules P c (Sent u place lost) settled is = absurd (false≢true is)
same_after rules P c (Collected u h) settled is = absurd (false≢true is)
same_after rules P c (Tended step) settled is = absurd (false≢true is)
same_after rules P c (Marked u s) settled is = absurd (false≢true is)
same_after rules P c (Completed u) settled is =
    core_path (core_after rules P (Completed u) (shut P c)) (shut P (core_after rules P (Completed u) c)) refl
    (λ n. lost_twice P (recorded_after (Completed u) c.recorded) (nat_lt c.link.losses c.link.losses) (slots_own rules P (Completed u) (shut P c)) (slots_own rules P (Completed u) c) n (never c.link.losses)
    (with_lost P c.recorded u (record (c.slots u) { outcome = Some outcome.Complete }) (record (with_talk (talk_lost (plan_of P u) (c.recorded (entry.Begun u))) (c.slots u)) { outcome = Some outcome.Complete }) c.slots n refl))
    refl refl (halt_same c.halt (Completed u) rules c.link (λ none. link_free rules c.link (settled.running none))) (halt_same c.halt (Completed u) rules c.link (λ none. link_free rules c.link (settled.running none)))
same_after rules P c (DiskFailed u x) settled is =
    core_path (core_after rules P (DiskFailed u x) (shut P c)) (shut P (core_after rules P (DiskFailed u x) c)) refl
    (λ n. lost_twice P (recorded_after (DiskFailed u x) c.recorded) (nat_lt c.link.losses c.link.losses) (slots_own rules P (DiskFailed u x) (shut P c)) (slots_own rules P (DiskFailed u x) c) n (never c.link.losses)
    (with_lost P c.recorded u (record (c.slots u) { faulted = true }) (record (with_talk (talk_lost (plan_of P u) (c.recorded (entry.Begun u))) (c.slots u)) { faulted = true }) c.slots n refl))
    refl refl (halt_same c.halt (DiskFailed u x) rules c.link (λ none. link_free rules c.link (settled.running none))) refl
same_after rules P c (Ended u o) settled is =
    core_path (core_after rules P (Ended u o) (shut P c)) (shut P (core_after rules P (Ended u o) c)) refl
    (λ n. lost_twice P (recorded_after (Ended u o) c.recorded) (nat_lt c.link.losses c.link.losses) (slots_own rules P (Ended u o) (shut P c)) (slots_own rules P (Ended u o) c) n (never c.link.losses)
    (with_lost P c.recorded u (record (c.slots u) { outcome = Some o }) (record (with_talk (talk_lost (plan_of P u) (c.recorded (entry.Begun u))) (c.slots u)) { outcome = Some o }) c.slots n refl))
    refl refl (halt_same c.halt (Ended u o) rules c.link (λ none. link_free rules c.link (settled.running none))) (halt_same c.halt (Ended u o) rules c.link (λ none. link_free rules c.link (settled.running none)))
