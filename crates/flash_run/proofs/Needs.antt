-- The call that is due, by what is kept of a run that was stopped for want of memory.
use Rattle.std.proofs.Common.{◌≡◌, inl, inr, ℕ, true, false, List, [], ◌∷◌, refl, sym, ◌∙◌, ap}
use Rattle.std.specs.Prelude.{Bool, not, ◌&&◌, ◌||◌, is_some, if◌then◌else◌}
use Rattle.std.proofs.lemmas.Bool.{cases_Bool, false≢true}
use Rattle.bay_core.specs.Core.{Core}
use Rattle.bay_replay.specs.Held.{shut}
use Rattle.flash_plan.specs.Plan.{plan_of}
use Rattle.flash_plan.specs.declared.outcome.Entry.TheVariants.{Begun}
use Rattle.flash_plan.specs.declared.outcome.Outcome.{Outcome}
use Rattle.flash_plan.specs.declared.unit.UnitPlan.{UnitPlan}
use Rattle.flash_plan.specs.declared.unit.Wanted.{Wanted}
use Rattle.run_model.specs.Script.{Place, AtIdent, AtBegin, AtProgram, AtSeed, AtKey, AtErase, AtDownload, AtBlock, AtExit, AtCheck, AtMark, AtFinish, AtReset, AtDone, AtEnd, idents_from, start_place, ask_at}
use Rattle.run_model.specs.Talk.{Talk, talk_lost, talk_start, keeps_on_loss}
use Rattle.unit_session.specs.Session.{ask_of, asked}
use Rattle.unit_session.specs.declared.session.Ask.{Ask}
use Rattle.unit_session.specs.declared.session.Ask.TheVariants as ask
use Rattle.flash_run.specs.Need.{ask_in, seen_ask, says_done, says_ended, says_mark, step_of, need_by, need_of, is_linked, ended_or}
use Rattle.flash_run.specs.Run.{RunState, core_of_run, seen_core, is_open, is_stopped}
use Rattle.flash_run.specs.declared.need.Need.{Need}
use Rattle.flash_run.specs.declared.need.Need.TheVariants as need

-- ------ what asks neither for a mark nor for an end looks the same after a loss
module _ {X : Type 0} (f : Ask → X) (plan : UnitPlan) (waits : f ask.Wait ≡ f ask.Send) (begins : f ask.Begin ≡ f ask.Send) where
  start_ask : (begun : Bool) → f (asked false (ask_at plan (start_place plan begun))) ≡ f ask.Send
  start_ask true = refl
  start_ask false = idents plan.idents
    where
      idents : (ws : List Wanted) → f (asked false (ask_at plan (idents_from ws))) ≡ f ask.Send
      idents [] = begins
      idents (w ∷ ws) = refl

  again_ask : (p : Place) (awaiting : Bool) → keeps_on_loss p ≡ false → f (asked awaiting (ask_at plan p)) ≡ f ask.Send
  again_ask (AtIdent w ws) true e = waits
  again_ask (AtIdent w ws) false e = refl
  again_ask AtBegin aw e = absurd (false≢true (sym e))
  again_ask AtProgram true e = waits
  again_ask AtProgram false e = refl
  again_ask (AtSeed level) true e = waits
  again_ask (AtSeed level) false e = refl
  again_ask (AtKey level seed) true e = waits
  again_ask (AtKey level seed) false e = refl
  again_ask (AtErase c) true e = waits
  again_ask (AtErase c) false e = refl
  again_ask (AtDownload c) true e = waits
  again_ask (AtDownload c) false e = refl
  again_ask (AtBlock c b) true e = waits
  again_ask (AtBlock c b) false e = refl
  again_ask (AtExit c) true e = waits
  again_ask (AtExit c) false e = refl
  again_ask (AtCheck c) true e = waits
  again_ask (AtCheck c) false e = refl
  again_ask (AtMark c) aw e = absurd (false≢true (sym e))
  again_ask AtFinish true e = waits
  again_ask AtFinish false e = refl
  again_ask AtReset true e = waits
  again_ask AtReset false e = refl
  again_ask AtDone aw e = absurd (false≢true (sym e))
  again_ask (AtEnd outcome) aw e = absurd (false≢true (sym e))

  pub lost_ask : (begun : Bool) (t : Talk) → f (ask_of plan (talk_lost plan begun t)) ≡ f (ask_of plan t)
  lost_ask begun t = elim (cases_Bool (keeps_on_loss t.place)) [
    | inl e ↦ rw e refl
    | inr e ↦ ap (λ (b : Bool). f (ask_of plan (if b then t else talk_start plan begun t.marks))) e ∙ start_ask begun ∙ sym (again_ask t.place t.awaiting e)
  ]

seen_same : {X : Type 0} (f : Ask → X) (r : RunState) (u : ℕ) → f ask.Wait ≡ f ask.Send → f ask.Begin ≡ f ask.Send → f (seen_ask r u) ≡ f (ask_in r u)
seen_same f r u waits begins = by r.starved
  where
    by : (starved : Bool) → f (ask_of (plan_of r.plan u) ((seen_core r.plan starved (core_of_run r)).slots u).talk) ≡ f (ask_in r u)
    by true = lost_ask f (plan_of r.plan u) waits begins ((core_of_run r).recorded (Begun u)) ((core_of_run r).slots u).talk
    by false = refl

-- ------ the call that is due
ends_by : (x : Bool) (n : Need) → (if x || true then need.End else n) ≡ need.End
ends_by true n = refl
ends_by false n = refl

pub stopped_by : (failed linked : Bool) (a : Ask) → need_by failed true linked a ≡ (if says_done a && not failed then need.Complete else need.End)
stopped_by failed linked a =
    ap (λ (n : Need). if says_done a && not failed then need.Complete else n) (ends_by (says_ended a) (if says_mark a then need.Mark else if not linked then need.Tend else step_of a))

stopped_need : (failed linked linked2 : Bool) (a a2 : Ask) → says_done a ≡ says_done a2 → need_by failed true linked a ≡ need_by failed true linked2 a2
stopped_need failed linked linked2 a a2 same =
    stopped_by failed linked a ∙ ap (λ (b : Bool). if b && not failed then need.Complete else need.End) same ∙ sym (stopped_by failed linked2 a2)

pub need_seen : (r : RunState) (u : ℕ) → need_by (core_of_run r).halt.failed (is_stopped r) (is_linked (seen_core r.plan r.starved (core_of_run r))) (seen_ask r u)
    ≡ need_by (core_of_run r).halt.failed (is_stopped r) (is_linked (core_of_run r)) (ask_in r u)
need_seen r u = by r.starved
  where
    by : (starved : Bool) → need_by (core_of_run r).halt.failed (starved || is_some (core_of_run r).halt.stop) (is_linked (seen_core r.plan starved (core_of_run r))) (ask_of (plan_of r.plan u) ((seen_core r.plan starved (core_of_run r)).slots u).talk)
        ≡ need_by (core_of_run r).halt.failed (starved || is_some (core_of_run r).halt.stop) (is_linked (core_of_run r)) (ask_in r u)
    by true =
        stopped_need (core_of_run r).halt.failed (is_linked (shut r.plan (core_of_run r))) (is_linked (core_of_run r)) (ask_of (plan_of r.plan u) ((shut r.plan (core_of_run r)).slots u).talk) (ask_in r u)
        (lost_ask says_done (plan_of r.plan u) refl refl ((core_of_run r).recorded (Begun u)) ((core_of_run r).slots u).talk)
    by false = refl

pub need_open : (r : RunState) (u : ℕ) (n : Need) → is_open r u ≡ true → n ≡ need_by (core_of_run r).halt.failed (is_stopped r) (is_linked (core_of_run r)) (ask_in r u) → n ≡ need_of r u
need_open r u n opens is = is ∙ sym (at_once (is_open r u) (need_by (core_of_run r).halt.failed (is_stopped r) (is_linked (core_of_run r)) (ask_in r u)) opens)
  where
    at_once : (b : Bool) (x : Need) → b ≡ true → (if b then x else need.Gone) ≡ x
    at_once true x e = refl
    at_once false x e = absurd (false≢true e)

pub need_gone : (r : RunState) (u : ℕ) → is_open r u ≡ false → need.Gone ≡ need_of r u
need_gone r u shuts = sym (none (is_open r u) (need_by (core_of_run r).halt.failed (is_stopped r) (is_linked (core_of_run r)) (ask_in r u)) shuts)
  where
    none : (b : Bool) (x : Need) → b ≡ false → (if b then x else need.Gone) ≡ need.Gone
    none true x e = absurd (false≢true (sym e))
    none false x e = refl

-- ------ outcomes
pub due_seen : (r : RunState) (u : ℕ) (o : Outcome) → ended_or (seen_ask r u) o ≡ ended_or (ask_in r u) o
due_seen r u o = seen_same (λ (a : Ask). ended_or a o) r u refl refl

pub stop_seen : (P : List UnitPlan) (c : Core) (starved : Bool) → (seen_core P starved c).halt ≡ c.halt
stop_seen P c true = refl
stop_seen P c false = refl

pub faulted_seen : (P : List UnitPlan) (c : Core) (starved : Bool) (u : ℕ) → ((seen_core P starved c).slots u).faulted ≡ (c.slots u).faulted
faulted_seen P c true u = refl
faulted_seen P c false u = refl
