-- The call that is due is allowed.
use Rattle.std.proofs.Common.{◌≡◌, ◌≢◌, ◌⊎◌, inl, inr, ℕ, true, false, length, None, Some, refl, sym, ◌∙◌, ap}
use Rattle.std.specs.Prelude.{Bool, Option, not, ◌&&◌, ◌||◌, ◌==◌, nat_lt, is_some, is_none, if◌then◌else◌}
use Rattle.std.proofs.lemmas.Bool.{cases_Bool, false≢true, and_parts, and_from, eq-eqb}
use Rattle.bay_core.specs.Core.{Core}
use Rattle.bay_core.specs.Legal.{is_begin, is_mark, is_done, is_end, is_stop, is_memory, is_blocked, is_clear, is_running, has_message, fits_inbox}
use Rattle.bay_core.specs.declared.event.Event.TheVariants.{Began, Sent, Collected, Marked, Completed, Ended}
use Rattle.bay_core.specs.declared.event.Heard.{Heard}
use Rattle.flash_plan.specs.Outcomes.{same_outcome}
use Rattle.flash_plan.specs.Plan.{plan_of, count_of}
use Rattle.flash_plan.specs.declared.outcome.Entry.TheVariants as entry
use Rattle.flash_plan.specs.declared.outcome.Outcome.{Outcome}
use Rattle.flash_plan.specs.declared.outcome.Outcome.TheVariants as outcome
use Rattle.flash_plan.specs.declared.unit.UnitPlan.{UnitPlan}
use Rattle.run_model.specs.Script.{Place, AtIdent, AtBegin, AtProgram, AtSeed, AtKey, AtErase, AtDownload, AtBlock, AtExit, AtCheck, AtMark, AtFinish, AtReset, AtDone, AtEnd, ask_at, request_at}
use Rattle.unit_session.specs.Session.{asked}
use Rattle.unit_session.specs.declared.session.Ask.{Ask}
use Rattle.unit_session.specs.declared.session.Ask.TheVariants as ask
use Rattle.flash_run.specs.Need.{ask_in, says_done, says_ended, says_mark, step_of, need_by, need_of, is_linked, stop_or, stop_for, ended_or, due_outcome, AreDue}
use Rattle.flash_run.specs.Run.{RunState, IsKept, core_of_run, is_open, is_stopped, is_early, may_take}
use Rattle.flash_run.specs.declared.need.Need.{Need}
use Rattle.flash_run.specs.declared.need.Need.TheVariants as need

-- ------ what an ask says of the place
module _ (u : UnitPlan) where
  begin_at : (aw : Bool) (p : Place) → asked aw (ask_at u p) ≡ ask.Begin → is_begin p ≡ true
  begin_at true p e = absurd (cc)
  begin_at false (AtIdent w ws) e = absurd (cc)
  begin_at false AtBegin e = refl
  begin_at false AtProgram e = absurd (cc)
  begin_at false (AtSeed level) e = absurd (cc)
  begin_at false (AtKey level seed) e = absurd (cc)
  begin_at false (AtErase c) e = absurd (cc)
  begin_at false (AtDownload c) e = absurd (cc)
  begin_at false (AtBlock c b) e = absurd (cc)
  begin_at false (AtExit c) e = absurd (cc)
  begin_at false (AtCheck c) e = absurd (cc)
  begin_at false (AtMark c) e = absurd (cc)
  begin_at false AtFinish e = absurd (cc)
  begin_at false AtReset e = absurd (cc)
  begin_at false AtDone e = absurd (cc)
  begin_at false (AtEnd outcome) e = absurd (cc)

  send_at : (aw : Bool) (p : Place) → asked aw (ask_at u p) ≡ ask.Send → (aw ≡ false) × (is_some (request_at u p) ≡ true)
  send_at true p e = absurd (cc)
  send_at false (AtIdent w ws) e = (refl, refl)
  send_at false AtBegin e = absurd (cc)
  send_at false AtProgram e = (refl, refl)
  send_at false (AtSeed level) e = (refl, refl)
  send_at false (AtKey level seed) e = (refl, refl)
  send_at false (AtErase c) e = (refl, refl)
  send_at false (AtDownload c) e = (refl, refl)
  send_at false (AtBlock c b) e = (refl, refl)
  send_at false (AtExit c) e = (refl, refl)
  send_at false (AtCheck c) e = (refl, refl)
  send_at false (AtMark c) e = absurd (cc)
  send_at false AtFinish e = (refl, refl)
  send_at false AtReset e = (refl, refl)
  send_at false AtDone e = absurd (cc)
  send_at false (AtEnd outcome) e = absurd (cc)

  wait_at : (aw : Bool) (p : Place) → asked aw (ask_at u p) ≡ ask.Wait → aw ≡ true
  wait_at true p e = refl
  wait_at false (AtIdent w ws) e = absurd (cc)
  wait_at false AtBegin e = absurd (cc)
  wait_at false AtProgram e = absurd (cc)
  wait_at false (AtSeed level) e = absurd (cc)
  wait_at false (AtKey level seed) e = absurd (cc)
  wait_at false (AtErase c) e = absurd (cc)
  wait_at false (AtDownload c) e = absurd (cc)
  wait_at false (AtBlock c b) e = absurd (cc)
  wait_at false (AtExit c) e = absurd (cc)
  wait_at false (AtCheck c) e = absurd (cc)
  wait_at false (AtMark c) e = absurd (cc)
  wait_at false AtFinish e = absurd (cc)
  wait_at false AtReset e = absurd (cc)
  wait_at false AtDone e = absurd (cc)
  wait_at false (AtEnd outcome) e = absurd (cc)

  mark_at : (aw : Bool) (p : Place) (s : ℕ) → asked aw (ask_at u p) ≡ ask.Mark s → is_mark s p ≡ true
  mark_at true p s e = absurd (cc)
  mark_at false (AtIdent w ws) s e = absurd (cc)
  mark_at false AtBegin s e = absurd (cc)
  mark_at false AtProgram s e = absurd (cc)
  mark_at false (AtSeed level) s e = absurd (cc)
  mark_at false (AtKey level seed) s e = absurd (cc)
  mark_at false (AtErase c) s e = absurd (cc)
  mark_at false (AtDownload c) s e = absurd (cc)
  mark_at false (AtBlock c b) s e = absurd (cc)
  mark_at false (AtExit c) s e = absurd (cc)
  mark_at false (AtCheck c) s e = absurd (cc)
  mark_at false (AtMark c) s e = let is : length c.done ≡ s = cc in eq-eqb (length c.done) s is
  mark_at false AtFinish s e = absurd (cc)
  mark_at false AtReset s e = absurd (cc)
  mark_at false AtDone s e = absurd (cc)
  mark_at false (AtEnd outcome) s e = absurd (cc)

  done_at : (aw : Bool) (p : Place) → says_done (asked aw (ask_at u p)) ≡ true → is_done p ≡ true
  done_at true p e = absurd (false≢true e)
  done_at false (AtIdent w ws) e = absurd (false≢true e)
  done_at false AtBegin e = absurd (false≢true e)
  done_at false AtProgram e = absurd (false≢true e)
  done_at false (AtSeed level) e = absurd (false≢true e)
  done_at false (AtKey level seed) e = absurd (false≢true e)
  done_at false (AtErase c) e = absurd (false≢true e)
  done_at false (AtDownload c) e = absurd (false≢true e)
  done_at false (AtBlock c b) e = absurd (false≢true e)
  done_at false (AtExit c) e = absurd (false≢true e)
  done_at false (AtCheck c) e = absurd (false≢true e)
  done_at false (AtMark c) e = absurd (false≢true e)
  done_at false AtFinish e = absurd (false≢true e)
  done_at false AtReset e = absurd (false≢true e)
  done_at false AtDone e = refl
  done_at false (AtEnd outcome) e = absurd (false≢true e)

pub same_self : (o : Outcome) → same_outcome o o ≡ true
same_self outcome.Complete = refl
same_self (outcome.IdentMismatch a) = eq-eqb a a refl
same_self (outcome.Refused a b) = and_from _ _ (eq-eqb a a refl) (eq-eqb b b refl)
same_self (outcome.BadAnswer a) = eq-eqb a a refl
same_self (outcome.CheckFailed a b c) = and_from _ _ (and_from _ _ (eq-eqb a a refl) (eq-eqb b b refl)) (eq-eqb c c refl)
same_self (outcome.Undelivered a) = eq-eqb a a refl
same_self (outcome.NoAnswer a) = eq-eqb a a refl
same_self (outcome.PendingLimit a) = eq-eqb a a refl
same_self (outcome.BusyLimit a) = eq-eqb a a refl
same_self (outcome.LinkLost a) = eq-eqb a a refl
same_self (outcome.LinkRefused a) = eq-eqb a a refl
same_self (outcome.Blocked a) = eq-eqb a a refl
same_self outcome.DiskFault = refl
same_self outcome.NoMemory = refl

-- a conversation that has ended says with which outcome, and another leaves the outcome that it is given
ended_at : (u : UnitPlan) (aw : Bool) (p : Place) (o : Outcome) → says_ended (asked aw (ask_at u p)) ≡ true → is_end p (ended_or (asked aw (ask_at u p)) o) ≡ true
ended_at u true p o e = absurd (false≢true e)
ended_at u false (AtIdent w ws) o e = absurd (false≢true e)
ended_at u false AtBegin o e = absurd (false≢true e)
ended_at u false AtProgram o e = absurd (false≢true e)
ended_at u false (AtSeed level) o e = absurd (false≢true e)
ended_at u false (AtKey level seed) o e = absurd (false≢true e)
ended_at u false (AtErase c) o e = absurd (false≢true e)
ended_at u false (AtDownload c) o e = absurd (false≢true e)
ended_at u false (AtBlock c b) o e = absurd (false≢true e)
ended_at u false (AtExit c) o e = absurd (false≢true e)
ended_at u false (AtCheck c) o e = absurd (false≢true e)
ended_at u false (AtMark c) o e = absurd (false≢true e)
ended_at u false AtFinish o e = absurd (false≢true e)
ended_at u false AtReset o e = absurd (false≢true e)
ended_at u false AtDone o e = absurd (false≢true e)
ended_at u false (AtEnd x) o e = same_self x

not_ended : (a : Ask) (o : Outcome) → says_ended a ≡ false → ended_or a o ≡ o
not_ended ask.Begin o e = refl
not_ended ask.Send o e = refl
not_ended ask.Wait o e = refl
not_ended (ask.Mark s) o e = refl
not_ended ask.Done o e = refl
not_ended (ask.Ended x) o e = absurd (false≢true (sym e))

-- ------ what a need says
abbrev is_step : Need → Bool
is_step need.Begin = true
is_step need.Send = true
is_step need.Collect = true
is_step n = false

other : {X : Type 0} (m n : Need) (b : Bool) → m ≡ n → is_step m ≡ false → is_step n ≡ true → X
other m n b e is_not is_one = absurd (false≢true (sym is_not ∙ ap is_step e ∙ is_one))

step_by : (done stopped marks linked : Bool) (x n : Need) → (if done then need.Complete else if stopped then need.End else if marks then need.Mark else if not linked then need.Tend else x) ≡ n → is_step n ≡ true
    → (stopped ≡ false) × (linked ≡ true) × (x ≡ n)
step_by true s m l x n e is = other need.Complete n true e refl is
step_by false true m l x n e is = other need.End n true e refl is
step_by false false true l x n e is = other need.Mark n true e refl is
step_by false false false true x n e is = (refl, refl, e)
step_by false false false false x n e is = other need.Tend n true e refl is

or_none : (a b : Bool) → (a || b) ≡ false → b ≡ false
or_none true b e = absurd (false≢true (sym e))
or_none false b e = e

open_need : (r : RunState) (u : ℕ) (n : Need) → need_of r u ≡ n → (n ≡ need.Gone → ⊥)
    → (is_open r u ≡ true) × (need_by (core_of_run r).halt.failed (is_stopped r) (is_linked (core_of_run r)) (ask_in r u) ≡ n)
open_need r u n is some = by (is_open r u) is
  where
    by : (b : Bool) → (if b then need_by (core_of_run r).halt.failed (is_stopped r) (is_linked (core_of_run r)) (ask_in r u) else need.Gone) ≡ n
        → (b ≡ true) × (need_by (core_of_run r).halt.failed (is_stopped r) (is_linked (core_of_run r)) (ask_in r u) ≡ n)
    by true e = (refl, e)
    by false e = absurd (some (sym e))

step_need : (r : RunState) (u : ℕ) (n : Need) → need_of r u ≡ n → is_step n ≡ true → (is_open r u ≡ true) × (is_stopped r ≡ false) × (is_linked (core_of_run r) ≡ true) × (step_of (ask_in r u) ≡ n)
step_need r u n is step =
    let o = open_need r u n is (λ e. other need.Gone n true (sym e) refl step) in
    let a : Ask = ask_in r u in
    let s = step_by (says_done a && not (core_of_run r).halt.failed) (says_ended a || is_stopped r) (says_mark a) (is_linked (core_of_run r)) (step_of a) n o.1 step in
    (o.0, or_none (says_ended a) (is_stopped r) s.0, s.1, s.2)

step_begin : (a : Ask) → step_of a ≡ need.Begin → a ≡ ask.Begin
step_begin ask.Begin e = refl
step_begin ask.Send e = absurd (cc)
step_begin ask.Wait e = absurd (cc)
step_begin (ask.Mark s) e = absurd (cc)
step_begin ask.Done e = absurd (cc)
step_begin (ask.Ended x) e = absurd (cc)

step_send : (a : Ask) → step_of a ≡ need.Send → a ≡ ask.Send
step_send ask.Begin e = absurd (cc)
step_send ask.Send e = refl
step_send ask.Wait e = absurd (cc)
step_send (ask.Mark s) e = absurd (cc)
step_send ask.Done e = absurd (cc)
step_send (ask.Ended x) e = absurd (cc)

step_wait : (a : Ask) → step_of a ≡ need.Collect → a ≡ ask.Wait
step_wait ask.Begin e = absurd (cc)
step_wait ask.Send e = absurd (cc)
step_wait ask.Wait e = refl
step_wait (ask.Mark s) e = absurd (cc)
step_wait ask.Done e = absurd (cc)
step_wait (ask.Ended x) e = absurd (cc)

-- ------ a run that is not stopped
fed_run : (r : RunState) → is_stopped r ≡ false → (r.starved ≡ false) × (is_running (core_of_run r) ≡ true)
fed_run r is = by r.starved (core_of_run r).halt.stop is
  where
    by : (b : Bool) (o : Option Outcome) → (b || is_some o) ≡ false → (b ≡ false) × (is_none o ≡ true)
    by true o e = absurd (false≢true (sym e))
    by false None e = (refl, refl)
    by false (Some x) e = absurd (false≢true (sym e))

may_fed : (b x : Bool) → b ≡ false → (not b || x) ≡ true
may_fed true x e = absurd (false≢true (sym e))
may_fed false x e = refl

clear_of : (c : Core) → is_running c ≡ true → is_linked c ≡ true → is_clear c ≡ true
clear_of c running linked = let p = and_parts _ _ linked in and_from _ _ (and_from _ _ running p.0) p.1

not_true : (b : Bool) → b ≡ false → not b ≡ true
not_true true e = absurd (false≢true (sym e))
not_true false e = refl

early_begin : (p : Place) → is_begin p ≡ true → is_early p ≡ true
early_begin (AtIdent w ws) e = refl
early_begin AtBegin e = refl
early_begin AtProgram e = absurd (false≢true e)
early_begin (AtSeed level) e = absurd (false≢true e)
early_begin (AtKey level seed) e = absurd (false≢true e)
early_begin (AtErase c) e = absurd (false≢true e)
early_begin (AtDownload c) e = absurd (false≢true e)
early_begin (AtBlock c b) e = absurd (false≢true e)
early_begin (AtExit c) e = absurd (false≢true e)
early_begin (AtCheck c) e = absurd (false≢true e)
early_begin (AtMark c) e = absurd (false≢true e)
early_begin AtFinish e = absurd (false≢true e)
early_begin AtReset e = absurd (false≢true e)
early_begin AtDone e = absurd (false≢true e)
early_begin (AtEnd x) e = absurd (false≢true e)

-- ------ each call that is due
module _ (r : RunState) (kept : IsKept r) where
  begin_due : (u : ℕ) → need_of r u ≡ need.Begin → may_take r (Began u) ≡ true
  begin_due u is =
      let s = step_need r u need.Begin is refl in
      let fed = fed_run r s.1 in
      let at : is_begin ((core_of_run r).slots u).talk.place ≡ true = begin_at (plan_of r.plan u) ((core_of_run r).slots u).talk.awaiting ((core_of_run r).slots u).talk.place (step_begin (ask_in r u) s.3) in
      let fresh : not ((core_of_run r).recorded (entry.Begun u)) ≡ true = not_true _ (kept.settled.early u (early_begin ((core_of_run r).slots u).talk.place at)) in
      and_from _ _ (may_fed r.starved false fed.0) (and_from _ _ (and_from _ _ (and_from _ _ s.0 fresh) at) (clear_of (core_of_run r) fed.1 s.2))

  send_due : (u : ℕ) (lost : Bool) → need_of r u ≡ need.Send → may_take r (Sent u ((core_of_run r).slots u).talk.number lost) ≡ true
  send_due u lost is =
      let s = step_need r u need.Send is refl in
      let fed = fed_run r s.1 in
      let at = send_at (plan_of r.plan u) ((core_of_run r).slots u).talk.awaiting ((core_of_run r).slots u).talk.place (step_send (ask_in r u) s.3) in
      let number : (((core_of_run r).slots u).talk.number == ((core_of_run r).slots u).talk.number) ≡ true = eq-eqb _ _ refl in
      and_from _ _ (may_fed r.starved false fed.0) (and_from _ _ (and_from _ _ (and_from _ _ (and_from _ _ s.0 at.1) number) (not_true _ at.0)) (clear_of (core_of_run r) fed.1 s.2))

  collect_due : (u : ℕ) (h : Heard) → need_of r u ≡ need.Collect → fits_inbox h (has_message r.plan (core_of_run r) u) ≡ true → may_take r (Collected u h) ≡ true
  collect_due u h is fits =
      let s = step_need r u need.Collect is refl in
      let fed = fed_run r s.1 in
      let at = wait_at (plan_of r.plan u) ((core_of_run r).slots u).talk.awaiting ((core_of_run r).slots u).talk.place (step_wait (ask_in r u) s.3) in
      and_from _ _ (may_fed r.starved false fed.0) (and_from _ _ (and_from _ _ (and_from _ _ s.0 at) (clear_of (core_of_run r) fed.1 s.2)) fits)

  mark_by : (done stopped marks linked : Bool) (x : Need) → (if done then need.Complete else if stopped then need.End else if marks then need.Mark else if not linked then need.Tend else x) ≡ need.Mark → is_step x ≡ true ⊎ (x ≡ need.End) ⊎ (marks ≡ true) → stopped ≡ false
  mark_by true s m l x e or = absurd (cc)
  mark_by false true m l x e or = absurd (cc)
  mark_by false false m l x e or = refl

  mark_due : (u s : ℕ) → need_of r u ≡ need.Mark → ask_in r u ≡ ask.Mark s → may_take r (Marked u s) ≡ true
  mark_due u s is asks =
      let o = open_need r u need.Mark is (λ e. cc) in
      let a : Ask = ask_in r u in
      let free : (says_ended a || is_stopped r) ≡ false = mark_by (says_done a && not (core_of_run r).halt.failed) (says_ended a || is_stopped r) (says_mark a) (is_linked (core_of_run r)) (step_of a) o.1 (inr (inr (ap says_mark asks))) in
      let fed = fed_run r (or_none (says_ended a) (is_stopped r) free) in
      let at : is_mark s ((core_of_run r).slots u).talk.place ≡ true = mark_at (plan_of r.plan u) ((core_of_run r).slots u).talk.awaiting ((core_of_run r).slots u).talk.place s asks in
      and_from _ _ (may_fed r.starved false fed.0) (and_from _ _ (and_from _ _ o.0 at) fed.1)

  done_by : (done stopped marks linked : Bool) (a : Ask) → (if done then need.Complete else if stopped then need.End else if marks then need.Mark else if not linked then need.Tend else step_of a) ≡ need.Complete → done ≡ true
  done_by true s m l a e = refl
  done_by false true m l a e = absurd (cc)
  done_by false false true l a e = absurd (cc)
  done_by false false false false a e = absurd (cc)
  done_by false false false true ask.Begin e = absurd (cc)
  done_by false false false true ask.Send e = absurd (cc)
  done_by false false false true ask.Wait e = absurd (cc)
  done_by false false false true (ask.Mark s) e = absurd (cc)
  done_by false false false true ask.Done e = absurd (cc)
  done_by false false false true (ask.Ended x) e = absurd (cc)

  may_any : (b : Bool) → (not b || true) ≡ true
  may_any true = refl
  may_any false = refl

  complete_due : (u : ℕ) → need_of r u ≡ need.Complete → may_take r (Completed u) ≡ true
  complete_due u is =
      let o = open_need r u need.Complete is (λ e. cc) in
      let a : Ask = ask_in r u in
      let d = and_parts _ _ (done_by (says_done a && not (core_of_run r).halt.failed) (says_ended a || is_stopped r) (says_mark a) (is_linked (core_of_run r)) a o.1) in
      let at : is_done ((core_of_run r).slots u).talk.place ≡ true = done_at (plan_of r.plan u) ((core_of_run r).slots u).talk.awaiting ((core_of_run r).slots u).talk.place d.0 in
      and_from _ _ (may_any r.starved) (and_from _ _ (and_from _ _ o.0 at) d.1)

  -- ------ ends
  or_left : (a b : Bool) → a ≡ true → (a || b) ≡ true
  or_left true b e = refl
  or_left false b e = absurd (false≢true e)

  or_right : (a b : Bool) → b ≡ true → (a || b) ≡ true
  or_right true b e = refl
  or_right false b e = e

  end_by : (ended stopped marks linked : Bool) (a : Ask) (failed : Bool) → (if says_done a && not failed then need.Complete else if ended || stopped then need.End else if marks then need.Mark else if not linked then need.Tend else step_of a) ≡ need.End
      → (marks ≡ says_mark a) → (ended ≡ says_ended a) → (failed ≡ true → stopped ≡ true) → (ended ≡ true) ⊎ (stopped ≡ true)
  end_by true s m l a f e ms es fs = inl refl
  end_by false true m l a f e ms es fs = inr refl
  end_by false false m l ask.Begin f e ms es fs = absurd (none m l e (sym ms))
    where
      none : (m l : Bool) → (if m then need.Mark else if not l then need.Tend else need.Begin) ≡ need.End → false ≡ m → ⊥
      none true l e' ms' = cc
      none false true e' ms' = cc
      none false false e' ms' = cc
  end_by false false m l ask.Send f e ms es fs = absurd (none m l e)
    where
      none : (m l : Bool) → (if m then need.Mark else if not l then need.Tend else need.Send) ≡ need.End → ⊥
      none true l e' = cc
      none false true e' = cc
      none false false e' = cc
  end_by false false m l ask.Wait f e ms es fs = absurd (none m l e)
    where
      none : (m l : Bool) → (if m then need.Mark else if not l then need.Tend else need.Collect) ≡ need.End → ⊥
      none true l e' = cc
      none false true e' = cc
      none false false e' = cc
  end_by false false m l (ask.Mark s) f e ms es fs = absurd (none m l e ms)
    where
      none : (m l : Bool) → (if m then need.Mark else if not l then need.Tend else need.Mark) ≡ need.End → m ≡ true → ⊥
      none true l e' ms' = cc
      none false l e' ms' = false≢true ms'
  end_by false false m l ask.Done true e ms es fs = absurd (false≢true (fs refl))
  end_by false false m l ask.Done false e ms es fs = absurd (cc)
  end_by false false m l (ask.Ended x) f e ms es fs = absurd (false≢true es)

  failed_stops : (core_of_run r).halt.failed ≡ true → is_stopped r ≡ true
  failed_stops f = or_right r.starved _ (kept.settled.failed f)

  -- what the unit ends with, where its conversation has not ended
  stop_ends : (b : Bool) (o : Option Outcome) (starved : Bool) → (starved || is_some o) ≡ true
      → ((if b then same_outcome outcome.DiskFault (if b then outcome.DiskFault else if starved then outcome.NoMemory else stop_or o) else is_stop o (if b then outcome.DiskFault else if starved then outcome.NoMemory else stop_or o)) ≡ true)
      ⊎ (is_memory (if b then outcome.DiskFault else if starved then outcome.NoMemory else stop_or o) ≡ true)
  stop_ends true o starved is = inl refl
  stop_ends false o true is = inr refl
  stop_ends false None false is = absurd (false≢true is)
  stop_ends false (Some x) false is = inl (same_self x)

  may_end_by : (lt none claimed end stop memory blocked : Bool) → lt ≡ true → none ≡ true → (claimed && end) ≡ true ⊎ (stop ≡ true) ⊎ (memory ≡ true) → (lt && none && ((claimed && end) || stop || memory || blocked)) ≡ true
  may_end_by lt none claimed end stop memory blocked a b (inl e) = and_from _ _ (and_from _ _ a b) (or_left _ blocked (or_left _ memory (or_left (claimed && end) stop e)))
  may_end_by lt none claimed end stop memory blocked a b (inr (inl e)) = and_from _ _ (and_from _ _ a b) (or_left _ blocked (or_left _ memory (or_right (claimed && end) stop e)))
  may_end_by lt none claimed end stop memory blocked a b (inr (inr e)) = and_from _ _ (and_from _ _ a b) (or_left _ blocked (or_right ((claimed && end) || stop) memory e))

  end_due : (u : ℕ) → need_of r u ≡ need.End → may_take r (Ended u (due_outcome r u)) ≡ true
  end_due u is =
      let c : Core = core_of_run r in
      let a : Ask = ask_in r u in
      let o = open_need r u need.End is (λ e. cc) in
      let parts = and_parts (nat_lt u (count_of r.plan) && (c.slots u).claimed) (is_none (c.slots u).outcome) o.0 in
      let lt = (and_parts (nat_lt u (count_of r.plan)) (c.slots u).claimed parts.0).0 in
      let claimed = (and_parts (nat_lt u (count_of r.plan)) (c.slots u).claimed parts.0).1 in
      let o2 : Outcome = due_outcome r u in
      and_from _ _ (may_any r.starved) (may_end_by (nat_lt u (count_of r.plan)) (is_none (c.slots u).outcome) (c.slots u).claimed (is_end (c.slots u).talk.place o2)
      (if (c.slots u).faulted then same_outcome outcome.DiskFault o2 else is_stop c.halt.stop o2) (is_memory o2) (is_blocked r.plan c u o2) lt parts.1
      (elim (cases_Bool (says_ended a)) [
        | inl e ↦ inl (and_from _ _ claimed (ended_at (plan_of r.plan u) (c.slots u).talk.awaiting (c.slots u).talk.place (stop_for r u) e))
        | inr e ↦
            let same : due_outcome r u ≡ stop_for r u = not_ended a (stop_for r u) e in
            let stops : is_stopped r ≡ true = only (end_by (says_ended a) (is_stopped r) (says_mark a) (is_linked c) a c.halt.failed o.1 refl refl failed_stops) e in
            elim (stop_ends (c.slots u).faulted c.halt.stop r.starved stops) [
              | inl x ↦ inr (inl (ap (λ (y : Outcome). if (c.slots u).faulted then same_outcome outcome.DiskFault y else is_stop c.halt.stop y) same ∙ x))
              | inr x ↦ inr (inr (ap is_memory same ∙ x))
            ]
      ]))
    where
      only : {X : Type 0} {b : Bool} → (b ≡ true) ⊎ X → b ≡ false → X
      only (inl y) n = absurd (false≢true (sym n ∙ y))
      only (inr x) n = x

  want_due : (u : ℕ) → is_open r u ≡ true → may_take r (Ended u outcome.NoMemory) ≡ true
  want_due u opens =
      let c : Core = core_of_run r in
      let parts = and_parts (nat_lt u (count_of r.plan) && (c.slots u).claimed) (is_none (c.slots u).outcome) opens in
      and_from _ _ (may_any r.starved) (may_end_by (nat_lt u (count_of r.plan)) (is_none (c.slots u).outcome) (c.slots u).claimed (is_end (c.slots u).talk.place outcome.NoMemory)
      (if (c.slots u).faulted then same_outcome outcome.DiskFault outcome.NoMemory else is_stop c.halt.stop outcome.NoMemory) true (is_blocked r.plan c u outcome.NoMemory)
      (and_parts (nat_lt u (count_of r.plan)) (c.slots u).claimed parts.0).0 parts.1 (inr (inr refl)))

  pub dues : AreDue r
  dues = record { begin = begin_due; mark = mark_due; complete = complete_due; send = send_due; collect = collect_due; end = end_due; want = want_due; gone = λ u is. gone_by (is_open r u) _ is }
    where
      gone_by : (b : Bool) (n : Need) → (if b then n else need.Gone) ≢ need.Gone → b ≡ true
      gone_by true n is = refl
      gone_by false n is = absurd (is refl)
