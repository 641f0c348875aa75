-- What a step adds to the events of a bay, who is open, and what is said of a bay that was closed.
use Rattle.std.proofs.Common.{◌≡◌, ℕ, ◌+◌, ◌-◌, ◌<◌, true, false, List, [], ◌∷◌, ◌++◌, length, refl, sym, ◌∙◌, ap, subst, arith, append_assoc, append-nil, length-append}
use Rattle.std.specs.Prelude.{Bool, not, ◌&&◌, ◌||◌, nat_lt, is_none, if◌then◌else◌}
use Rattle.std.proofs.lemmas.Bool.{and_parts, and_from, eq-eqb, ltb-true, lt-ltb}
use Rattle.barrier_board.specs.Board.{has_entry}
use Rattle.barrier_board.specs.declared.post.Post.{Post}
use Rattle.bay_core.specs.Core.{Core, Slot, core_after, core_start, link_after, recorded_after, slot_claimed, slots_lost, slots_own, with_slot}
use Rattle.bay_core.specs.Legal.{is_open_unit, is_ready}
use Rattle.bay_core.specs.declared.event.Event.{Event}
use Rattle.bay_core.specs.declared.event.Event.TheVariants.{Claimed}
use Rattle.bay_core.specs.declared.event.Log.{Log}
use Rattle.bay_law.specs.Closed.{Says}
use Rattle.bay_replay.specs.Held.{IsBoardOf}
use Rattle.flash_bay.specs.Calls.{Adds, Grows, SendsRequest, takes}
use Rattle.flash_bay.specs.Closing.{Closes, ClosesLogged}
use Rattle.flash_bay.specs.Recording.{HasRecordDue, records_next}
use Rattle.flash_bay.specs.Sending.{SendsReady, spot_in}
use Rattle.flash_bay.specs.State.{BayState}
use Rattle.flash_bay.specs.declared.sending.SentReady as sending
use Rattle.flash_bay.specs.declared.sending.SentReady.TheVariants as said
use Rattle.flash_plan.specs.Plan.{count_of}
use Rattle.flash_plan.specs.declared.outcome.Entry.{Entry}
use Rattle.flash_plan.specs.declared.unit.LinkRules.{LinkRules}
use Rattle.flash_plan.specs.declared.unit.UnitPlan.{UnitPlan}
use Rattle.flash_run.proofs.Lists.{core_more}
use Rattle.flash_run.proofs.Looping.{takes_all_is}
use Rattle.flash_run.specs.Need.{ask_in, is_linked, need_of, need_by, step_of, says_done, says_ended, says_mark}
use Rattle.flash_run.specs.Run.{RunState, core_of_run, is_open, is_stopped, may_take, with_event}
use Rattle.flash_run.specs.declared.need.Need.{Need}
use Rattle.flash_run.specs.declared.need.Need.TheVariants as need
use Rattle.flash_workers.specs.Growing.{Goes, IsWorked, IsWorkedLogged, is_gone}
use Rattle.shop_model.specs.History.{History}
use Rattle.unit_session.specs.Prepared.{ReadyState}
use Rattle.unit_session.specs.declared.session.Ask.{Ask}
use Rattle.unit_session.specs.declared.session.Ask.TheVariants as ask

-- ------ a request was sent
longer_by : (xs ys zs : List Event) → ys ≡ xs ++ zs → length ys ≡ length xs + length zs
longer_by xs ys zs e = ap length e ∙ length-append xs zs

goes_adds : {S : Type 0} (e : Event) (a b : BayState S) → Adds (e ∷ []) a b → Goes a b
goes_adds e a b adds = record {
  grows = record { opening = adds.opening; more = e ∷ []; events = adds.events };
  longer = omega (arith, longer_by a.run.events b.run.events (e ∷ []) adds.events);
}

goes_sends : {S : Type 0} (tv : Bool) (history : S → History) (u : ℕ) (a : BayState S) (lost : Bool) (b : BayState S) → SendsRequest tv history u a lost b → Goes a b
goes_sends tv history u a lost b t = goes_adds _ a b t.step.adds

-- it was made for the spot where the unit stands
pub goes_ready : {S : Type 0} (tv : Bool) (history : S → History) (u : ℕ) (ready : ReadyState) (a : BayState S) (x : sending.SentReady) (b : BayState S) → ready.spot ≡ spot_in a.run u → SendsReady tv history u ready a x b → Goes a b
goes_ready tv history u ready a said.Sent b here s = goes_sends tv history u a false b s.1
goes_ready tv history u ready a said.Lost b here s = goes_sends tv history u a true b s.1
goes_ready tv history u ready a said.Stale b here s = absurd (s.0 here)

-- ------ what is due, and who is open
choose : (P : Need → Type 0) (b : Bool) (x y : Need) → P x → P y → P (if b then x else y)
choose P true x y p q = p
choose P false x y p q = q

abbrev Stays : Need → Type 0
Stays n = is_gone n ≡ false

step_stays : (a : Ask) → Stays (step_of a)
step_stays ask.Begin = refl
step_stays ask.Send = refl
step_stays ask.Wait = refl
step_stays (ask.Mark segment) = refl
step_stays ask.Done = refl
step_stays (ask.Ended outcome) = refl

need_stays : (failed stopped linked : Bool) (a : Ask) → Stays (need_by failed stopped linked a)
need_stays failed stopped linked a =
    choose Stays (says_done a && not failed) need.Complete _ refl
    (choose Stays (says_ended a || stopped) need.End _ refl (choose Stays (says_mark a) need.Mark _ refl (choose Stays (not linked) need.Tend (step_of a) refl (step_stays a))))

open_by : (b : Bool) (n : Need) → Stays n → b ≡ not (is_gone (if b then n else need.Gone))
open_by true n e = sym (ap not e)
open_by false n e = refl

-- a unit is open exactly where a call is due to it
pub open_is : (r : RunState) (u : ℕ) → is_open r u ≡ not (is_gone (need_of r u))
open_is r u = open_by (is_open r u) _ (need_stays (core_of_run r).halt.failed (is_stopped r) (is_linked (core_of_run r)) (ask_in r u))

pub record_due : (r : RunState) (P : List UnitPlan) (u : ℕ) → P ≡ r.plan → u < count_of P → records_next (need_of r u) ≡ true → HasRecordDue r
record_due r P u same lt due = record { unit = u; within = subst (λ (X : List UnitPlan). u < count_of X) same lt; due = due }

-- ------ a unit that was claimed
ready_of : (r : RunState) (u : ℕ) → may_take r (Claimed u) ≡ true → is_ready r.plan (core_of_run r) u ≡ true
ready_of r u may = (and_parts _ _ (and_parts _ _ (and_parts _ _ may).1).0).1

pub claimed_within : (r : RunState) (u : ℕ) → may_take r (Claimed u) ≡ true → u < count_of r.plan
claimed_within r u may = ltb-true u (count_of r.plan) (and_parts _ _ (and_parts _ _ (and_parts _ _ (ready_of r u may)).0).0).0

lost_claimed : (P : List UnitPlan) (R : Entry → Bool) (lost : Bool) (slots : ℕ → Slot) (n : ℕ) → (slots_lost P R lost slots n).claimed ≡ (slots n).claimed
lost_claimed P R true slots n = refl
lost_claimed P R false slots n = refl

lost_outcome : (P : List UnitPlan) (R : Entry → Bool) (lost : Bool) (slots : ℕ → Slot) (n : ℕ) → is_none (slots_lost P R lost slots n).outcome ≡ is_none (slots n).outcome
lost_outcome P R true slots n = refl
lost_outcome P R false slots n = refl

own_slot : {X : Type 0} (f : Slot → X) (u : ℕ) (s : Slot) (slots : ℕ → Slot) → f (with_slot u s slots u) ≡ f s
own_slot f u s slots = ap (λ (b : Bool). f (if b then s else slots u)) (eq-eqb u u refl)

open_after : (rules : LinkRules) (P : List UnitPlan) (c : Core) (u : ℕ) → u < count_of P → is_none (c.slots u).outcome ≡ true → is_open_unit P (core_after rules P (Claimed u) c) u ≡ true
open_after rules P c u lt none =
    let lost : Bool = nat_lt c.link.losses (link_after rules P (Claimed u) c.link).losses in
    let claimed : ((core_after rules P (Claimed u) c).slots u).claimed ≡ true =
    lost_claimed P (recorded_after (Claimed u) c.recorded) lost (slots_own rules P (Claimed u) c) u ∙ own_slot (λ (s : Slot). s.claimed) u (slot_claimed P c u) c.slots in
    let open_still : is_none ((core_after rules P (Claimed u) c).slots u).outcome ≡ true =
    lost_outcome P (recorded_after (Claimed u) c.recorded) lost (slots_own rules P (Claimed u) c) u ∙ own_slot (λ (s : Slot). is_none s.outcome) u (slot_claimed P c u) c.slots ∙ none in
    and_from _ _ (and_from _ _ (lt-ltb u (count_of P) lt) claimed) open_still

claimed_open : (r : RunState) (u : ℕ) → may_take r (Claimed u) ≡ true → is_open (with_event (Claimed u) r) u ≡ true
claimed_open r u may =
    let more : core_of_run (with_event (Claimed u) r) ≡ core_after r.rules r.plan (Claimed u) (core_of_run r) = core_more r.rules r.plan (core_start r.plan (has_entry r.found)) r.events (Claimed u) in
    let none = (and_parts _ _ (and_parts _ _ (and_parts _ _ (ready_of r u may)).0).0).1 in
    ap (λ (c : Core). is_open_unit r.plan c u) more ∙ open_after r.rules r.plan (core_of_run r) u (claimed_within r u may) none

pub claim_open : {S : Type 0} (u : ℕ) (a b : BayState S) → may_take a.run (Claimed u) ≡ true → b ≡ takes (Claimed u) a → is_open b.run u ≡ true
claim_open u a b may is = ap (λ (x : BayState _). is_open x.run u) is ∙ claimed_open a.run u may

-- ------ the end
pub grows-trans : {S : Type 0} (a b c : BayState S) → Grows a b → Grows b c → Grows a c
grows-trans a b c x y = record {
  opening = record {
    plan = y.opening.plan ∙ x.opening.plan;
    rules = y.opening.rules ∙ x.opening.rules;
    found = y.opening.found ∙ x.opening.found;
    first = y.opening.first ∙ x.opening.first;
  };
  more = x.more ++ y.more;
  events = y.events ∙ ap (λ (es : List Event). es ++ y.more) x.events ∙ append_assoc a.run.events x.more y.more;
}

pub worked : {S : Type 0} (td tv : Bool) (history : S → History) (bay last : BayState S) (shop : S) (posts : List Post) → Grows bay last → Closes td tv history last shop posts → IsWorked td tv history bay shop posts
worked {S} td tv history bay last shop posts g c =
    let all : c.run ≡ record last.run { events = last.run.events ++ c.finishes.events; room = last.run.room - length c.finishes.events } = c.finishes.becomes ∙ takes_all_is c.finishes.events last.run in
    let plan : c.run.plan ≡ bay.run.plan = ap (λ (r : RunState). r.plan) all ∙ g.opening.plan in
    let events : c.run.events ≡ bay.run.events ++ (g.more ++ c.finishes.events) =
    ap (λ (r : RunState). r.events) all ∙ ap (λ (es : List Event). es ++ c.finishes.events) g.events ∙ append_assoc bay.run.events g.more c.finishes.events in
    record {
      run = c.run;
      continued = record {
        plan = plan;
        rules = ap (λ (r : RunState). r.rules) all ∙ g.opening.rules;
        found = ap (λ (r : RunState). r.found) all ∙ g.opening.found;
        more = g.more ++ c.finishes.events;
        events = events;
      };
      ended = c.ended;
      board = subst (λ (P : List UnitPlan). IsBoardOf P (core_of_run c.run) posts) plan c.board_is;
      kept = c.kept;
      says = subst (λ (x : S). Says td tv c.run (history x) (history shop)) g.opening.first c.says;
    }

pub worked_logged : {S : Type 0} (td tv : Bool) (history : S → History) (bay mid last : BayState S) (shop : S) (posts : List Post) (log : Log)
    → Grows bay mid → Grows mid last → ClosesLogged td tv history last shop posts log → IsWorkedLogged td tv history bay shop posts log
unfolding worked
worked_logged td tv history bay mid last shop posts log a b c = record {
  worked = worked td tv history bay last shop posts (grows-trans bay mid last a b) c.closes;
  log_is = c.log_is;
}

pub grows_same : {S : Type 0} (a b : BayState S) → b ≡ a → Grows a b
grows_same {S} a b e = record {
  opening = record {
    plan = ap (λ (x : BayState S). x.run.plan) e;
    rules = ap (λ (x : BayState S). x.run.rules) e;
    found = ap (λ (x : BayState S). x.run.found) e;
    first = ap (λ (x : BayState S). x.first) e;
  };
  more = [];
  events = ap (λ (x : BayState S). x.run.events) e ∙ sym (append-nil a.run.events);
}
