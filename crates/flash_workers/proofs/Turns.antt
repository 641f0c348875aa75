-- What a holding of the bay says of the pass.
use Rattle.std.proofs.Common.{◌≡◌, ℕ, ◌<◌, true, false, List, [], ◌∷◌, ◌++◌, Some, length, sym, ap, ◌∙◌, subst}
use Rattle.std.specs.Prelude.{Bool, Option}
use Rattle.std.proofs.lemmas.Bool.{and_parts}
use Rattle.atomic_table.specs.Seated.{TableId}
use Rattle.barrier_board.specs.declared.board.Claimed.{Claimed}
use Rattle.barrier_board.specs.declared.board.Claimed.TheVariants.{Unit as Took, Nothing}
use Rattle.bay_core.specs.declared.event.Event.{Event}
use Rattle.bay_core.specs.declared.event.Event.TheVariants.{Claimed as Claimed_event}
use Rattle.flash_bay.specs.Calls.{Claims, Grows, SameOpening, takes}
use Rattle.flash_bay.specs.Sending.{IsReadyFor}
use Rattle.flash_bay.specs.State.{BayState}
use Rattle.flash_bay.specs.declared.bay.Opening.{Opening}
use Rattle.flash_plan.specs.Plan.{count_of}
use Rattle.flash_plan.specs.declared.unit.UnitPlan.{UnitPlan}
use Rattle.flash_run.specs.Run.{is_open}
use Rattle.flash_workers.proofs.Crews.{follows-trans}
use Rattle.flash_workers.proofs.Steps.{claimed_within, grows_same}
use Rattle.flash_workers.specs.Crew.{ClaimsBy, ClaimsInTurn, Follows, HasUnit, IsOfPlan, IsReadyOf, Keeps, StepsInTurn, unit_of}
use Rattle.flash_workers.specs.Openings.{opening_of}
use Rattle.turn_lock.proofs.Prefixes.{begins-trans}
use Rattle.turn_lock.specs.Lists.{Begins}
use Rattle.turn_lock.specs.PassState.{PassState, first_pass}
use Rattle.unit_session.specs.Prepared.{ReadyState}

-- ------ openings
pub opening_same : {S : Type 0} (a b : BayState S) → SameOpening a b → opening_of b ≡ opening_of a
opening_same a b s = λ i. record { plan = s.plan i; rules = s.rules i; found = s.found i; shop = s.first i }

pub opened_same : {S : Type 0} (o : Option (Opening S)) (a b : BayState S) → o ≡ Some (opening_of a) → Grows a b → o ≡ Some (opening_of b)
opened_same o a b e g = e ∙ ap Some (sym (opening_same a b g.opening))

pub same_opening : {S : Type 0} (a b : BayState S) → Some (opening_of a) ≡ Some (opening_of b) → SameOpening a b
same_opening {S} a b e =
    let f : opening_of a ≡ opening_of b = cc in
    record {
      plan = sym (ap (λ (o : Opening S). o.plan) f);
      rules = sym (ap (λ (o : Opening S). o.rules) f);
      found = sym (ap (λ (o : Opening S). o.found) f);
      first = sym (ap (λ (o : Opening S). o.shop) f);
    }

-- the bay that was taken is one of the plan
pub taken_plan : {S : Type 0} (P : List UnitPlan) (o : Option (Opening S)) (b : BayState S) → IsOfPlan P o → o ≡ Some (opening_of b) → P ≡ b.run.plan
taken_plan P o b has e = sym (subst (IsOfPlan P) e has)

-- ------ claims
grows_took : {S : Type 0} (e : Event) (a b : BayState S) → b ≡ takes e a → Grows a b
grows_took {S} e a b is = record {
  opening = record {
    plan = ap (λ (x : BayState S). x.run.plan) is;
    rules = ap (λ (x : BayState S). x.run.rules) is;
    found = ap (λ (x : BayState S). x.run.found) is;
    first = ap (λ (x : BayState S). x.first) is;
  };
  more = e ∷ [];
  events = ap (λ (x : BayState S). x.run.events) is;
}

pub grows_claims : {S : Type 0} (a b : BayState S) (x : Claimed) → Claims a x b → Grows a b
grows_claims a b (Took u) c = grows_took (Claimed_event u) a b c.1
grows_claims a b Nothing c = grows_same a b c.0

pub claims_by : {S : Type 0} (a b : BayState S) (x : Claimed) → Claims a x b → ClaimsBy (opening_of a) a.run.events (unit_of x) b.run.events
claims_by {S} a b (Took u) c = ((and_parts _ _ c.0).1, ap (λ (x : BayState S). x.run.events) c.1)
claims_by {S} a b Nothing c = ap (λ (x : BayState S). x.run.events) c.0

pub claimed_unit : {S : Type 0} (P : List UnitPlan) (a b : BayState S) (x : Claimed) → P ≡ a.run.plan → Claims a x b → HasUnit P (unit_of x)
claimed_unit P a b (Took u) same c = subst (λ (X : List UnitPlan). u < count_of X) (sym same) (claimed_within a.run u c.0)
claimed_unit P a b Nothing same c = tt

-- ------ the pass after a holding
-- it was taken with the events of a, and given back with those of b
pub keeps_holding : {S : Type 0} (old held new : PassState (Opening S) Event) (seen : List Event) (more : List ℕ)
    → old.holds ≡ false → held ≡ record old { holds = true; seen = seen } → (b : BayState S)
    → new ≡ record held { holds = false; seen = b.run.events; own = held.own ++ more }
    → Begins old.seen b.run.events → Keeps old new
keeps_holding {S} old held new seen more rests taken b given begins =
    let P = PassState (Opening S) Event in
    let all : new ≡ record old { holds = false; seen = b.run.events; own = old.own ++ more } = given ∙ ap (λ (p : P). record p { holds = false; seen = b.run.events; own = p.own ++ more }) taken in
    record {
      turn = ap (λ (p : P). p.turn) all;
      holds = ap (λ (p : P). p.holds) all ∙ sym rests;
      first = ap (λ (p : P). p.first) all;
      others = ap (λ (p : P). p.others) all;
      opening = ap (λ (p : P). p.opening) all;
      seen = subst (Begins old.seen) (sym (ap (λ (p : P). p.seen) all)) begins;
    }

pub steps_in_turn : {S : Type 0} (u : ℕ) (made : Bool) (old held new : PassState (Opening S) Event) (more : List ℕ) (a b : BayState S)
    → old.holds ≡ false → held ≡ record old { holds = true; seen = a.run.events } → old.opening ≡ Some (opening_of a) → Begins old.seen a.run.events
    → new ≡ record held { holds = false; seen = b.run.events; own = held.own ++ more }
    → made ≡ is_open a.run u → (made ≡ false → b ≡ a) → Grows a b → (made ≡ true → length a.run.events < length b.run.events)
    → StepsInTurn u made old new
steps_in_turn {S} u made old held new more a b rests taken opened begins given gone rest grows event =
    let P = PassState (Opening S) Event in
    let saw : new.seen ≡ b.run.events = ap (λ (p : P). p.seen) given in
    record {
      keeps = keeps_holding old held new a.run.events more rests taken b given (begins-trans _ _ _ begins (grows.more, grows.events));
      opening = opening_of a;
      opened = opened;
      taken = a.run.events;
      seen = begins;
      more = (grows.more, saw ∙ grows.events);
      was_open = gone;
      rest = λ no. saw ∙ ap (λ (x : BayState S). x.run.events) (rest no);
      event = λ yes. subst (λ (es : List Event). length a.run.events < length es) (sym saw) (event yes);
    }

pub claims_in_turn : {S : Type 0} (x : Option ℕ) (old held new : PassState (Opening S) Event) (more : List ℕ) (a b : BayState S)
    → old.holds ≡ false → held ≡ record old { holds = true; seen = a.run.events } → old.opening ≡ Some (opening_of a) → Begins old.seen a.run.events
    → new ≡ record held { holds = false; seen = b.run.events; own = held.own ++ more }
    → Grows a b → ClaimsBy (opening_of a) a.run.events x b.run.events → ClaimsInTurn x old new
claims_in_turn {S} x old held new more a b rests taken opened begins given grows claims =
    let P = PassState (Opening S) Event in
    let saw : new.seen ≡ b.run.events = ap (λ (p : P). p.seen) given in
    record {
      keeps = keeps_holding old held new a.run.events more rests taken b given (begins-trans _ _ _ begins (grows.more, grows.events));
      opening = opening_of a;
      opened = opened;
      taken = a.run.events;
      seen = begins;
      claims = subst (ClaimsBy (opening_of a) a.run.events x) (sym saw) claims;
    }

-- a request for the unit of the bay that was taken
pub ready_for : {S : Type 0} (o : Option (Opening S)) (b : BayState S) (u : ℕ) (ready : ReadyState) → o ≡ Some (opening_of b) → IsReadyOf o u ready → IsReadyFor b.run u ready
ready_for o b u ready e made =
    let m = subst (λ (x : Option (Opening _)). IsReadyOf x u ready) e made in
    record { tester = m.tester_is; number = m.number; unit = m.unit }

-- ------ the bay out of the turn
pub grows_closed : {S : Type 0} (a b : BayState S) (first last : PassState (Opening S) Event)
    → first.opening ≡ Some (opening_of a) → first.seen ≡ a.run.events → Follows first last
    → last.opening ≡ Some (opening_of b) → b.run.events ≡ last.seen → Grows a b
grows_closed a b first last opened seen follows closed all = record {
  opening = same_opening a b (sym opened ∙ sym follows.opening ∙ closed);
  more = follows.seen.0;
  events = all ∙ follows.seen.1 ∙ ap (λ (es : List Event). es ++ follows.seen.0) seen;
}

-- from the making of the turn to its closing
pub grows_made : {S : Type 0} (a d b back : BayState S) (turn : TableId) (made hired worked last : PassState (Opening S) Event)
    → d ≡ a → made ≡ first_pass turn (opening_of d) d.run.events
    → Follows made hired → Follows hired worked → Follows worked last
    → last.opening ≡ Some (opening_of b) → b.run.events ≡ last.seen → back ≡ b → Grows a back
grows_made {S} a d b back turn made hired worked last same first f g h opened seen out =
    let P = PassState (Opening S) Event in
    let whole : Grows d b = grows_closed d b made last (ap (λ (p : P). p.opening) first) (ap (λ (p : P). p.seen) first) (follows-trans made worked last (follows-trans made hired worked f g) h) opened seen in
    subst (λ (x : BayState S). Grows x back) same (subst (λ (x : BayState S). Grows d x) (sym out) whole)
