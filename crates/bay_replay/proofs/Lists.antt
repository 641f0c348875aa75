-- A list of events, one event after another.
use Rattle.std.proofs.Common.{◌≡◌, ℕ, zero, suc, ◌+◌, ◌<◌, ◌≤◌, true, false, List, [], ◌∷◌, length, take, slice_get, Some, Result, Ok, Err, refl, sym, ◌∙◌, ap, subst, arith, add-one}
use Rattle.std.specs.Prelude.{Bool, ◌&&◌, IfOk, OnErr}
use Rattle.std.proofs.lemmas.Bool.{and_from, and_left, and_right}
use Rattle.std.proofs.Math.Bool.{and-true}
use Rattle.barrier_board.specs.Board.{has_entry}
use Rattle.bay_core.specs.Core.{Core, core_after, core_of, core_start, link_after, heard_link}
use Rattle.bay_core.specs.Legal.{is_allowed, is_legal}
use Rattle.bay_core.specs.declared.event.Event.{Event}
use Rattle.bay_core.specs.declared.event.Event.TheVariants.{Claimed, Began, Sent, Collected, Tended, Marked, Completed, DiskFailed, Ended}
use Rattle.bay_core.specs.declared.event.Heard.{Heard}
use Rattle.bay_core.specs.declared.event.Heard.TheVariants.{Kept, Quiet, Piece, Lost}
use Rattle.bay_core.specs.declared.event.Tend.TheVariants.{Dialed, Asked, Said, Polled}
use Rattle.flash_plan.specs.declared.outcome.Entry.{Entry}
use Rattle.flash_plan.specs.declared.unit.LinkRules.{LinkRules}
use Rattle.flash_plan.specs.declared.unit.UnitPlan.{UnitPlan}
use Rattle.run_model.proofs.Sees.{piece_ticks}
use Rattle.flash_plan.specs.Plan.{plan_of}
use Rattle.run_model.specs.Link.{Link, new_link}
use Rattle.run_model.specs.Link as phase
use Rattle.bay_core.specs.Core.{addresses_of}
use Rattle.bay_replay.specs.declared.state.Core as kept
use Rattle.bay_replay.specs.Held.{Told, Holds, Takes, told_after}
use Rattle.bay_replay.specs.Replays.{core_by, told_by, TakesAt, IsFirstBad}
use Rattle.bay_core.proofs.Ticks.{lost_ticks, quiet_ticks, taken_ticks}

some_is : (a b : Event) → Some a ≡ Some b → a ≡ b
some_is a b e = cc

core_take : (rules : LinkRules) (P : List UnitPlan) (es : List Event) (i : ℕ) (e : Event) (c : Core) → slice_get es i ≡ Some e → core_of rules P c (take (suc i) es) ≡ core_after rules P e (core_of rules P c (take i es))
core_take rules P [] i e c is = cc
core_take rules P (x ∷ xs) zero e c is = ap (λ (y : Event). core_after rules P y c) (some_is x e is)
core_take rules P (x ∷ xs) (suc i) e c is = core_take rules P xs i e (core_after rules P x c) is

pub core_more : (rules : LinkRules) (P : List UnitPlan) (es : List Event) (i : ℕ) (e : Event) (c : Core) → slice_get es i ≡ Some e → core_of rules P c (take (i + 1) es) ≡ core_after rules P e (core_of rules P c (take i es))
core_more rules P es i e c is = ap (λ (n : ℕ). core_of rules P c (take n es)) (add-one i) ∙ core_take rules P es i e c is

and_moved : (a b c : Bool) → (a && (b && c)) ≡ ((a && b) && c)
and_moved true b c = refl
and_moved false b c = refl

legal_take : (rules : LinkRules) (P : List UnitPlan) (es : List Event) (i : ℕ) (e : Event) (c : Core) → slice_get es i ≡ Some e → is_legal rules P c (take (suc i) es) ≡ (is_legal rules P c (take i es) && is_allowed P (core_of rules P c (take i es)) e)
legal_take rules P [] i e c is = cc
legal_take rules P (x ∷ xs) zero e c is = and-true (is_allowed P c x) ∙ ap (is_allowed P c) (some_is x e is)
legal_take rules P (x ∷ xs) (suc i) e c is = ap (λ (b : Bool). is_allowed P c x && b) (legal_take rules P xs i e (core_after rules P x c) is) ∙ and_moved (is_allowed P c x) _ _

pub legal_more : (rules : LinkRules) (P : List UnitPlan) (es : List Event) (i : ℕ) (e : Event) (c : Core) → slice_get es i ≡ Some e → is_legal rules P c (take i es) ≡ true → is_allowed P (core_of rules P c (take i es)) e ≡ true → is_legal rules P c (take (i + 1) es) ≡ true
legal_more rules P es i e c is legal allowed = ap (λ (n : ℕ). is_legal rules P c (take n es)) (add-one i) ∙ legal_take rules P es i e c is ∙ and_from _ _ legal allowed

-- one that is not allowed after those before it
pub illegal_at : (rules : LinkRules) (P : List UnitPlan) (es : List Event) (i : ℕ) (e : Event) (c : Core) → slice_get es i ≡ Some e → is_allowed P (core_of rules P c (take i es)) e ≡ false → is_legal rules P c es ≡ false
illegal_at rules P [] i e c is bad = cc
illegal_at rules P (x ∷ xs) zero e c is bad = and_left _ _ (ap (is_allowed P c) (some_is x e is) ∙ bad)
illegal_at rules P (x ∷ xs) (suc i) e c is bad = and_right _ _ (illegal_at rules P xs i e (core_after rules P x c) is bad)

pub there_is : (es : List Event) (i : ℕ) → i < length es → (e : Event) × (slice_get es i ≡ Some e)
there_is [] i lt = absurd (omega (arith, lt))
there_is (x ∷ xs) zero lt = (x, refl)
there_is (x ∷ xs) (suc i) lt = there_is xs i (omega (arith, lt))

pub first_bad : (rules : LinkRules) (P : List UnitPlan) (found : List Entry) (es : List Event) (i : ℕ) → i < length es → is_legal rules P (core_start P (has_entry found)) (take i es) ≡ true
    → ((e : Event) → slice_get es i ≡ Some e → false ≡ is_allowed P (core_by rules P found (take i es)) e) → IsFirstBad rules P found es i
first_bad rules P found es i lt legal bad = record {
  within = lt;
  before = legal;
  bad = λ e is. sym (bad e is);
  illegal = let x : (e : Event) × (slice_get es i ≡ Some e) = there_is es i lt in illegal_at rules P es i x.0 (core_start P (has_entry found)) x.1 (sym (bad x.0 x.1));
}

-- ------ an event is at most one tick
heard_ticks : (rules : LinkRules) (P : List UnitPlan) (h : Heard) (l : Link) → (heard_link rules P h l).ticks ≤ l.ticks + 1
heard_ticks rules P Kept l = omega arith
heard_ticks rules P Quiet l = omega (arith, quiet_ticks l)
heard_ticks rules P (Piece bytes) l = omega (arith, piece_ticks rules.tester (addresses_of P) bytes l)
heard_ticks rules P Lost l = omega arith

event_ticks : (rules : LinkRules) (P : List UnitPlan) (e : Event) (l : Link) → (link_after rules P e l).ticks ≤ l.ticks + 1
event_ticks rules P (Claimed u) l = omega arith
event_ticks rules P (Began u) l = omega arith
event_ticks rules P (Sent u place lost) l = omega (arith, lost_ticks lost l l refl)
event_ticks rules P (Collected u h) l = omega (arith, taken_ticks (plan_of P u).address h (heard_link rules P h l), heard_ticks rules P h l)
event_ticks rules P (Tended (Dialed lost)) l = omega (arith, lost_ticks lost l (new_link l) refl)
event_ticks rules P (Tended (Asked lost)) l = omega (arith, lost_ticks lost l (record l { phase = phase.Asked; asked = l.ticks }) refl)
event_ticks rules P (Tended (Said lost)) l = omega (arith, lost_ticks lost l (record l { owes = false }) refl)
event_ticks rules P (Tended (Polled h)) l = heard_ticks rules P h l
event_ticks rules P (Marked u s) l = omega arith
event_ticks rules P (Completed u) l = omega arith
event_ticks rules P (DiskFailed u entry) l = omega arith
event_ticks rules P (Ended u why) l = omega arith

pub few_ticks : (rules : LinkRules) (P : List UnitPlan) (es : List Event) (i : ℕ) (c : Core) → (core_of rules P c (take i es)).link.ticks ≤ c.link.ticks + i
few_ticks rules P [] zero c = omega arith
few_ticks rules P [] (suc i) c = omega arith
few_ticks rules P (e ∷ es) zero c = omega arith
few_ticks rules P (e ∷ es) (suc i) c = omega (arith, few_ticks rules P es i (core_after rules P e c), event_ticks rules P e c.link)

-- ------ one event of a list
pub if_ok : {T E : Type 0} (r : Result T E) (A B : T → Type 0) → ((x : T) → A x → B x) → IfOk r A → IfOk r B
if_ok {T} {E} (Ok x) A B f a = f x a
if_ok {T} {E} (Err e) A B f a = tt

pub on_err : {T E : Type 0} (r : Result T E) (A : Type 0) → A → OnErr r A
on_err {T} {E} (Ok x) A a = tt
on_err {T} {E} (Err e) A a = a

pub takes_at : (rules : LinkRules) (P : List UnitPlan) (found : List Entry) (es : List Event) (i : ℕ) (e : Event) (t : Told) (old : kept.Core) (ok : Bool) (k : kept.Core) → t ≡ told_by rules P found (take i es) → slice_get es i ≡ Some e
    → Takes P e t old ok k → TakesAt rules P found es i ok k
takes_at rules P found es i e t old ok k is here h = record {
  allowed = λ x there. h.allowed ∙ (λ j. is_allowed P (is j).core (some_is e x (sym here ∙ there) j));
  holds = λ taken. subst (Holds P k) ((λ j. told_after P e (is j)) ∙ (λ j. record { rules = rules; core = sym (core_more rules P es i e (core_start P (has_entry found)) here) j })) (h.holds taken);
}
