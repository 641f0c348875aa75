-- The laws of recorded outcomes, over every legal list of events.
use Rattle.std.proofs.Common.{◌≡◌, inl, inr, ℕ, ◌+◌, true, false, List, [], ◌∷◌, Some, None, refl, sym, ap, subst, arith}
use Rattle.std.specs.Prelude.{Bool, Option, ◌||◌, is_some, unwrap_or}
use Rattle.std.proofs.lemmas.Bool.{cases_Bool, false≢true, both_ways, and_parts, or_left, or_right}
use Rattle.flash_plan.specs.Plan.{IsAccepted, plan_of}
use Rattle.flash_plan.specs.declared.outcome.Entry.{Entry}
use Rattle.flash_plan.specs.declared.outcome.Entry.TheVariants as entry
use Rattle.flash_plan.specs.declared.outcome.Outcome.{Outcome}
use Rattle.flash_plan.specs.declared.outcome.Outcome.TheVariants.{Complete, IdentMismatch, Refused, BadAnswer, CheckFailed, Undelivered, NoAnswer, PendingLimit, BusyLimit, LinkLost, LinkRefused, DiskFault, NoMemory, Blocked}
use Rattle.flash_plan.specs.declared.unit.LinkRules.{LinkRules}
use Rattle.flash_plan.specs.declared.unit.UnitPlan.{UnitPlan}
use Rattle.unit_model.specs.Unit.{ControlUnit}
use Rattle.unit_model.specs.Vehicle.{Vehicle, unit_at}
use Rattle.run_model.specs.Entries.{marks_of}
use Rattle.run_model.specs.Troubles.{IsUnitCalm, IsVehicleCalm}
use Rattle.bay_core.proofs.OneStep.{step_law, core_law}
use Rattle.bay_core.specs.Core.{Core, core_start, core_after, core_of}
use Rattle.bay_core.specs.Joint.{IsVehicleJoint}
use Rattle.bay_core.specs.Law.{DrivesAll}
use Rattle.bay_core.specs.Legal.{is_allowed, is_legal}
use Rattle.bay_core.specs.Stops.{has_failure}
use Rattle.bay_core.specs.declared.event.Event.{Event}
use Rattle.bay_core.proofs.Sane.{event_steps}
use Rattle.outcome_law.proofs.Ending.{rests_step, fault_step, stop_step}
use Rattle.outcome_law.proofs.Linking.{link_step}
use Rattle.outcome_law.proofs.Runs.{start as units_start, counted_run, calm_not, ends_caused, no_cause}
use Rattle.outcome_law.proofs.Steps.{moves_grow}
use Rattle.outcome_law.specs.Causes.{IsCaused}
use Rattle.outcome_law.specs.Counting.{AreUnitsCounted}
use Rattle.outcome_law.specs.Keeping.{KeptRecordedLaw, KeptUntroubledLaw}
use Rattle.outcome_law.specs.Law.{IsRun, last_vehicle, IsCalmUnit, IsMatchingRun}
use Rattle.outcome_law.specs.LinkCounting.{is_fault, fault_of, faults_of}
use Rattle.outcome_law.specs.OutcomeCounting.{Rests, IsStopCounted, StopCounted, AreOutcomesCounted, OutcomeCountingLaw, StartLaw, CountedLaw}
use Rattle.outcome_law.specs.Outcomes.{IsOutcomeCaused, OutcomeLaw, IsCalmOutcome, MatchesAt, IsOfRun, RecordedLaw, UntroubledLaw}

-- ------ one event
pub outcome_counting_law : OutcomeCountingLaw
outcome_counting_law rules P found c e v v2 first t0 faults failed failed2 accepted ok moves joint on fails is =
    let link = link_step rules P found c v first t0 faults accepted joint is.link e v2 ok moves in
    record {
      link = link;
      rests = λ n o lt at. rests_step rules P c accepted e ok n o lt at (is.rests n o lt);
      faulted = λ n f. elim (fault_step rules P c accepted e ok n f) [ inl was ↦ on (is.faulted n was) | inr now ↦ fails now ];
      stop = stop_step rules e c.link (core_after rules P e c).link c.halt.stop failed failed2 faults (fault_of (is_fault e v v2)) first v v2 (event_steps rules P c accepted joint.sane e ok) (moves_grow rules P c e v v2 moves) on fails is.stop link;
    }

-- ------ along a list
over : (rules : LinkRules) (P : List UnitPlan) (found : Entry → Bool) (c : Core) (events : List Event) (s : Vehicle) (states : List Vehicle) (first : Vehicle) (t0 faults : ℕ) (failed : Bool) → IsAccepted P → is_legal rules P c events ≡ true → DrivesAll rules P c events s states
    → IsVehicleJoint rules P found c s t0 → (has_failure events ≡ true → failed ≡ true) → AreOutcomesCounted rules P c failed faults first s
    → AreOutcomesCounted rules P (core_of rules P c events) failed (faults + faults_of events s states) first (last_vehicle s states)
over rules P found c [] s states first t0 faults failed accepted legal moves joint fails is =
    let e : faults ≡ faults + 0 = omega arith in
    subst (λ (x : List Vehicle × ℕ). AreOutcomesCounted rules P c failed x.1 first (last_vehicle s x.0)) (λ i. (sym moves i, e i)) is
over rules P found c (e ∷ es) s [] first t0 faults failed accepted legal moves joint fails is = absurd moves
over rules P found c (e ∷ es) s (s2 ∷ states) first t0 faults failed accepted legal moves joint fails is =
    let parts = and_parts (is_allowed P c e) (is_legal rules P (core_after rules P e c) es) legal in
    let sum : faults + fault_of (is_fault e s s2) + faults_of es s2 states ≡ faults + (fault_of (is_fault e s s2) + faults_of es s2 states) = omega arith in
    subst (λ (n : ℕ). AreOutcomesCounted rules P (core_of rules P (core_after rules P e c) es) failed n first (last_vehicle s2 states)) sum
    (over rules P found (core_after rules P e c) es s2 states first t0 (faults + fault_of (is_fault e s s2)) failed accepted parts.1 moves.1
    (step_law.vehicle rules P found c e s s2 t0 accepted parts.0 moves.0 joint) (λ f. fails (or_right _ _ f))
    (outcome_counting_law rules P found c e s s2 first t0 faults failed failed accepted parts.0 moves.0 joint (λ f. f) (λ f. fails (or_left _ _ f)) is))

none_some : (o : Outcome) → None ≡ Some o → ⊥
none_some o e = false≢true (ap (is_some {T = Outcome}) e)

-- at the start only what was found complete has an outcome
pub found_rests : (P : List UnitPlan) (found : Entry → Bool) (n : ℕ) (o : Outcome) → ((core_start P found).slots n).outcome ≡ Some o → Rests P (core_start P found) n o
found_rests P found n o at = elim (cases_Bool (found (entry.Complete n))) [
  | inr e ↦ absurd (none_some o (rw e at at))
  | inl e ↦ (let is : Some Complete ≡ Some o = rw e at at in inr (inr (inr (inr (inr (sym (ap (λ (x : Option Outcome). unwrap_or x o) is), e))))))
]

start : (rules : LinkRules) (P : List UnitPlan) (found : Entry → Bool) (v : Vehicle) (failed : Bool) → AreOutcomesCounted rules P (core_start P found) failed 0 v v
start rules P found v failed = record {
  link = record {
    losses = record { silent = 0; losses = omega arith; count = omega arith; awaits = λ x. absurd (false≢true x) };
    denials = λ code. omega arith;
    denied = tt;
    fair = λ lives. absurd (false≢true lives);
  };
  rests = λ n o lt at. found_rests P found n o at;
  faulted = λ n f. absurd (false≢true f);
  stop = omega arith;
}

pub ended_run : (rules : LinkRules) (P : List UnitPlan) (found : Entry → Bool) (events : List Event) (s : Vehicle) (states : List Vehicle) → IsRun rules P found events s states
    → AreOutcomesCounted rules P (core_of rules P (core_start P found) events) (has_failure events) (faults_of events s states) s (last_vehicle s states)
ended_run rules P found events s states run =
    let none : 0 + faults_of events s states ≡ faults_of events s states = omega arith in
    subst (λ (k : ℕ). AreOutcomesCounted rules P (core_of rules P (core_start P found) events) (has_failure events) k s (last_vehicle s states)) none
    (over rules P found (core_start P found) events s states s s.gateway.tick 0 (has_failure events) run.accepted run.legal run.drives
    (core_law.vehicle rules P found [] s [] run.accepted refl refl) (λ f. f) (start rules P found s (has_failure events)))

-- ------ each outcome
-- no other outcome ends a conversation
abbrev is_spoken : Outcome → Bool
is_spoken Complete = false
is_spoken (LinkLost times) = false
is_spoken (LinkRefused code) = false
is_spoken (Blocked by) = false
is_spoken DiskFault = false
is_spoken NoMemory = false
is_spoken outcome = true

spoken : (plan : UnitPlan) (begun : Bool) (found : ℕ → Bool) (first now : Option ControlUnit) (o : Outcome) → IsCaused plan begun found first now o → is_spoken o ≡ true
spoken plan begun found None None o is = ap is_spoken is
spoken plan begun found None (Some w) o is = absurd is
spoken plan begun found (Some u) None o is = absurd is
spoken plan begun found (Some u) (Some w) (Refused sid nrc) is = refl
spoken plan begun found (Some u) (Some w) (BadAnswer sid) is = refl
spoken plan begun found (Some u) (Some w) (CheckFailed routine segment status) is = refl
spoken plan begun found (Some u) (Some w) (NoAnswer sid) is = refl
spoken plan begun found (Some u) (Some w) (PendingLimit sid) is = refl
spoken plan begun found (Some u) (Some w) (BusyLimit sid) is = refl
spoken plan begun found (Some u) (Some w) (Undelivered code) is = refl
spoken plan begun found (Some u) (Some w) (IdentMismatch did) is = refl
spoken plan begun found (Some u) (Some w) Complete is = absurd is
spoken plan begun found (Some u) (Some w) (LinkLost times) is = absurd is
spoken plan begun found (Some u) (Some w) (LinkRefused code) is = absurd is
spoken plan begun found (Some u) (Some w) (Blocked by) is = absurd is
spoken plan begun found (Some u) (Some w) DiskFault is = absurd is
spoken plan begun found (Some u) (Some w) NoMemory is = absurd is

by_talk : (rules : LinkRules) (plan : UnitPlan) (found : Entry → Bool) (c : Core) (n : ℕ) (failed : Bool) (faults : ℕ) (first now : Vehicle) (o : Outcome) → IsCaused plan (c.recorded (entry.Begun n)) (marks_of found n) (unit_at first.units plan.address) (unit_at now.units plan.address) o → is_spoken o ≡ true
    → IsOutcomeCaused rules plan found c n failed faults first now o
by_talk rules plan found c n failed faults first now (Refused sid nrc) is e = is
by_talk rules plan found c n failed faults first now (BadAnswer sid) is e = is
by_talk rules plan found c n failed faults first now (CheckFailed routine segment status) is e = is
by_talk rules plan found c n failed faults first now (NoAnswer sid) is e = is
by_talk rules plan found c n failed faults first now (PendingLimit sid) is e = is
by_talk rules plan found c n failed faults first now (BusyLimit sid) is e = is
by_talk rules plan found c n failed faults first now (Undelivered code) is e = is
by_talk rules plan found c n failed faults first now (IdentMismatch did) is e = is
by_talk rules plan found c n failed faults first now Complete is e = absurd (false≢true e)
by_talk rules plan found c n failed faults first now (LinkLost times) is e = absurd (false≢true e)
by_talk rules plan found c n failed faults first now (LinkRefused code) is e = absurd (false≢true e)
by_talk rules plan found c n failed faults first now (Blocked by) is e = absurd (false≢true e)
by_talk rules plan found c n failed faults first now DiskFault is e = absurd (false≢true e)
by_talk rules plan found c n failed faults first now NoMemory is e = absurd (false≢true e)

by_stop : (rules : LinkRules) (plan : UnitPlan) (found : Entry → Bool) (c : Core) (n : ℕ) (failed : Bool) (faults : ℕ) (first now : Vehicle) (o : Outcome) → IsStopCounted rules failed faults first now o → IsOutcomeCaused rules plan found c n failed faults first now o
by_stop rules plan found c n failed faults first now DiskFault counted = counted
by_stop rules plan found c n failed faults first now (LinkLost times) counted = counted
by_stop rules plan found c n failed faults first now (LinkRefused code) counted = counted
by_stop rules plan found c n failed faults first now Complete counted = absurd counted
by_stop rules plan found c n failed faults first now (IdentMismatch a) counted = absurd counted
by_stop rules plan found c n failed faults first now (Refused a b) counted = absurd counted
by_stop rules plan found c n failed faults first now (BadAnswer a) counted = absurd counted
by_stop rules plan found c n failed faults first now (CheckFailed a b d) counted = absurd counted
by_stop rules plan found c n failed faults first now (Undelivered a) counted = absurd counted
by_stop rules plan found c n failed faults first now (NoAnswer a) counted = absurd counted
by_stop rules plan found c n failed faults first now (PendingLimit a) counted = absurd counted
by_stop rules plan found c n failed faults first now (BusyLimit a) counted = absurd counted
by_stop rules plan found c n failed faults first now (Blocked a) counted = absurd counted
by_stop rules plan found c n failed faults first now NoMemory counted = absurd counted

pub counted_law : CountedLaw
counted_law rules P found c failed faults first now t0 n o lt units is at = go (is.rests n o lt at)
  where
    to : (x : Outcome) → o ≡ x → IsOutcomeCaused rules (plan_of P n) found c n failed faults first now x → IsOutcomeCaused rules (plan_of P n) found c n failed faults first now o
    to x same cause = subst (λ (y : Outcome). IsOutcomeCaused rules (plan_of P n) found c n failed faults first now y) (sym same) cause

    go : Rests P c n o → IsOutcomeCaused rules (plan_of P n) found c n failed faults first now o
    go (inl place) =
        let cause = ends_caused rules P found c first now t0 units n o lt place in
        by_talk rules (plan_of P n) found c n failed faults first now o cause (spoken (plan_of P n) (c.recorded (entry.Begun n)) (marks_of found n) (unit_at first.units (plan_of P n).address) (unit_at now.units (plan_of P n).address) o cause)
    go (inr (inl (f, same))) = to DiskFault same (is.faulted n f)
    go (inr (inr (inl stop))) = by_stop rules (plan_of P n) found c n failed faults first now o (subst (λ (x : Option Outcome). StopCounted rules failed faults first now c.link.losses x) stop is.stop)
    go (inr (inr (inr (inl same)))) = to NoMemory same tt
    go (inr (inr (inr (inr (inl (by, same, b)))))) = to (Blocked by) same b
    go (inr (inr (inr (inr (inr (same, done)))))) = to Complete same done

pub start_law : StartLaw
start_law = record { units = units_start; outcomes = start }

-- ------ by what is kept
module _ (rules : LinkRules) (P : List UnitPlan) (found : Entry → Bool) (c : Core) (failed : Bool) (faults : ℕ) (first now : Vehicle) (t0 n : ℕ) (units : AreUnitsCounted rules P found t0 c first now) where
  -- where nothing failed
  module _ (fine : failed ≡ false) (none : faults ≡ 0) (calm : IsVehicleCalm first now) (matching : MatchesAt (found (entry.Begun n)) (plan_of P n) (marks_of found n) (unit_at first.units (plan_of P n).address)) where
    calm_unit : (plan : UnitPlan) (begun : Bool) (marks : ℕ → Bool) (fo wo : Option ControlUnit) → MatchesAt begun plan marks fo → IsUnitCalm fo wo → IsCalmUnit (IsMatchingRun begun plan marks) fo wo
    calm_unit plan begun marks None wo m is = absurd m
    calm_unit plan begun marks (Some u) None m is = absurd is
    calm_unit plan begun marks (Some u) (Some w) m is = (m, is)

    never : (o : Outcome) → IsCaused (plan_of P n) (c.recorded (entry.Begun n)) (marks_of found n) (unit_at first.units (plan_of P n).address) (unit_at now.units (plan_of P n).address) o → ⊥
    never o is = no_cause rules P found c first now t0 units n o (calm_unit (plan_of P n) (found (entry.Begun n)) (marks_of found n) _ _ matching (calm.units (plan_of P n).address)) is

    pub kept_untroubled : (o : Outcome) → IsOutcomeCaused rules (plan_of P n) found c n failed faults first now o → IsCalmOutcome o
    kept_untroubled Complete is = tt
    kept_untroubled NoMemory is = tt
    kept_untroubled (Blocked by) is = tt
    kept_untroubled DiskFault is = both_ways _ fine is
    kept_untroubled (LinkLost times) (times_is, (k, losses, count)) = calm_not k first.gateway.silent now.gateway.silent (omega (arith, losses, none)) count calm.silent
    kept_untroubled (LinkRefused code) rose = calm_not 1 _ _ (omega arith) rose (calm.denied code)
    kept_untroubled (Refused sid nrc) is = never (Refused sid nrc) is
    kept_untroubled (BadAnswer sid) is = never (BadAnswer sid) is
    kept_untroubled (CheckFailed routine segment status) is = never (CheckFailed routine segment status) is
    kept_untroubled (NoAnswer sid) is = never (NoAnswer sid) is
    kept_untroubled (PendingLimit sid) is = never (PendingLimit sid) is
    kept_untroubled (BusyLimit sid) is = never (BusyLimit sid) is
    kept_untroubled (Undelivered code) is = never (Undelivered code) is
    kept_untroubled (IdentMismatch did) is = never (IdentMismatch did) is

  -- of a unit that matches and is calm
  module _ (calm : IsCalmUnit (IsMatchingRun (found (entry.Begun n)) (plan_of P n) (marks_of found n)) (unit_at first.units (plan_of P n).address) (unit_at now.units (plan_of P n).address)) where
    pub kept_recorded : (o : Outcome) → IsOutcomeCaused rules (plan_of P n) found c n failed faults first now o → IsOfRun o
    kept_recorded Complete is = tt
    kept_recorded NoMemory is = tt
    kept_recorded (Blocked by) is = tt
    kept_recorded DiskFault is = tt
    kept_recorded (LinkLost times) is = tt
    kept_recorded (LinkRefused code) is = tt
    kept_recorded (Refused sid nrc) is = no_cause rules P found c first now t0 units n (Refused sid nrc) calm is
    kept_recorded (BadAnswer sid) is = no_cause rules P found c first now t0 units n (BadAnswer sid) calm is
    kept_recorded (CheckFailed routine segment status) is = no_cause rules P found c first now t0 units n (CheckFailed routine segment status) calm is
    kept_recorded (NoAnswer sid) is = no_cause rules P found c first now t0 units n (NoAnswer sid) calm is
    kept_recorded (PendingLimit sid) is = no_cause rules P found c first now t0 units n (PendingLimit sid) calm is
    kept_recorded (BusyLimit sid) is = no_cause rules P found c first now t0 units n (BusyLimit sid) calm is
    kept_recorded (Undelivered code) is = no_cause rules P found c first now t0 units n (Undelivered code) calm is
    kept_recorded (IdentMismatch did) is = no_cause rules P found c first now t0 units n (IdentMismatch did) calm is

pub kept_recorded_law : KeptRecordedLaw
kept_recorded_law rules P found c failed faults first now t0 n o units is lt at calm = kept_recorded rules P found c failed faults first now t0 n units calm o (counted_law rules P found c failed faults first now t0 n o lt units is at)

pub kept_untroubled_law : KeptUntroubledLaw
kept_untroubled_law rules P found c failed faults first now t0 n o units is fine lt at matching =
    kept_untroubled rules P found c failed faults first now t0 n units fine.disk fine.link fine.vehicle matching o (counted_law rules P found c failed faults first now t0 n o lt units is at)

-- ------ over a list
pub outcome_law : OutcomeLaw
outcome_law rules P found events s states n o run lt at =
    counted_law rules P found (core_of rules P (core_start P found) events) (has_failure events) (faults_of events s states) s (last_vehicle s states) s.gateway.tick n o lt
    (counted_run rules P found events s states run) (ended_run rules P found events s states run) at

pub untroubled_law : UntroubledLaw
untroubled_law rules P found events s states n o run lt at failed faults calm matching =
    kept_untroubled rules P found _ (has_failure events) (faults_of events s states) s (last_vehicle s states) s.gateway.tick n (counted_run rules P found events s states run) failed faults calm matching o
    (outcome_law rules P found events s states n o run lt at)

pub recorded_law : RecordedLaw
recorded_law rules P found events s states n o run lt at calm =
    kept_recorded rules P found _ (has_failure events) (faults_of events s states) s (last_vehicle s states) s.gateway.tick n (counted_run rules P found events s states run) calm o
    (outcome_law rules P found events s states n o run lt at)
