-- A unit that was found complete hears nothing.
use Rattle.std.proofs.Common.{◌≡◌, inl, inr, ℕ, ◌<◌, true, false, List, [], ◌∷◌, None, Some, refl, ◌∙◌, ap, subst}
use Rattle.std.specs.Prelude.{Bool, Option, ◌||◌}
use Rattle.std.proofs.lemmas.Bool.{both_ways, and_parts}
use Rattle.bay_core.proofs.Allowed.{sent_facts}
use Rattle.bay_core.proofs.OneStep.{step_law}
use Rattle.bay_core.proofs.Sounds.{units_received, units_tended}
use Rattle.bay_core.proofs.Ticks.{between, sent_can}
use Rattle.bay_core.specs.Core.{Core, core_after}
use Rattle.bay_core.specs.Joint.{IsVehicleJoint}
use Rattle.bay_core.specs.Law.{DrivesAll}
use Rattle.bay_core.specs.Legal.{is_allowed, is_legal}
use Rattle.bay_core.specs.Moves.{MovesVehicle}
use Rattle.bay_core.specs.declared.event.Event.TheVariants.{Claimed, Began, Sent, Collected, Tended, Marked, Completed, DiskFailed, Ended}
use Rattle.bay_core.specs.declared.event.Event.{Event}
use Rattle.flash_plan.specs.Plan.{IsAccepted, plan_of, count_of}
use Rattle.flash_plan.specs.declared.outcome.Entry.TheVariants as entry
use Rattle.flash_plan.specs.declared.outcome.Entry.{Entry}
use Rattle.flash_plan.specs.declared.unit.LinkRules.{LinkRules}
use Rattle.flash_plan.specs.declared.unit.UnitPlan.{UnitPlan}
use Rattle.flash_plan.specs.Outcomes.{same_entry}
use Rattle.outcome_law.specs.Law.{last_vehicle}
use Rattle.run_model.proofs.Hearing.{Stepped, sent_heard}
use Rattle.run_model.proofs.Phases.{up_live}
use Rattle.run_model.specs.Script.{bytes_at}
use Rattle.unit_model.proofs.Units.{SameIn, SameUnits}
use Rattle.unit_model.specs.Unit.{ControlUnit}
use Rattle.unit_model.specs.Vehicle.{Vehicle, heard_in, heard_of}

same_heard : (o o2 : Option ControlUnit) → SameIn o o2 → heard_in o2 ≡ heard_in o
same_heard None None same = refl
same_heard None (Some w) same = absurd same
same_heard (Some u) None same = absurd same
same_heard (Some u) (Some w) same = ap (λ (y : ControlUnit). y.heard) same.same

module _ (rules : LinkRules) (P : List UnitPlan) (found : Entry → Bool) (c : Core) (v v2 : Vehicle) (t0 : ℕ) (accepted : IsAccepted P) (joint : IsVehicleJoint rules P found c v t0) (n : ℕ) (lt : n < count_of P) (done : c.recorded (entry.Complete n) ≡ true) where
  still : v2 ≡ v → heard_of v2 (plan_of P n).address ≡ heard_of v (plan_of P n).address
  still is = ap (λ (w : Vehicle). heard_of w (plan_of P n).address) is

  units_same : SameUnits v.units v2.units → heard_of v2 (plan_of P n).address ≡ heard_of v (plan_of P n).address
  units_same same = same_heard _ _ (same (plan_of P n).address)

  stepped : (u place : ℕ) (lost : Bool) → is_allowed P c (Sent u place lost) ≡ true → Stepped (plan_of P u).address (bytes_at (plan_of P u) (c.slots u).talk.place) v.units v2.units → heard_of v2 (plan_of P n).address ≡ heard_of v (plan_of P n).address
  stepped u place lost ok s =
      let f = sent_facts P c u place lost ok in
      let other : n ≡ u → ⊥ = λ e. both_ways _ ((joint.sane.slots u f.below).incomplete f.none) (subst (λ (k : ℕ). c.recorded (entry.Complete k) ≡ true) e done) in
      let apart : (plan_of P n).address ≡ (plan_of P u).address → ⊥ = λ q. other (accepted.addresses n u lt f.below q) in
      ap (λ (o : Option ControlUnit). heard_in o) (s.others (plan_of P n).address apart)

  -- in one event
  pub idle_step : (e : Event) → is_allowed P c e ≡ true → MovesVehicle rules P c e v v2 → heard_of v2 (plan_of P n).address ≡ heard_of v (plan_of P n).address
  idle_step (Claimed u) ok did = still did
  idle_step (Began u) ok did = still did
  idle_step (Sent u place lost) ok did =
      let f = sent_facts P c u place lost ok in
      elim (sent_heard rules.tester (plan_of P u).address (bytes_at (plan_of P u) (c.slots u).talk.place) lost v v2 (sent_can rules P c found v t0 accepted joint u f.below f.request)
      (between rules c.link v.gateway (joint.connected (up_live c.link.phase f.up))) did) [
        | inl same ↦ units_same same
        | inr s ↦ stepped u place lost ok s
      ]
  idle_step (Collected u h) ok did = units_same (units_received rules P c found v t0 accepted joint h v2 did)
  idle_step (Tended step) ok did = units_same (units_tended rules P c found v t0 accepted joint step v2 (and_parts _ _ ok).1 did)
  idle_step (Marked u s) ok did = still did
  idle_step (Completed u) ok did = still did
  idle_step (DiskFailed u x) ok did = still did
  idle_step (Ended u why) ok did = still did

or_keeps : (a b : Bool) → b ≡ true → (a || b) ≡ true
or_keeps true b e = refl
or_keeps false b e = e

-- what is recorded stays
recorded_stays : (rules : LinkRules) (P : List UnitPlan) (e : Event) (c : Core) (x : Entry) → c.recorded x ≡ true → (core_after rules P e c).recorded x ≡ true
recorded_stays rules P (Claimed u) c x is = is
recorded_stays rules P (Began u) c x is = or_keeps (same_entry x (entry.Begun u)) (c.recorded x) is
recorded_stays rules P (Sent u place lost) c x is = is
recorded_stays rules P (Collected u h) c x is = is
recorded_stays rules P (Tended step) c x is = is
recorded_stays rules P (Marked u s) c x is = or_keeps (same_entry x (entry.Marked u s)) (c.recorded x) is
recorded_stays rules P (Completed u) c x is = or_keeps (same_entry x (entry.Complete u)) (c.recorded x) is
recorded_stays rules P (DiskFailed u y) c x is = is
recorded_stays rules P (Ended u why) c x is = is

-- and in all
pub idle_along : (rules : LinkRules) (P : List UnitPlan) (found : Entry → Bool) (c : Core) (events : List Event) (v : Vehicle) (vs : List Vehicle) (t0 n : ℕ) → IsAccepted P → is_legal rules P c events ≡ true → IsVehicleJoint rules P found c v t0 → DrivesAll rules P c events v vs
    → n < count_of P → c.recorded (entry.Complete n) ≡ true → heard_of (last_vehicle v vs) (plan_of P n).address ≡ heard_of v (plan_of P n).address
idle_along rules P found c [] v [] t0 n accepted legal joint drives lt done = refl
idle_along rules P found c [] v (w ∷ ws) t0 n accepted legal joint drives lt done = absurd (some_cons drives)
  where
    some_cons : w ∷ ws ≡ [] → ⊥
    some_cons e = cc
idle_along rules P found c (e ∷ es) v [] t0 n accepted legal joint drives lt done = absurd drives
idle_along rules P found c (e ∷ es) v (w ∷ ws) t0 n accepted legal joint drives lt done =
    let ok = and_parts (is_allowed P c e) (is_legal rules P (core_after rules P e c) es) legal in
    idle_along rules P found (core_after rules P e c) es w ws t0 n accepted ok.1 (step_law.vehicle rules P found c e v w t0 accepted ok.0 drives.0 joint) drives.1 lt (recorded_stays rules P e c (entry.Complete n) done)
    ∙ idle_step rules P found c v w t0 accepted joint n lt done e ok.0 drives.0
