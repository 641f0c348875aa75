-- What a run over a shop says at its end.
use Rattle.std.proofs.Common.{◌≡◌, inl, inr, ℕ, ◌<◌, true, false, List, [], ◌++◌, None, Some, refl, sym, ◌∙◌, ap, subst, arith}
use Rattle.std.specs.Prelude.{Bool, Option, IsTrue, MatchBool, MatchOption}
use Rattle.std.proofs.lemmas.Bool.{cases_Bool, false≢true}
use Rattle.barrier_board.specs.Board.{has_entry, says_complete}
use Rattle.bay_core.specs.Core.{Core, core_start}
use Rattle.bay_core.specs.Joint.{IsDone}
use Rattle.bay_core.specs.Stops.{has_failure}
use Rattle.disk_model.specs.Disk.{DiskState}
use Rattle.flash_plan.specs.Plan.{plan_of, count_of}
use Rattle.flash_plan.specs.declared.outcome.Entry.{Entry}
use Rattle.flash_plan.specs.declared.outcome.Entry.TheVariants.{Complete}
use Rattle.flash_plan.specs.declared.outcome.Outcome.{Outcome}
use Rattle.flash_plan.specs.declared.outcome.Outcome.TheVariants as outcome
use Rattle.flash_plan.specs.declared.unit.LinkRules.{LinkRules}
use Rattle.flash_plan.specs.declared.unit.UnitPlan.{UnitPlan}
use Rattle.flash_run.specs.Run.{RunState, IsKept, core_of_run}
use Rattle.outcome_law.proofs.Blocking.{complete_law}
use Rattle.outcome_law.proofs.Faulting.{disk_fault_law, failed_law}
use Rattle.outcome_law.proofs.Recorded.{outcome_law}
use Rattle.outcome_law.specs.Law.{last_vehicle}
use Rattle.outcome_law.specs.Outcomes.{IsOutcomeCaused}
use Rattle.outcome_law.specs.Rising.{RoseBy}
use Rattle.run_model.specs.Entries.{marks_of}
use Rattle.run_model.specs.Troubles.{IsVehicleCalm}
use Rattle.shop_model.specs.History.{History, disk_now, vehicle_now}
use Rattle.flash_base.specs.Counts.{LAST_COUNT}
use Rattle.unit_model.specs.Unit.{ControlUnit}
use Rattle.unit_model.specs.Vehicle.{Vehicle, unit_at, heard_of, heard_in}
use Rattle.bay_law.specs.Bay.{JournalState, IsBay}
use Rattle.bay_law.specs.Closed.{HasOutcome, AreRecorded, AreCaused, HoldImages, AreCompleted, Says}
use Rattle.bay_law.specs.Driven.{IsTold, Strays}
use Rattle.bay_law.proofs.Driving.{driven_run, driven_joint, driven_start}
use Rattle.bay_law.proofs.Idle.{idle_along}
use Rattle.bay_law.proofs.Units.{strays_units}

-- ------ records
complete_is : (o : Option Outcome) → says_complete o ≡ true → o ≡ Some outcome.Complete
complete_is None e = absurd (false≢true e)
complete_is (Some outcome.Complete) e = refl
complete_is (Some (outcome.IdentMismatch a)) e = absurd (false≢true e)
complete_is (Some (outcome.Refused a b)) e = absurd (false≢true e)
complete_is (Some (outcome.BadAnswer a)) e = absurd (false≢true e)
complete_is (Some (outcome.CheckFailed a b c)) e = absurd (false≢true e)
complete_is (Some (outcome.Undelivered a)) e = absurd (false≢true e)
complete_is (Some (outcome.NoAnswer a)) e = absurd (false≢true e)
complete_is (Some (outcome.PendingLimit a)) e = absurd (false≢true e)
complete_is (Some (outcome.BusyLimit a)) e = absurd (false≢true e)
complete_is (Some (outcome.LinkLost a)) e = absurd (false≢true e)
complete_is (Some (outcome.LinkRefused a)) e = absurd (false≢true e)
complete_is (Some (outcome.Blocked a)) e = absurd (false≢true e)
complete_is (Some outcome.DiskFault) e = absurd (false≢true e)
complete_is (Some outcome.NoMemory) e = absurd (false≢true e)

recorded_complete : (r : RunState) (n : ℕ) → IsKept r → n < count_of r.plan → HasOutcome r n outcome.Complete → (core_of_run r).recorded (Complete n) ≡ true
recorded_complete r n kept lt has = sym (kept.complete n lt) ∙ ap (λ (o : Option Outcome). says_complete o) has

-- ------ a receive for which there was no memory changes nothing that is spoken of
-- of a vehicle with the same units and counts the causes are the same
strays_caused : (rules : LinkRules) (plan : UnitPlan) (found : Entry → Bool) (c : Core) (n : ℕ) (failed : Bool) (faults : ℕ) (first v : Vehicle) (ready carried : List ℕ) (o : Outcome) → IsOutcomeCaused rules plan found c n failed faults first v o
    → IsOutcomeCaused rules plan found c n failed faults first (record v { gateway = record v.gateway { ready = ready; carried = carried } }) o
strays_caused rules plan found c n failed faults first v ready carried outcome.Complete is = is
strays_caused rules plan found c n failed faults first v ready carried (outcome.IdentMismatch a) is = is
strays_caused rules plan found c n failed faults first v ready carried (outcome.Refused a b) is = is
strays_caused rules plan found c n failed faults first v ready carried (outcome.BadAnswer a) is = is
strays_caused rules plan found c n failed faults first v ready carried (outcome.CheckFailed a b d) is = is
strays_caused rules plan found c n failed faults first v ready carried (outcome.Undelivered a) is = is
strays_caused rules plan found c n failed faults first v ready carried (outcome.NoAnswer a) is = is
strays_caused rules plan found c n failed faults first v ready carried (outcome.PendingLimit a) is = is
strays_caused rules plan found c n failed faults first v ready carried (outcome.BusyLimit a) is = is
strays_caused rules plan found c n failed faults first v ready carried (outcome.LinkLost a) is = is
strays_caused rules plan found c n failed faults first v ready carried (outcome.LinkRefused a) is = is
strays_caused rules plan found c n failed faults first v ready carried (outcome.Blocked a) is = is
strays_caused rules plan found c n failed faults first v ready carried outcome.DiskFault is = is
strays_caused rules plan found c n failed faults first v ready carried outcome.NoMemory is = is

caused_now : (rules : LinkRules) (plan : UnitPlan) (found : Entry → Bool) (c : Core) (n : ℕ) (failed : Bool) (faults : ℕ) (first last now : Vehicle) (starved : Bool) (o : Outcome) → MatchBool starved (Strays last now) (now ≡ last)
    → IsOutcomeCaused rules plan found c n failed faults first last o → IsOutcomeCaused rules plan found c n failed faults first now o
caused_now rules plan found c n failed faults first last now true o (inl same) is = subst (λ (w : Vehicle). IsOutcomeCaused rules plan found c n failed faults first w o) (sym same) is
caused_now rules plan found c n failed faults first last now true o (inr (piece, carries)) is =
    subst (λ (w : Vehicle). IsOutcomeCaused rules plan found c n failed faults first w o) (sym carries.becomes) (strays_caused rules plan found c n failed faults first last now.gateway.ready (last.gateway.carried ++ piece) o is)
caused_now rules plan found c n failed faults first last now false o same is = subst (λ (w : Vehicle). IsOutcomeCaused rules plan found c n failed faults first w o) (sym same) is

calm_last : (first last now : Vehicle) (starved : Bool) → MatchBool starved (Strays last now) (now ≡ last) → IsVehicleCalm first now → IsVehicleCalm first last
calm_last first last now true (inl same) calm = subst (λ (w : Vehicle). IsVehicleCalm first w) same calm
calm_last first last now true (inr (piece, carries)) calm =
    let whole : IsVehicleCalm first (record last { gateway = record last.gateway { ready = now.gateway.ready; carried = last.gateway.carried ++ piece } }) = subst (λ (w : Vehicle). IsVehicleCalm first w) carries.becomes calm in
    record { denied = whole.denied; silent = whole.silent; units = whole.units }
calm_last first last now false same calm = subst (λ (w : Vehicle). IsVehicleCalm first w) same calm

-- ------ all of it
none_lost : (faults x y last : ℕ) → RoseBy faults x y → y ≡ x → x < last → last ≡ LAST_COUNT → faults ≡ 0
none_lost faults x y last rose same below is = omega (arith, rose, same, below, is)

module _ (td tv : Bool) (r : RunState) (first now : History) (j : JournalState) (K : DiskState → Type 0) (kept : IsKept r) (is : IsBay td tv r first now j K) where
  recorded : IsTrue td → AreRecorded r (disk_now now)
  recorded d = record {
    complete = λ n lt has image left. (is.journal.covers d image left).has (Complete n) (recorded_complete r n kept lt has);
    other = λ n lt image left in_it. elim ((is.journal.covers d image left).only (Complete n) in_it) [
      | inl rec ↦ inl (complete_is ((core_of_run r).slots n).outcome (kept.complete n lt ∙ rec))
      | inr doubt ↦ inr doubt
    ];
    covers = is.journal.covers d;
  }

  failed_is : has_failure r.events ≡ (core_of_run r).halt.failed
  failed_is = sym (failed_law r.rules r.plan (has_entry r.found) r.events)

  caused : (t : IsTold r first now) → AreCaused r first now
  caused t = record {
    faults = t.faults;
    rose = t.rose;
    each = λ n o lt has.
        caused_now r.rules (plan_of r.plan n) (has_entry r.found) (core_of_run r) n (core_of_run r).halt.failed t.faults (vehicle_now first) t.last (vehicle_now now) r.starved o t.stands
        (subst (λ (x : Bool × ℕ × Vehicle). IsOutcomeCaused r.rules (plan_of r.plan n) (has_entry r.found) (core_of_run r) n x.0 x.1 (vehicle_now first) x.2 o) (λ i. (failed_is i, t.driven.faults_are i, t.driven.last_is i))
        (outcome_law r.rules r.plan (has_entry r.found) r.events (vehicle_now first) t.driven.vehicles n o (driven_run r.rules r.plan (has_entry r.found) r.events (vehicle_now first) t.last t.faults kept.accepted kept.legal t.driven) lt has));
  }

  images : (t : IsTold r first now) → HoldImages r first now
  images t n lt has heard = elim (cases_Bool (has_entry r.found (Complete n))) [
    | inl was ↦ absurd (heard (idle was))
    | inr fresh ↦ subst (λ (us : List ControlUnit). MatchOption (unit_at us (plan_of r.plan n).address) ⊥ (IsDone (plan_of r.plan n) (marks_of (has_entry r.found) n))) (sym (strays_units r first now t))
        ((driven_joint r.rules r.plan (has_entry r.found) r.events (vehicle_now first) t.last t.faults kept.accepted kept.legal t.driven).completed n lt (record { recorded = recorded_complete r n kept lt has; unfound = fresh }))
  ]
    where
      idle : has_entry r.found (Complete n) ≡ true → heard_of (vehicle_now now) (plan_of r.plan n).address ≡ heard_of (vehicle_now first) (plan_of r.plan n).address
      idle was =
          let start = driven_joint r.rules r.plan (has_entry r.found) [] (vehicle_now first) (vehicle_now first) 0 kept.accepted refl (driven_start r.rules r.plan (has_entry r.found) (vehicle_now first)) in
          let along : heard_of (last_vehicle (vehicle_now first) t.driven.vehicles) (plan_of r.plan n).address ≡ heard_of (vehicle_now first) (plan_of r.plan n).address =
          idle_along r.rules r.plan (has_entry r.found) (core_start r.plan (has_entry r.found)) r.events (vehicle_now first) t.driven.vehicles (vehicle_now first).gateway.tick n kept.accepted kept.legal start t.driven.drives lt was in
          ap (λ (us : List ControlUnit). heard_in (unit_at us (plan_of r.plan n).address)) (strays_units r first now t)
          ∙ ap (λ (v : Vehicle). heard_of v (plan_of r.plan n).address) (sym t.driven.last_is) ∙ along

  completed : (t : IsTold r first now) → AreCompleted r first now
  completed t calm match n o lt has =
      let none : t.faults ≡ 0 = none_lost t.faults first.link_faults now.link_faults LAST_COUNT t.rose calm.link calm.below refl in
      let still : IsVehicleCalm (vehicle_now first) (last_vehicle (vehicle_now first) t.driven.vehicles) =
      subst (λ (v : Vehicle). IsVehicleCalm (vehicle_now first) v) (sym t.driven.last_is) (calm_last (vehicle_now first) t.last (vehicle_now now) r.starved t.stands calm.vehicle) in
      complete_law r.rules r.plan (has_entry r.found) r.events (vehicle_now first) t.driven.vehicles n o (driven_run r.rules r.plan (has_entry r.found) r.events (vehicle_now first) t.last t.faults kept.accepted kept.legal t.driven) lt has
      (failed_is ∙ calm.disk) (t.driven.faults_are ∙ none) still match

  pub says : Says td tv r first now
  says = record {
    sound = is.sentence;
    recorded = recorded;
    fault = λ n lt has. is.failed (sym failed_is ∙ disk_fault_law r.rules r.plan (has_entry r.found) r.events n kept.accepted kept.legal lt has);
    failed = is.failed;
    caused = λ t shown. caused (is.told t shown);
    images = λ t shown. images (is.told t shown);
    completed = λ t shown. completed (is.told t shown);
  }
