-- What speaks of units alone, whatever the gateway has carried.
use Rattle.std.proofs.Common.{◌≡◌, inl, inr, true, false, List, sym, ap, subst}
use Rattle.std.specs.Prelude.{Bool, MatchBool}
use Rattle.flash_plan.specs.declared.outcome.Entry.{Entry}
use Rattle.flash_plan.specs.declared.unit.UnitPlan.{UnitPlan}
use Rattle.flash_run.specs.Run.{RunState}
use Rattle.run_model.specs.Sound.{IsSound}
use Rattle.shop_model.specs.History.{History, vehicle_now}
use Rattle.unit_model.specs.Unit.{ControlUnit}
use Rattle.unit_model.specs.Vehicle.{Vehicle}
use Rattle.bay_law.specs.Driven.{IsTold, Strays}

-- the records fit a vehicle by its units
pub sound_units : (P : List UnitPlan) (R : Entry → Bool) (v w v0 : Vehicle) → w.units ≡ v.units → IsSound P R v v0 → IsSound P R w v0
sound_units P R v w v0 same sound =
    let here : IsSound P R (record { gateway = w.gateway; units = v.units }) v0 = λ n lt.
    let s = sound n lt in record { outside = s.outside; complete = s.complete; untouched = s.untouched; ordered = s.ordered; waits = s.waits; marked = s.marked } in
    subst (λ (us : List ControlUnit). IsSound P R (record { gateway = w.gateway; units = us }) v0) (sym same) here

-- a receive leaves the units
strays_same : (v w : Vehicle) → Strays v w → w.units ≡ v.units
strays_same v w (inl same) = ap (λ (x : Vehicle). x.units) same
strays_same v w (inr (piece, c)) = ap (λ (x : Vehicle). x.units) c.becomes

pub strays_units : (r : RunState) (first now : History) (t : IsTold r first now) → (vehicle_now now).units ≡ t.last.units
strays_units r first now t = by r.starved t.stands
  where
    by : (b : Bool) → MatchBool b (Strays t.last (vehicle_now now)) (vehicle_now now ≡ t.last) → (vehicle_now now).units ≡ t.last.units
    by true s = strays_same t.last (vehicle_now now) s
    by false s = ap (λ (x : Vehicle). x.units) s
