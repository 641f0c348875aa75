-- What link calls may do to the units: unit steps, and raised counts of troubles.
use Rattle.std.specs.Prelude.{◌≡◌, ◌⊎◌, ℕ, List, [], ◌∷◌, Result}
use Rattle.disk_model.specs.declared.device.DeviceFault.{DeviceFault}
use Rattle.unit_model.specs.declared.reply.UnitReply.{UnitReply}
use Rattle.unit_model.specs.Unit.{ControlUnit}
use Rattle.unit_model.specs.Step.{UnitStep}
use Rattle.unit_model.specs.Poll.{Ticks, Carries, Misses}
use Rattle.unit_model.specs.Vehicle.{Vehicle}
use Rattle.shop_model.specs.History.{Sent, Redialed}

-- but for its counts of troubles it is the same unit
pub record SameButCounts (old new : ControlUnit) : Type 0 where
  pub becomes : new ≡ record old { counts = new.counts }

-- a request that a unit heard, and the tick
pub record HeardAt : Type 0 where
  pub tick : ℕ
  pub request : List ℕ

-- one step of the unit for each of these requests, in their order; between steps nothing but counts of troubles changes
abbrev pub StepsBy : List HeardAt → ControlUnit → ControlUnit → Type 0
StepsBy [] old new = SameButCounts old new
StepsBy (h ∷ hs) old new =
    (before : ControlUnit) × (replies : List UnitReply) × (behind : ControlUnit)
    × SameButCounts old before × UnitStep before h.request h.tick replies behind × StepsBy hs behind new

-- it is that unit after some list of steps
pub record IsAfterSteps (old new : ControlUnit) : Type 0 where
  pub heard : List HeardAt
  pub steps : StepsBy heard old new

-- each of the units is, and no unit comes or goes
abbrev pub AreAfterSteps : List ControlUnit → List ControlUnit → Type 0
AreAfterSteps [] [] = Unit {0}
AreAfterSteps [] (w ∷ ws) = ⊥
AreAfterSteps (u ∷ us) [] = ⊥
AreAfterSteps (u ∷ us) (w ∷ ws) = IsAfterSteps u w × AreAfterSteps us ws

-- the units of one vehicle are those of another after steps
abbrev pub StepsUnits : Vehicle → Vehicle → Type 0
StepsUnits old new = AreAfterSteps old.units new.units

-- a receive: a tick, a piece, garbled or not, or a failure
abbrev pub IsReceive : Vehicle → Vehicle → Type 0
IsReceive old new = Ticks old new ⊎ Misses old new ⊎ ((piece : List ℕ) × Carries piece old new)

-- so it is with each link call, also with one that failed, and with steps behind steps
pub record AreUnitSteps : Type 0 where
  pub sent : (bytes : List ℕ) (old new : Vehicle) (result : Result Unit DeviceFault)
      → Sent bytes old new result → StepsUnits old new
  pub received : (old new : Vehicle) → IsReceive old new → StepsUnits old new
  pub redialed : (old new : Vehicle) (result : Result Unit DeviceFault) → Redialed old new result
      → StepsUnits old new
  pub same : (v : Vehicle) → StepsUnits v v
  pub goes_on : (a b c : Vehicle) → StepsUnits a b → StepsUnits b c → StepsUnits a c
