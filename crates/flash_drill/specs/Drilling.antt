-- What a drill does: from which start, over which files, and what it prints.
use Rattle.std.specs.Prelude.{◌≡◌, ◌⊎◌, ℕ, Bool, [], ◌++◌}
use Rattle.drill_law.specs.Plans.{plan_of_drill}
use Rattle.drill_law.specs.Vehicles.{vehicle_of_drill}
use Rattle.flash_commands.specs.Running.{AreProgrammedOver}
use Rattle.flash_drill.specs.Ending.{EndsOver, IsPrinted, IsPrintedRun, RunsOver, summary}
use Rattle.flash_shelf.specs.History.{SinkHistory}
use Rattle.flash_shelf.specs.Outside.{WriteFailed}
use Rattle.plan_commands.specs.declared.status.Status.{Status as Ending}
use Rattle.plan_commands.specs.declared.status.Status.TheVariants.{Done, NoMemory, Sink}
use Rattle.shop_model.specs.History.{History, vehicle_now}
use Rattle.unit_model.specs.Vehicle.{Vehicle}
use Rattle.vehicle_world.specs.Worlds.{made_of}
use Rattle.vehicle_world.specs.declared.spec.VehicleSpec.{VehicleSpec}
use Rattle.world_file.specs.Saves.{spec_in}

-- ------ the start
abbrev pub spec_of_drill : ℕ → VehicleSpec
spec_of_drill n = spec_in (vehicle_of_drill n)

-- the vehicle of drill n, to which nothing was done
abbrev pub start_of_drill : ℕ → Vehicle
start_of_drill n = (made_of (spec_of_drill n)).vehicle

-- ------ the whole
-- the run, and the summary line with its lines behind it; where a call found no memory, the summary line alone
pub record Drills (n : ℕ) (h : History) (tells : Bool) (k0 k1 : SinkHistory) (result : Ending) : Type 0 where
  pub page : SinkHistory
  pub status : Ending
  pub starved : Bool
  pub ran : RunsOver n (start_of_drill n) h page status
  pub printed : IsPrintedRun tells k0 k1 n page.written status starved result

-- at `Done` the drill ended well
abbrev pub EndsWell : ℕ → History → Bool → SinkHistory → SinkHistory → Type 0
EndsWell n h tells k0 k1 = EndsOver n (start_of_drill n) h tells k0 k1

-- each unit's memory is that of one plain overwrite by its image
abbrev pub AllHold : ℕ → History → Type 0
AllHold n h = ∥ AreProgrammedOver (plan_of_drill n) (start_of_drill n) (vehicle_now h) ∥₁

-- so it ends; or there was no memory, or the text could not be written whole
abbrev pub Completes : SinkHistory → SinkHistory → Ending → Type 0
Completes k0 k1 result =
    (result ≡ Done) ⊎ (result ≡ NoMemory) ⊎ ((result ≡ Sink) × WriteFailed k0 k1)

-- where a call found no memory, that is the status, and the lines of the run are not printed
abbrev pub EndsStarved : ℕ → Bool → SinkHistory → SinkHistory → Ending → Type 0
EndsStarved n tells k0 k1 result =
    (result ≡ NoMemory) × IsPrinted tells k0 k1 (summary n ++ []) NoMemory result

-- a drill was made, and what became of its shop is not told; or there was no memory for one, and nothing was printed
abbrev pub ServesDrill : ℕ → Bool → SinkHistory → SinkHistory → Ending → Type 0
ServesDrill n tells k0 k1 result =
    ((h : History) × Drills n h tells k0 k1 result) ⊎ ((result ≡ NoMemory) × (k1 ≡ k0))
