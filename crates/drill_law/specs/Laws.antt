-- What the files and the vehicle of a drill are good for.
use Rattle.std.specs.Prelude.{◌≡◌, ◌⊎◌, ℕ, ◌≤◌, false, List, [], codes, map, Result, Ok, Err}
use Rattle.bay_law.specs.Sentence.{IsSoundAt}
use Rattle.bench_gen.specs.Files.{AreFiles, IsTextOf}
use Rattle.bench_gen.specs.Sizes.{all_bytes_of}
use Rattle.bench_gen.specs.Vehicle.{vehicle_data}
use Rattle.disk_model.specs.Disk.{DiskState}
use Rattle.drill_law.specs.Plans.{built_of_drill, plan_of_drill}
use Rattle.drill_law.specs.Vehicles.{unit_specs, vehicle_of_drill}
use Rattle.flash_journal.specs.Look.{Opens}
use Rattle.flash_plan.specs.Plan.{IsAccepted, total_of}
use Rattle.flash_plan.specs.declared.unit.UnitPlan.{UnitPlan}
use Rattle.journal_model.specs.Records.{label_of, records}
use Rattle.outcome_law.specs.Outcomes.{AllMatch}
use Rattle.plan_build.specs.Building.{built}
use Rattle.plan_build.specs.declared.built.Built.{Built}
use Rattle.plan_build.specs.declared.fault.BuildFault.{BuildFault}
use Rattle.plan_build.specs.declared.fault.BuildFault.TheVariants.{NoMemory}
use Rattle.run_model.specs.Matching.{Matches}
use Rattle.unit_model.specs.Running.{unit_of}
use Rattle.unit_model.specs.Vehicle.{Vehicle}
use Rattle.vehicle_file.specs.Files.{vehicle_of}

-- the files of a drill build to its plan
abbrev pub FilesBuild : Type 0
FilesBuild = (n : ℕ) (files : List (List ℕ × List ℕ)) → n ≤ 999999 → AreFiles n files
    → built files (codes "drill.json") (Ok (built_of_drill n))

-- and, want of memory aside, to nothing else
abbrev pub FilesBuildOnly : Type 0
FilesBuildOnly = (n : ℕ) (files : List (List ℕ × List ℕ)) (r : Result Built BuildFault) → n ≤ 999999
    → AreFiles n files → built files (codes "drill.json") r
    → (r ≡ Err NoMemory) ⊎ (r ≡ Ok (built_of_drill n))

-- which is accepted, and has as many bytes as the summary of a drill says
abbrev pub PlanIsAccepted : Type 0
PlanIsAccepted = (n : ℕ) → n ≤ 999999 → IsAccepted (plan_of_drill n)

abbrev pub PlanHasBytes : Type 0
PlanHasBytes = (n : ℕ) → total_of (plan_of_drill n) ≡ all_bytes_of n

-- the text of a drill's vehicle is read as its vehicle
abbrev pub VehicleIsRead : Type 0
VehicleIsRead = (n : ℕ) (text : List ℕ) → n ≤ 999999 → IsTextOf (vehicle_data n) text
    → vehicle_of text ≡ Ok (vehicle_of_drill n)

-- a vehicle of just these units has for each task of the plan a unit that matches it, with nothing recorded
abbrev pub UnitsMatch : Type 0
UnitsMatch = (n : ℕ) (v : Vehicle) → n ≤ 999999 → v.units ≡ map unit_of (unit_specs n)
    → Matches (plan_of_drill n) (λ e. false) v × AllMatch (plan_of_drill n) (λ e. false) v

-- ------ the start of a drill
-- a file that is not there
abbrev pub no_file : DiskState
no_file = record { bytes = []; ranges = []; synced = 0 }

-- an empty journal can be opened for every plan, and fits every vehicle as it is, whatever a crash leaves
abbrev pub EmptyOpens : Type 0
EmptyOpens = (P : List UnitPlan) → Opens (label_of P) []

abbrev pub EmptyIsSound : Type 0
EmptyIsSound = (P : List UnitPlan) (v : Vehicle) → IsSoundAt P v no_file v

-- and by what it records each unit of a drill matches its task
abbrev pub EmptyMatches : Type 0
EmptyMatches = (n : ℕ) (v : Vehicle) → n ≤ 999999 → v.units ≡ map unit_of (unit_specs n)
    → AllMatch (plan_of_drill n) (records (label_of (plan_of_drill n)) []) v
