-- Records and a vehicle that fit together, and the memory at the end of a run.
use Rattle.std.specs.Prelude.{◌≡◌, ℕ, ◌+◌, ◌<◌, ◌≤◌, Bool, false, ◌==◌, ◌&&◌, ◌||◌, MatchOption, List, [], ◌∷◌, length, slice_index, Some, IsTrue}
use Rattle.disk_model.specs.Disk.{DiskState, IsCrashImage}
use Rattle.flash_base.specs.ByteMaps.{MemoryMap, byte_at}
use Rattle.flash_base.specs.Lists.{Each}
use Rattle.flash_plan.specs.declared.outcome.Entry.{Entry}
use Rattle.flash_plan.specs.declared.outcome.Entry.TheVariants.{Begun, Marked, Complete}
use Rattle.flash_plan.specs.declared.unit.Segment.{Segment}
use Rattle.flash_plan.specs.declared.unit.UnitPlan.{UnitPlan}
use Rattle.flash_plan.specs.Plan.{IsInImage, plan_of, count_of, segment_of, final_memory}
use Rattle.unit_model.specs.Unit.{ControlUnit}
use Rattle.unit_model.specs.Vehicle.{Vehicle, unit_at, memory_of, heard_of}

abbrev pub has_range : List (ℕ × ℕ) → ℕ → ℕ → Bool
has_range [] at size = false
has_range (r ∷ rs) at size = (r.0 == at && r.1 == size) || has_range rs at size

-- the bytes stand in the memory from an address on
abbrev pub HoldsBytes : ℕ → List ℕ → MemoryMap → Type 0
HoldsBytes at xs memory = (k : ℕ) → k < length xs → byte_at memory (at + k) ≡ Some (slice_index xs k)

-- the unit holds the segment, and a check routine found it equal
pub record HasSegment (u : ControlUnit) (s : Segment) : Type 0 where
  pub holds : HoldsBytes s.at s.body u.memory
  pub checked : IsTrue (has_range u.checked s.at (length s.body))

-- the unit holds its image and passed its validation
pub record IsProgrammed (plan : UnitPlan) (u : ControlUnit) : Type 0 where
  pub segments : Each (HasSegment u) plan.segments
  pub passed : IsTrue u.passed

-- the vehicle has the unit, and it is programmed
abbrev pub HasProgrammed : UnitPlan → Vehicle → Type 0
HasProgrammed plan v = MatchOption (unit_at v.units plan.address) ⊥ (IsProgrammed plan)

-- the vehicle has the unit, and it holds the segment, checked
abbrev pub VehicleHas : UnitPlan → Segment → Vehicle → Type 0
VehicleHas plan s v = MatchOption (unit_at v.units plan.address) ⊥ (λ u. HasSegment u s)

abbrev pub AllComplete : (Entry → Bool) → List ℕ → Type 0
AllComplete R after = Each (λ w. IsTrue (R (Complete w))) after

-- Unit n of a plan, for records R, the vehicle v and the vehicle v0 at the start:
-- outside its image nothing has changed; recorded complete, it is programmed; not recorded begun, its memory is
-- unchanged; recorded begun, the units before it are recorded complete; before they are, it has heard nothing; and each of its
-- segments that is recorded marked is in it, checked.
pub record IsUnitSound (R : Entry → Bool) (n : ℕ) (plan : UnitPlan) (v v0 : Vehicle) : Type 0 where
  pub outside : (a : ℕ) → ¬ IsInImage plan.segments a
      → memory_of v plan.address a ≡ memory_of v0 plan.address a
  pub complete : IsTrue (R (Complete n)) → IsTrue (R (Begun n)) × HasProgrammed plan v
  pub untouched : ¬ IsTrue (R (Begun n)) → (a : ℕ) → memory_of v plan.address a ≡ memory_of v0 plan.address a
  pub ordered : IsTrue (R (Begun n)) → AllComplete R plan.after
  pub waits : ¬ AllComplete R plan.after → heard_of v plan.address ≤ heard_of v0 plan.address
  pub marked : (s : ℕ) → s < length plan.segments → IsTrue (R (Marked n s)) → IsTrue (R (Begun n))
      × VehicleHas plan (segment_of plan s) v

-- records and a vehicle fit together
abbrev pub IsSound : List UnitPlan → (Entry → Bool) → Vehicle → Vehicle → Type 0
IsSound P R v v0 = (n : ℕ) → n < count_of P → IsUnitSound R n (plan_of P n) v v0

-- whatever a crash leaves of the disk, its records fit the vehicle
abbrev pub IsSoundDisk : List UnitPlan → (List ℕ → Entry → Bool) → Vehicle → DiskState → Vehicle → Type 0
IsSoundDisk P records_in v0 disk v = (image : List ℕ) → IsCrashImage disk image
    → IsSound P (records_in image) v v0

-- The memory of each unit is that of one plain overwrite by its image. Addresses of units are distinct, so no order matters.
abbrev pub HasFinalMemory : UnitPlan → Vehicle → Vehicle → Type 0
HasFinalMemory plan v0 v = MatchOption (unit_at v0.units plan.address) ⊥
    (λ u0. MatchOption (unit_at v.units plan.address) ⊥
    (λ u. (a : ℕ) → byte_at u.memory a ≡ byte_at (final_memory plan u0.memory) a))

abbrev pub IsFinalVehicle : List UnitPlan → Vehicle → Vehicle → Type 0
IsFinalVehicle P v0 v = (n : ℕ) → n < count_of P → HasFinalMemory (plan_of P n) v0 v
