-- The sentence on each moment: whatever a crash leaves of the disk, its records fit the vehicle of that moment.
use Rattle.std.specs.Prelude.{ℕ, Bool, List}
use Rattle.bay_core.specs.Core.{Core}
use Rattle.bay_core.specs.Joint.{IsJoint, RecordsAgree}
use Rattle.disk_model.specs.Disk.{DiskState, IsCrashImage}
use Rattle.flash_plan.specs.declared.outcome.Entry.{Entry}
use Rattle.flash_plan.specs.declared.unit.LinkRules.{LinkRules}
use Rattle.flash_plan.specs.declared.unit.UnitPlan.{UnitPlan}
use Rattle.journal_model.specs.Records.{records, label_of}
use Rattle.run_model.specs.Sound.{IsSoundDisk}
use Rattle.shop_model.specs.History.{History, disk_now, vehicle_now}
use Rattle.shop_model.specs.Through.{HoldsWhileShown}
use Rattle.unit_model.specs.Vehicle.{Vehicle}

-- each image records what fits the vehicle, seen from the vehicle v0
abbrev pub IsSoundAt : List UnitPlan → Vehicle → DiskState → Vehicle → Type 0
IsSoundAt P v0 disk v = IsSoundDisk P (records (label_of P)) v0 disk v

-- where it is so at the opening, it is so at each moment since, up to which each receive was shown
abbrev pub KeepsSound : List UnitPlan → History → History → Type 0
KeepsSound P first now = (v0 : Vehicle) → IsSoundAt P v0 (disk_now first) (vehicle_now first)
    → HoldsWhileShown first now (IsSoundAt P v0)

-- each image records what the events have recorded, but for entries whose append failed, each of which it may have
abbrev pub Covers : List UnitPlan → Core → DiskState → Type 0
Covers P c disk = (image : List ℕ) → IsCrashImage disk image → RecordsAgree c (records (label_of P) image)

-- the whole joint state, for the records of each image
abbrev pub IsJointAt : LinkRules → List UnitPlan → (Entry → Bool) → Core → DiskState → Vehicle → Vehicle → ℕ
    → Type 0
IsJointAt rules P found c disk v v0 t0 = (image : List ℕ) → IsCrashImage disk image
    → IsJoint rules P found c (records (label_of P) image) v v0 t0
