-- What a shop tells of its moments so far.
use Rattle.std.specs.Prelude.{ℕ, suc, ◌+◌, ◌<◌, ◌==◌, nat_lt, [], if◌then◌else◌}
use Rattle.disk_model.specs.Disk.{DiskState}
use Rattle.unit_model.specs.Vehicle.{Vehicle}
use Rattle.shop_model.specs.History.{Call, Len}
use Rattle.shop_model.specs.Stepping.{StepsUnits}
use Rattle.mem_disk.specs.Made.{call_of}
use Rattle.vehicle_world.specs.Worlds.{world_of}
use Rattle.vehicle_world.specs.declared.world.World.{World}
use Rattle.folder_shop.specs.declared.moments.Past.{Past, Start, Then'}

abbrev pub vehicle_of : World → Vehicle
vehicle_of w = (world_of w).vehicle

-- the number of calls
abbrev pub depth : Past → ℕ
depth Start = 0
depth (Then' c w k before) = suc (depth before)

abbrev pub call_in : Past → ℕ → Call
call_in Start m = Len
call_in (Then' c w k before) m = if depth before == m then call_of c.value else call_in before m

-- the vehicle at a moment, where it is this one at the last
abbrev pub vehicle_in : Past → Vehicle → ℕ → Vehicle
vehicle_in Start now m = now
vehicle_in (Then' c w k before) now m =
    if nat_lt (depth before) m then now else vehicle_in before (vehicle_of w.value) m

-- from each moment to the next its units made steps
abbrev pub AreSteps : Past → Vehicle → Type 0
AreSteps past now =
    (m : ℕ) → m < depth past → ∥ StepsUnits (vehicle_in past now m) (vehicle_in past now (m + 1)) ∥₁

-- nothing is told of it
abbrev pub no_disk : DiskState
no_disk = record { bytes = []; ranges = []; synced = 0 }

abbrev pub tick_of : World → ℕ
tick_of w = (vehicle_of w).gateway.tick
