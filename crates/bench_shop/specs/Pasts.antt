-- The vehicle at each moment, from what it was before each link call.
use Rattle.std.specs.Prelude.{ℕ, suc, ◌+◌, nat_lt, if◌then◌else◌}
use Rattle.unit_model.specs.Vehicle.{Vehicle}
use Rattle.shop_model.specs.Stepping.{StepsUnits}
use Rattle.vehicle_world.specs.Worlds.{Simulated, world_of}
use Rattle.vehicle_world.specs.declared.world.World.{World}
use Rattle.bench_shop.specs.declared.past.Past.{Past, Start, Then'}

abbrev pub vehicle_of : World → Vehicle
vehicle_of w = (world_of w).vehicle

abbrev pub tick_of : World → ℕ
tick_of w = (vehicle_of w).gateway.tick

-- the vehicle at a moment, where it is this one now
abbrev pub world_in : Past → Simulated → ℕ → Simulated
world_in Start now m = now
world_in (Then' at w k before) now m = if nat_lt at m then now else world_in before (world_of w.value) m

-- from this moment on it is the one now
abbrev pub last_of : Past → ℕ
last_of Start = 0
last_of (Then' at w k before) = suc at

-- from each moment to the next its units made steps
abbrev pub AreSteps : Past → Simulated → Type 0
AreSteps past now =
    (m : ℕ) → ∥ StepsUnits (world_in past now m).vehicle (world_in past now (m + 1)).vehicle ∥₁
