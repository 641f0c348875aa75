-- A world as the text of a file, and back.
use Rattle.std.specs.Prelude.{◌≡◌, ℕ, List, Ok}
use Rattle.vehicle_file.specs.Files.{vehicle_of}
use Rattle.vehicle_file.specs.declared.vehicle.VehicleSpec as file
use Rattle.vehicle_text.specs.Texts.{text_of}
use Rattle.vehicle_world.specs.Saving as saving
use Rattle.vehicle_world.specs.Worlds.{Saves, Simulated, made_of}
use Rattle.vehicle_world.specs.declared.spec.VehicleSpec as world
use Rattle.world_file.specs.Said.{IsSaidWorld, all_settled}

-- what a file says, as what a world is made of
abbrev pub spec_in : file.VehicleSpec → world.VehicleSpec
spec_in v = record { gateway = v.gateway; units = v.units }

-- what a world is made of, as what a file says
abbrev pub said_by : world.VehicleSpec → file.VehicleSpec
said_by s = record { gateway = s.gateway; units = all_settled s.units }

-- the world is the one that the file says
pub record IsRead (bytes : List ℕ) (w : Simulated) : Type 0 where
  pub vehicle : file.VehicleSpec
  pub is : vehicle_of bytes ≡ Ok vehicle
  pub world : w ≡ made_of (spec_in vehicle)

-- the text of what the world is now: of the vehicle on a new connection, with the troubles that remain
pub record IsSave (w : Simulated) (bytes : List ℕ) : Type 0 where
  pub spec : world.VehicleSpec
  pub saves : Saves w spec
  pub anew : (made_of spec).vehicle ≡ saving.anew w.vehicle
  pub text : bytes ≡ text_of (said_by spec)
  pub reads : IsSaidWorld w → vehicle_of bytes ≡ Ok (said_by spec)

-- every world that is read from the text is the vehicle on a new connection
pub record ReadsBack (w : Simulated) (bytes : List ℕ) : Type 0 where
  pub spec : world.VehicleSpec
  pub saves : Saves w spec
  pub back : IsSaidWorld w → (r : Simulated) → IsRead bytes r → r.vehicle ≡ saving.anew w.vehicle
