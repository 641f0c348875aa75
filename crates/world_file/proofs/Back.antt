-- What is saved is read again.
use Rattle.std.proofs.Common.{◌≡◌, List, [], ◌∷◌, map, refl, sym, ◌∙◌, ap}
use Rattle.std.specs.Prelude.{ℕ, Ok, Result}
use Rattle.unit_model.specs.declared.spec.UnitSpec.{UnitSpec}
use Rattle.unit_sim.specs.Sims.{made_of as sim_made}
use Rattle.vehicle_file.specs.Files.{vehicle_of}
use Rattle.vehicle_file.specs.declared.vehicle.VehicleSpec as file
use Rattle.vehicle_text.specs.Texts.{IsSaid, text_of}
use Rattle.vehicle_world.specs.Saving.{anew}
use Rattle.vehicle_world.specs.States.{State, unit_in}
use Rattle.vehicle_world.specs.Worlds.{Saves, Simulated, made_of, simulated}
use Rattle.vehicle_world.specs.declared.spec.VehicleSpec.{VehicleSpec}
use Rattle.world_file.specs.Said.{IsSaidWorld, all_settled}
use Rattle.world_file.specs.Saves.{IsSave, ReadsBack, said_by, spec_in}
use Rattle.world_file.proofs.Sizes.{is_said, saved_shapes, settled_unit}

made_units : (us : List UnitSpec) → map unit_in (map sim_made (all_settled us)) ≡ map unit_in (map sim_made us)
made_units [] = refl
made_units (u ∷ us) = λ i. settled_unit u i ∷ made_units us i

-- entries of no bytes make no difference
same_vehicle : (s : VehicleSpec) → (made_of (spec_in (said_by s))).vehicle ≡ (made_of s).vehicle
same_vehicle s = λ i. record { gateway = (made_of s).vehicle.gateway; units = made_units s.units i }

same_ok : {E : Type 0} (a b : file.VehicleSpec) → ◌≡◌ {A = Result file.VehicleSpec E} (Ok a) (Ok b) → a ≡ b
same_ok a b e = cc

module _ (now : State) (s : VehicleSpec) (bytes : List ℕ) (saves : Saves (simulated now) s) (new : (made_of s).vehicle ≡ anew (simulated now).vehicle) (text : bytes ≡ text_of (said_by s))
    (reads : IsSaid (said_by s) → vehicle_of bytes ≡ Ok (said_by s)) where
  abbrev w : Simulated
  w = simulated now

  again : IsSaidWorld w → vehicle_of bytes ≡ Ok (said_by s)
  again said = reads (is_said s _ saves.is (saved_shapes now.sims now.sims s.units saves.units) said)

  pub is_save : IsSave w bytes
  is_save = record { spec = s; saves = saves; anew = new; text = text; reads = again }

  pub reads_back : ReadsBack w bytes
  reads_back = record {
    spec = s;
    saves = saves;
    back = λ said r read. ap (λ (x : Simulated). x.vehicle) read.world ∙ ap (λ (v : file.VehicleSpec). (made_of (spec_in v)).vehicle) (same_ok read.vehicle (said_by s) (sym read.is ∙ again said)) ∙ same_vehicle s ∙ new;
  }
