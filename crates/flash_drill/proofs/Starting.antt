-- The vehicle of a drill at its start: no unit has a trouble.
use Rattle.std.proofs.Common.{◌≡◌, ℕ, List, [], ◌∷◌, refl, map, sym, subst}
use Rattle.std.specs.List.{range_with_len}
use Rattle.bench_gen.specs.Sizes.{units_of}
use Rattle.drill_law.specs.Vehicles.{unit_spec}
use Rattle.flash_base.specs.Lists.{Each}
use Rattle.flash_drill.specs.Calm.{IsCalmSim, IsCalmState}
use Rattle.flash_drill.specs.Drilling.{spec_of_drill}
use Rattle.unit_sim.specs.Sims.{made_of as sim_made}
use Rattle.vehicle_world.specs.Worlds.{Simulated, made_of}

calm_sims : (n : ℕ) (ks : List ℕ) → Each IsCalmSim (map sim_made (map (unit_spec n) ks))
calm_sims n [] = tt
calm_sims n (k ∷ ks) = (record { troubles = refl; waiting = refl; counts = refl }, calm_sims n ks)

pub start_calm : (n : ℕ) → IsCalmState (made_of (spec_of_drill n)).state
start_calm n = record {
  gate = record { troubles = refl; denied = λ code. refl; silent = refl };
  sims = calm_sims n (range_with_len 0 (units_of n));
  held = refl;
}

pub world_calm : (n : ℕ) (w : Simulated) → w ≡ made_of (spec_of_drill n) → IsCalmState w.state
world_calm n w is = subst (λ (x : Simulated). IsCalmState x.state) (sym is) (start_calm n)
