-- What one link call does to the units, and link calls that did nothing.
use Rattle.std.proofs.Common.{◌≡◌, inl, inr, ℕ, List, [], ◌∷◌, take, refl, sym, subst, Result, Ok, Err}
use Rattle.disk_model.specs.declared.device.DeviceFault.{DeviceFault}
use Rattle.flash_base.specs.Lists.{IsSomeOf, ends, keeps}
use Rattle.unit_model.specs.declared.reply.Got.{Got}
use Rattle.unit_model.specs.declared.reply.Got.TheVariants.{Quiet, Bytes}
use Rattle.unit_model.specs.Vehicle.{Vehicle, redialed}
use Rattle.unit_model.specs.Feed.{Feeds}
use Rattle.unit_model.specs.Poll.{Misses}
use Rattle.shop_model.specs.History.{Sent}
use Rattle.shop_model.specs.Stepping.{AreUnitSteps, StepsUnits}
use Rattle.vehicle_world.specs.Worlds.{Simulated, FeedsBroken, PolledTo}

-- ------ steps of units
pub fed_steps : (law : AreUnitSteps) (bytes : List ℕ) (old new : Vehicle) → Feeds bytes old new
    → ∥ StepsUnits old new ∥₁
fed_steps law bytes old new feeds = ∣ law.sent bytes old new (Ok tt) (record { ok = feeds; err = tt }) ∣₁

pub redialed_steps : (law : AreUnitSteps) (old new : Vehicle) → new ≡ redialed old → ∥ StepsUnits old new ∥₁
redialed_steps law old new is = ∣ law.redialed old new (Ok tt) (record { ok = is; err = tt }) ∣₁

-- a send that stopped, behind which the connection is broken
pub broken_steps : (law : AreUnitSteps) (bytes : List ℕ) (old new : Vehicle) → FeedsBroken bytes old new
    → ∥ StepsUnits old new ∥₁
broken_steps law bytes old new fed = ∣ law.goes_on old fed.mid new
    (law.sent (take fed.count bytes) old fed.mid (Ok tt) (record { ok = fed.feeds; err = tt }))
    (law.redialed fed.mid new (Ok tt) (record { ok = fed.broken; err = tt })) ∣₁

pub polled_steps : (law : AreUnitSteps) (room : ℕ) (out : List ℕ) (old new : Vehicle) (got : Got)
    → PolledTo room out old new got → ∥ StepsUnits old new ∥₁
polled_steps law room out old new Quiet ticks = ∣ law.received old new (inl ticks) ∣₁
polled_steps law room out old new (Bytes n) took =
    ∣ law.received old new (inr (inr (take n out, took.2))) ∣₁

pub same_steps : (law : AreUnitSteps) (old new : Simulated) → new ≡ old
    → ∥ StepsUnits old.vehicle new.vehicle ∥₁
same_steps law old new same =
    subst (λ (w : Simulated). ∥ StepsUnits old.vehicle w.vehicle ∥₁) (sym same) ∣ law.same old.vehicle ∣₁

-- ------ link calls that did nothing
all_of_them : (xs : List ℕ) → IsSomeOf xs xs
all_of_them [] = ends
all_of_them (x ∷ xs) = keeps x xs xs (all_of_them xs)

-- nothing was sent
pub not_sent : (bytes : List ℕ) (v : Vehicle) (e : DeviceFault) → Feeds [] v v → Sent bytes v v (Err e)
not_sent bytes v e feeds = record {
  ok = tt;
  err = record { count = 0; mid = v; feeds = feeds; broken = inl refl };
}

-- nothing was received, and all stays due
pub misses_none : (v : Vehicle) → Misses v v
misses_none v = record { becomes = refl; some = all_of_them v.gateway.ready }

pub misses_same : (old new : Simulated) → new ≡ old → Misses old.vehicle new.vehicle
misses_same old new same = subst (λ (w : Simulated). Misses old.vehicle w.vehicle) (sym same) (misses_none old.vehicle)
