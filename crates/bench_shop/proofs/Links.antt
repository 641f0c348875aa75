-- What one link call does to the units, and link calls that did nothing.
use Rattle.std.proofs.Common.{◌≡◌, inl, inr, ℕ, List, [], ◌∷◌, take, refl, sym, subst, Ok}
use Rattle.flash_base.specs.Lists.{IsSomeOf, ends, keeps}
use Rattle.unit_model.specs.declared.reply.Got.{Got}
use Rattle.unit_model.specs.declared.reply.Got.TheVariants.{Quiet, Bytes}
use Rattle.unit_model.specs.Vehicle.{Vehicle, redialed}
use Rattle.unit_model.specs.Feed.{Feeds}
use Rattle.unit_model.specs.Poll.{Carries, Misses}
use Rattle.shop_model.specs.Stepping.{AreUnitSteps, StepsUnits}
use Rattle.vehicle_world.specs.Worlds.{Simulated, FeedsBroken, PolledTo}

-- ------ steps of units
pub fed_steps : (law : AreUnitSteps) (bytes : List ℕ) (old new : Vehicle) → Feeds bytes old new
    → StepsUnits old new
fed_steps law bytes old new feeds = law.sent bytes old new (Ok tt) (record { ok = feeds; err = tt })

pub redialed_steps : (law : AreUnitSteps) (old new : Vehicle) → new ≡ redialed old → StepsUnits old new
redialed_steps law old new is = law.redialed old new (Ok tt) (record { ok = is; err = tt })

-- a send that stopped, behind which the connection is broken
pub broken_steps : (law : AreUnitSteps) (bytes : List ℕ) (old new : Vehicle) → FeedsBroken bytes old new
    → StepsUnits old new
broken_steps law bytes old new fed = law.goes_on old fed.mid new
    (fed_steps law (take fed.count bytes) old fed.mid fed.feeds) (redialed_steps law fed.mid new fed.broken)

pub carried_steps : (law : AreUnitSteps) (piece : List ℕ) (old new : Vehicle) → Carries piece old new
    → StepsUnits old new
carried_steps law piece old new carries = law.received old new (inr (inr (piece, carries)))

pub polled_steps : (law : AreUnitSteps) (room : ℕ) (out : List ℕ) (old new : Vehicle) (got : Got)
    → PolledTo room out old new got → StepsUnits old new
polled_steps law room out old new Quiet ticks = law.received old new (inl ticks)
polled_steps law room out old new (Bytes n) took = carried_steps law (take n out) old new took.2

-- ------ link calls that did nothing
all_of_them : (xs : List ℕ) → IsSomeOf xs xs
all_of_them [] = ends
all_of_them (x ∷ xs) = keeps x xs xs (all_of_them xs)

-- nothing was received, and all stays due
pub misses_none : (v : Vehicle) → Misses v v
misses_none v = record { becomes = refl; some = all_of_them v.gateway.ready }

pub misses_same : (old new : Simulated) → new ≡ old → Misses old.vehicle new.vehicle
misses_same old new same =
    subst (λ (w : Simulated). Misses old.vehicle w.vehicle) (sym same) (misses_none old.vehicle)
