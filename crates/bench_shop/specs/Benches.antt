-- What one link call adds to a vehicle and its record.
use Rattle.std.specs.Prelude.{◌≡◌, ◌↔◌, ℕ, ◌+◌, ◌≤◌, ◌<◌, ◌^◌, List, [], ◌∷◌, ◌++◌, ◌-◌, Bool, false, IsTrue, IsErr, Result, Option, Some, None, length, take, min}
use Rattle.unit_model.specs.declared.reply.Got.{Got}
use Rattle.unit_model.specs.declared.reply.Got.TheVariants.{Quiet, Bytes}
use Rattle.disk_model.specs.declared.device.DeviceFault.{DeviceFault}
use Rattle.vehicle_world.specs.Saving.{anew}
use Rattle.vehicle_world.specs.Worlds.{Simulated, world_of}
use Rattle.unit_model.specs.Vehicle.{Vehicle}
use Rattle.bench_shop.specs.declared.bench.Bench.{Bench}
use Rattle.bench_shop.specs.declared.entry.Deed.{Deed}
use Rattle.bench_shop.specs.Pasts.{last_of, world_in}

-- the vehicle at a moment
abbrev pub world_at : Bench → ℕ → Simulated
world_at b m = world_in b.past (world_of b.world) m

-- nothing was done to it
pub record IsNewBench (w : Simulated) (b : Bench) : Type 0 where
  pub world : world_of b.world ≡ w
  pub always : (m : ℕ) → world_at b m ≡ w
  pub last : last_of b.past ≡ 0
  pub hungry : b.hungry ≡ 0

-- all stays but the count of calls that found no memory
pub record Hungers (old new : Bench) : Type 0 where
  pub world : new.world ≡ old.world
  pub past : new.past ≡ old.past
  pub hungry : new.hungry ≡ old.hungry + 1

-- the record has the deed, and waits for it to be done
pub record Noted (moment : ℕ) (deed : Deed) (old new : Bench) : Type 0 where
  pub whole : old.reach ≡ 2 ^ 64 - 1
  pub start : new.start ≡ old.start
  pub world : new.world ≡ old.world
  pub entries : new.entries.items ≡ old.entries.items ++ record { moment = moment; deed = deed } ∷ []
  pub before : (now : Simulated) (m : ℕ) → m ≤ moment → world_in new.past now m ≡ world_at old m
  pub behind : (now : Simulated) (m : ℕ) → moment < m → world_in new.past now m ≡ now
  pub last : last_of new.past ≡ moment + 1
  pub reach : new.reach ≡ moment
  pub hungry : new.hungry ≡ old.hungry

-- what it was stays, and from the next moment on it is the one now
pub record Went (moment : ℕ) (old new : Bench) : Type 0 where
  pub before : (m : ℕ) → m ≤ moment → world_at new m ≡ world_at old m
  pub now : (m : ℕ) → moment < m → world_at new m ≡ world_of new.world
  pub last : last_of new.past ≤ moment + 1
  pub never_falls : old.hungry ≤ new.hungry
  pub at_most : new.hungry ≤ old.hungry + 1

-- A call that may be made fails just where there is no memory; another is not made.
pub record FailsHungry {T : Type 0} (may : Bool) (old new : Bench)
    (result : Result T DeviceFault) : Type 0 where
  pub made : IsTrue may → (IsErr result ↔ (old.hungry < new.hungry))
  pub not_made : may ≡ false → IsErr result
  pub not_hungry : may ≡ false → new.hungry ≡ old.hungry

-- the vehicle of that moment on a new connection
abbrev pub IsAnew : Bench → ℕ → Vehicle → Type 0
IsAnew b m v = ∥ v ≡ anew (world_at b m).vehicle ∥₁

-- the first bytes of the piece, as many as there was room for
abbrev pub BringsPiece : List ℕ → List ℕ → Got → Type 0
BringsPiece piece out Quiet = ⊥
BringsPiece piece out (Bytes n) = (n ≡ min (length piece) (length out)) × (take n out ≡ take n piece)

-- where a piece is to be brought, it is
abbrev pub Brings : Option (List ℕ) → List ℕ → Got → Type 0
Brings None out got = Unit {0}
Brings (Some piece) out got = BringsPiece piece out got
