-- What a record of link calls makes of the vehicle of the start.
use Rattle.std.specs.Prelude.{ℕ, ◌+◌, List, [], ◌∷◌, nat_lt, if◌then◌else◌}
use Rattle.vehicle_world.specs.Worlds.{Simulated, fed, polled, garbled, redialed_world}
use Rattle.bench_shop.specs.declared.entry.Deed.{Deed}
use Rattle.bench_shop.specs.declared.entry.Deed.TheVariants.{Fed, Polled, Garbled, Redialed}
use Rattle.bench_shop.specs.declared.entry.Entry.{Entry}

abbrev pub does : Deed → Simulated → Simulated
does (Fed bytes) w = fed bytes w
does (Polled room) w = polled (room + 1) w
does (Garbled piece) w = garbled piece w
does Redialed w = redialed_world w

-- at this moment, behind the deeds of earlier ones
abbrev pub replayed : List Entry → ℕ → Simulated → Simulated
replayed [] m w = w
replayed (e ∷ es) m w = replayed es m (if nat_lt e.moment m then does e.deed w else w)
