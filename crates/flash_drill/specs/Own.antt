-- The shelf, the shop and the page of a drill, while nothing has failed.
use Rattle.std.specs.Prelude.{◌≡◌, ◌<◌}
use Rattle.bench_shop.specs.Shops.{history_of, moment_of, starved_of}
use Rattle.bench_shop.specs.declared.shop.MemoryShop.{MemoryShop}
use Rattle.flash_drill.specs.Calm.{IsCalmState, sim_addresses, unit_addresses}
use Rattle.flash_shelf.specs.History.{ShelfHistory, SinkHistory}
use Rattle.flash_shelf.specs.States.{ShelfState, SinkState}
use Rattle.shop_model.specs.History.{LAST}
use Rattle.shop_model.specs.Through.{AreShown}
use Rattle.vehicle_world.specs.Worlds.{world_of}

abbrev pub shelf_history : ShelfState → ShelfHistory
shelf_history s = record { contents = s.files; faults = s.faults }

abbrev pub page_history : SinkState → SinkHistory
page_history s = record { written = s.written; faults = s.faults }

-- no call has failed, each receive was shown, and the vehicle has departed from nothing
pub record IsQuiet (s : MemoryShop) : Type 0 where
  pub disk_faults : (history_of s).disk_faults ≡ 0
  pub link_faults : (history_of s).link_faults ≡ 0
  pub shown : AreShown (history_of s) 0 (history_of s).moment
  pub calm : IsCalmState (world_of s.bench.world).state
  pub units : sim_addresses (world_of s.bench.world).state.sims
      ≡ unit_addresses ((history_of s).vehicle_at 0).units

-- so it is before the last moment, as long as no call found no memory
abbrev pub IsQuietFed : MemoryShop → Type 0
IsQuietFed s = starved_of s ≡ 0 → moment_of s < LAST → ∥ IsQuiet s ∥₁
