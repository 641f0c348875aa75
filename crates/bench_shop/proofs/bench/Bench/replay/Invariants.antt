use Rattle.std.proofs.Common.{◌≡◌, ◌≤◌, drop}
use Rattle.vehicle_world.specs.Worlds.{made_of, world_of}
use Rattle.bench_shop.specs.Deeds.{replayed}
use Rattle.bench_shop.specs.Pasts.{tick_of}
use Rattle.bench_shop.proofs.bench.Bench.replay.Given as goal

abbrev pub invariant-loop-entry : goal.invariant-loop-entry
invariant-loop-entry l = record {
  is : replayed (drop l.entry-index l.self.entries.items) l.moment (world_of l.world)
      ≡ replayed l.self.entries.items l.moment (made_of l.self.start);
  tick : tick_of l.world ≤ l.entry-index;
}
