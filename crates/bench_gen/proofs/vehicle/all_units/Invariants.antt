use Rattle.std.proofs.Common.{◌≡◌, map}
use Rattle.std.specs.List.{range_with_len}
use Rattle.serde_json.specs.View.{view}
use Rattle.bench_gen.specs.Vehicle.{unit}
use Rattle.bench_gen.proofs.vehicle.all_units.Given as goal

abbrev pub invariant-loop-k : goal.invariant-loop-k
invariant-loop-k l = map view l.made.items ≡ map (unit l.size) (range_with_len 0 l.k)
