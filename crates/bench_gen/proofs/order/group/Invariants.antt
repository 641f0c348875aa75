use Rattle.std.proofs.Common.{◌≡◌, map}
use Rattle.std.specs.List.{range_with_len}
use Rattle.serde_json.specs.View.{view}
use Rattle.bench_gen.specs.Order.{name}
use Rattle.bench_gen.proofs.order.group.Given as goal

abbrev pub invariant-loop-i : goal.invariant-loop-i
invariant-loop-i l = map view l.made.items ≡ map name (range_with_len l.first l.i)
