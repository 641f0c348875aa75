use Rattle.std.proofs.Common.{◌≡◌, map}
use Rattle.std.specs.List.{range_with_len}
use Rattle.serde_json.specs.View.{view}
use Rattle.bench_gen.specs.Catalogue.{flashdata}
use Rattle.bench_gen.proofs.catalogue.flashdatas.Given as goal

abbrev pub invariant-loop-k : goal.invariant-loop-k
invariant-loop-k l = map view l.made.items ≡ map flashdata (range_with_len 0 l.k)
