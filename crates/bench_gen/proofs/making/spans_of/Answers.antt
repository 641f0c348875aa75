use Rattle.std.proofs.Common.{◌≡◌, rules, subst, sym}
use Rattle.std.specs.FinMap as map
use Rattle.rec_text.specs.Cutting.{IsLow}
use Rattle.span_store.specs.ByteMap.{ByteMap, over}
use Rattle.bench_gen.specs.Sizes.{base}
use Rattle.bench_gen.proofs.Hexes.{low_image}
use Rattle.bench_gen.proofs.making.spans_of.Goals as goal

pub returns-in-Ok-clause-low : goal.returns-in-Ok-clause-low
returns-in-Ok-clause-low c =
    let is : c.put.new.self ≡ over map.empty base c.args.bytes.now = search rules in
    subst IsLow (sym is) (low_image c.args.bytes.now c.requires.few)
