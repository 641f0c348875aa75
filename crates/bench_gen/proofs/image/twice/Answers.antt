use Rattle.std.proofs.Common.{◌%◌, rules}
use Rattle.std.proofs.lemmas.List.FromFn.{fill_by_all}
use Rattle.bench_gen.proofs.image.twice.Goals as goal

pub returns : goal.returns
returns c = fill_by_all (λ i. i % 256) c.loop-i.table 512 0 c.loop-i.invariant.0 (search rules)
