use Rattle.bench_gen.proofs.Images.{row_more}
use Rattle.bench_gen.proofs.image.put_rows.Goals as goal

pub loop-row-preserved : goal.loop-row-preserved
loop-row-preserved c =
    row_more c.args.n c.args.k c.loop-row.row c.loop-row.out c.extend.new.self c.row_of.result.now c.loop-row.invariant c.row_of.ensures c.in_ok-extend.ensures.ok
