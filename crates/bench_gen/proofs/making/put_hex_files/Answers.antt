use Rattle.bench_gen.proofs.Hexes.{hex_more, none_yet}
use Rattle.bench_gen.proofs.making.put_hex_files.Goals as goal

pub loop-k-init : goal.loop-k-init
loop-k-init c = none_yet c.args.n c.args.files.now

pub loop-k-preserved : goal.loop-k-preserved
loop-k-preserved c = hex_more c.args.n c.loop-k.k c.args.files.now c.loop-k.files c.push.new.self c.in_ok-file.file c.loop-k.invariant c.in_ok-file.ensures c.in_ok-push.ensures.ok
