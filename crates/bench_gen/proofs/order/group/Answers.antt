use Rattle.std.proofs.Common.{◌≡◌, ◌∷◌, ◌++◌, [], rules}
use Rattle.bench_gen.specs.Order.{name}
use Rattle.bench_gen.proofs.Lists.{made_more}
use Rattle.bench_gen.proofs.order.group.Goals as goal

pub loop-i-preserved : goal.loop-i-preserved
loop-i-preserved c =
    let put : c.push.new.self.items ≡ c.loop-i.made.items ++ c.in_ok-one.one ∷ [] = search rules in
    made_more name c.args.first c.loop-i.i c.loop-i.made.items c.push.new.self.items c.in_ok-one.one c.loop-i.invariant c.in_ok-one.ensures put
