use Rattle.std.proofs.Common.{◌≡◌, ◌+◌, ◌∷◌, ◌++◌, [], ◌∙◌, ap, arith, rules}
use Rattle.bench_gen.specs.Catalogue.{session}
use Rattle.bench_gen.proofs.Lists.{made_more}
use Rattle.bench_gen.proofs.catalogue.sessions.Goals as goal

pub loop-k-preserved : goal.loop-k-preserved
loop-k-preserved c =
    let e : c.loop-k.k ≡ 0 + c.loop-k.k = omega arith in
    let put : c.push.new.self.items ≡ c.loop-k.made.items ++ c.in_ok-one.one ∷ [] = search rules in
    made_more (session) 0 c.loop-k.k c.loop-k.made.items c.push.new.self.items c.in_ok-one.one c.loop-k.invariant (c.in_ok-one.ensures ∙ ap (session) e) put
