use Rattle.vehicle_world.specs.Worlds.{world_of}
use Rattle.bench_shop.proofs.Benches.{now_at, saved_as}
use Rattle.bench_shop.proofs.bench.Bench.spec_at.Goals as goal

pub returns-then-self-moment-clause-is : goal.returns-then-self-moment-clause-is
returns-then-self-moment-clause-is c =
    saved_as c.args.self.now c.args.moment (world_of c.args.self.now.world) c.spec.result
    (now_at c.args.self.now c.args.moment c.if-self-moment.true) c.spec.ensures.anew

pub returns-clause-is : goal.returns-clause-is
returns-clause-is c =
    saved_as c.args.self.now c.args.moment (world_of c.in_ok-world.world) c.spec-2.result
    c.in_ok-world.ensures c.spec-2.ensures.anew
