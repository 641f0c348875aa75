use Rattle.std.proofs.Common.{arith}
use Rattle.vehicle_world.specs.Worlds.{made_of, world_of}
use Rattle.bench_shop.proofs.Benches.{noted_steps, noted_replays, noted_over}
use Rattle.bench_shop.proofs.bench.Bench.note.Goals as goal

pub invariant_of-self-clause-steps : goal.invariant_of-self-clause-steps
invariant_of-self-clause-steps c = λ m.
    noted_steps c.args.moment m c.args.self.now.world c.of-world.result.value c.args.self.now.past
    c.of-before.result.value
    c.of-world.ensures c.of-before.ensures c.requires.last c.args.self.now.steps

pub invariant_of-self-clause-replays : goal.invariant_of-self-clause-replays
invariant_of-self-clause-replays c = λ m le.
    noted_replays c.args.self.now.entries.items c.push.new.self.items
    (record { moment = c.args.moment; deed = c.args.deed }) m (made_of c.args.self.now.start)
    c.args.self.now.world c.of-world.result.value c.args.self.now.past c.of-before.result.value
    le c.in-Ok.ensures.items c.of-world.ensures c.of-before.ensures c.requires.last
    (c.args.self.now.replays m (omega (arith, le, c.requires.moment, c.if-self-lt-NEVER.false)))

pub invariant_of-self-clause-over : goal.invariant_of-self-clause-over
invariant_of-self-clause-over c = λ m lt.
    noted_over c.args.moment m (world_of c.args.self.now.world) (world_of c.of-world.result.value)
    c.of-before.result.value lt
