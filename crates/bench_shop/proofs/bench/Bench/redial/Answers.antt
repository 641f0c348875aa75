use Rattle.vehicle_world.specs.Worlds.{world_of}
use Rattle.bench_shop.specs.Pasts.{vehicle_of}
use Rattle.bench_shop.specs.declared.entry.Deed.TheVariants.{Redialed}
use Rattle.bench_shop.proofs.Benches.{went_steps, went_replays, never_over}
use Rattle.bench_shop.proofs.Links.{redialed_steps}
use Rattle.bench_shop.proofs.bench.Bench.redial.Goals as goal

pub invariant_of-self-clause-steps : goal.invariant_of-self-clause-steps
invariant_of-self-clause-steps c =
    went_steps c.args.moment Redialed c.args.self.now c.note.new.self (world_of c.redial.new.self)
    (c.if-not-note.ensures.yes) c.requires.last c.each_link_call_is_unit_steps.ensures.same
    (redialed_steps c.each_link_call_is_unit_steps.ensures (vehicle_of c.note.new.self.world)
    (world_of c.redial.new.self).vehicle c.redial.ensures.vehicle)

pub invariant_of-self-clause-replays : goal.invariant_of-self-clause-replays
invariant_of-self-clause-replays c = λ m few.
    went_replays c.args.moment m Redialed c.args.self.now c.note.new.self (world_of c.redial.new.self)
    (c.if-not-note.ensures.yes) c.requires.moment c.requires.last c.redial.ensures.exact few

pub invariant_of-self-clause-over : goal.invariant_of-self-clause-over
invariant_of-self-clause-over c = λ m lt.
    never_over c.args.moment m Redialed c.args.self.now c.note.new.self (world_of c.redial.new.self)
    (c.if-not-note.ensures.yes) c.requires.moment lt
