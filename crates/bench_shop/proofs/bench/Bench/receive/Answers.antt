use Rattle.std.proofs.Common.{ℕ, ◌-◌, length, ap, ◌∙◌, arith}
use Rattle.vehicle_world.specs.Worlds.{polled, world_of}
use Rattle.vehicle_world.specs.declared.world.World.{World}
use Rattle.bench_shop.specs.Pasts.{vehicle_of}
use Rattle.bench_shop.specs.declared.entry.Deed.TheVariants.{Polled}
use Rattle.bench_shop.proofs.Benches.{went_steps, went_replays, never_over}
use Rattle.bench_shop.proofs.Links.{polled_steps, misses_none, misses_same}
use Rattle.bench_shop.proofs.bench.Bench.receive.Goals as goal

pub invariant_of-self-clause-steps : goal.invariant_of-self-clause-steps
invariant_of-self-clause-steps c =
    went_steps c.args.moment (Polled (length c.args.out.now - 1)) c.args.self.now c.note.new.self
    (world_of c.poll.new.self)
    (c.if-not-note.ensures.yes) c.requires.last c.each_link_call_is_unit_steps.ensures.same
    (polled_steps c.each_link_call_is_unit_steps.ensures (length c.args.out.now) c.poll.new.out
    (vehicle_of c.note.new.self.world) (world_of c.poll.new.self).vehicle
    c.in-Ok.got c.in-Ok.ensures.ok)

pub invariant_of-self-clause-replays : goal.invariant_of-self-clause-replays
invariant_of-self-clause-replays c = λ m few.
    went_replays c.args.moment m (Polled (length c.args.out.now - 1)) c.args.self.now c.note.new.self
    (world_of c.poll.new.self)
    (c.if-not-note.ensures.yes) c.requires.moment c.requires.last
    (c.in-Ok.ensures.exact ∙ ap (λ (n : ℕ). polled n (world_of c.note.new.self.world))
    (omega (arith, c.requires.room))) few

pub invariant_of-self-clause-over : goal.invariant_of-self-clause-over
invariant_of-self-clause-over c = λ m lt.
    never_over c.args.moment m (Polled (length c.args.out.now - 1)) c.args.self.now c.note.new.self
    (world_of c.poll.new.self)
    (c.if-not-note.ensures.yes) c.requires.moment lt

pub returns-then-not-may-clause-received : goal.returns-then-not-may-clause-received
returns-then-not-may-clause-received c = misses_none (vehicle_of c.args.self.now.world)

pub returns-then-not-note-clause-received : goal.returns-then-not-note-clause-received
returns-then-not-note-clause-received c =
    misses_same (world_of c.args.self.now.world) (world_of c.note.new.self.world)
    (ap (λ (w : World). world_of w) c.if-not-note.ensures.no.world)

pub returns-in-Err-clause-received : goal.returns-in-Err-clause-received
returns-in-Err-clause-received c =
    misses_same (world_of c.args.self.now.world) (world_of c.poll.new.self)
    (c.in-Err.ensures.err ∙ ap (λ (w : World). world_of w) (c.if-not-note.ensures.yes).world)
