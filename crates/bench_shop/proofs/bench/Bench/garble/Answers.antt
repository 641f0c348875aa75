use Rattle.std.proofs.Common.{take, refl, ap, ◌∙◌}
use Rattle.vehicle_world.specs.Worlds.{world_of}
use Rattle.vehicle_world.specs.declared.world.World.{World}
use Rattle.bench_shop.specs.Pasts.{vehicle_of}
use Rattle.bench_shop.specs.declared.entry.Deed.TheVariants.{Garbled}
use Rattle.bench_shop.proofs.Benches.{went_steps, went_replays, never_over}
use Rattle.bench_shop.proofs.Links.{carried_steps, misses_none, misses_same}
use Rattle.bench_shop.proofs.bench.Bench.garble.Goals as goal

pub invariant_of-self-clause-steps : goal.invariant_of-self-clause-steps
invariant_of-self-clause-steps c =
    went_steps c.args.moment (Garbled (take c.min-n.result c.args.piece.now)) c.args.self.now
    c.note_bytes.new.self (world_of c.garble.new.self)
    (c.if-not-note_bytes.ensures.garbled refl) c.requires.last c.each_link_call_is_unit_steps.ensures.same
    (carried_steps c.each_link_call_is_unit_steps.ensures (take c.min-n.result c.args.piece.now)
    (vehicle_of c.note_bytes.new.self.world) (world_of c.garble.new.self).vehicle
    c.in-Ok.ensures.carries.carries)

pub invariant_of-self-clause-replays : goal.invariant_of-self-clause-replays
invariant_of-self-clause-replays c = λ m few.
    went_replays c.args.moment m (Garbled (take c.min-n.result c.args.piece.now)) c.args.self.now
    c.note_bytes.new.self (world_of c.garble.new.self)
    (c.if-not-note_bytes.ensures.garbled refl) c.requires.moment c.requires.last c.in-Ok.ensures.ok few

pub invariant_of-self-clause-over : goal.invariant_of-self-clause-over
invariant_of-self-clause-over c = λ m lt.
    never_over c.args.moment m (Garbled (take c.min-n.result c.args.piece.now)) c.args.self.now
    c.note_bytes.new.self (world_of c.garble.new.self)
    (c.if-not-note_bytes.ensures.garbled refl) c.requires.moment lt

pub returns-then-not-may-clause-received : goal.returns-then-not-may-clause-received
returns-then-not-may-clause-received c = misses_none (vehicle_of c.args.self.now.world)

pub returns-then-not-note_bytes-clause-received : goal.returns-then-not-note_bytes-clause-received
returns-then-not-note_bytes-clause-received c =
    misses_same (world_of c.args.self.now.world) (world_of c.note_bytes.new.self.world)
    (ap (λ (w : World). world_of w) c.if-not-note_bytes.ensures.no.world)

pub returns-in-Err-clause-received : goal.returns-in-Err-clause-received
returns-in-Err-clause-received c =
    misses_same (world_of c.args.self.now.world) (world_of c.garble.new.self)
    (c.in-Err.ensures.err ∙ ap (λ (w : World). world_of w) (c.if-not-note_bytes.ensures.garbled refl).world)
