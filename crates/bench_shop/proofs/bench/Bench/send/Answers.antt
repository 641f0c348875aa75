use Rattle.std.proofs.Common.{refl}
use Rattle.vehicle_world.specs.Worlds.{world_of}
use Rattle.bench_shop.specs.Pasts.{vehicle_of}
use Rattle.bench_shop.specs.declared.entry.Deed.TheVariants.{Fed}
use Rattle.bench_shop.proofs.Benches.{went_steps, went_replays, failed_replays, any_over, never_over}
use Rattle.bench_shop.proofs.Links.{fed_steps, broken_steps}
use Rattle.bench_shop.proofs.bench.Bench.send.Goals as goal

pub invariant_of-self-clause-steps : goal.invariant_of-self-clause-steps
invariant_of-self-clause-steps c =
    went_steps c.args.moment (Fed c.args.bytes.now) c.args.self.now c.note_bytes.new.self
    (world_of c.feed.new.self)
    (c.if-not-note_bytes.ensures.fed refl) c.requires.last c.each_link_call_is_unit_steps.ensures.same
    (fed_steps c.each_link_call_is_unit_steps.ensures c.args.bytes.now
    (vehicle_of c.note_bytes.new.self.world) (world_of c.feed.new.self).vehicle c.in-Ok.ensures.ok)

pub invariant_of-self-clause-replays : goal.invariant_of-self-clause-replays
invariant_of-self-clause-replays c = λ m few.
    went_replays c.args.moment m (Fed c.args.bytes.now) c.args.self.now c.note_bytes.new.self
    (world_of c.feed.new.self)
    (c.if-not-note_bytes.ensures.fed refl) c.requires.moment c.requires.last c.in-Ok.ensures.exact few

pub invariant_of-self-clause-over : goal.invariant_of-self-clause-over
invariant_of-self-clause-over c = λ m lt.
    never_over c.args.moment m (Fed c.args.bytes.now) c.args.self.now c.note_bytes.new.self
    (world_of c.feed.new.self)
    (c.if-not-note_bytes.ensures.fed refl) c.requires.moment lt

pub invariant_of-self-in-Err-clause-steps : goal.invariant_of-self-in-Err-clause-steps
invariant_of-self-in-Err-clause-steps c =
    went_steps c.args.moment (Fed c.args.bytes.now) c.args.self.now c.note_bytes.new.self
    (world_of c.feed.new.self)
    (c.if-not-note_bytes.ensures.fed refl) c.requires.last c.each_link_call_is_unit_steps.ensures.same
    (broken_steps c.each_link_call_is_unit_steps.ensures c.args.bytes.now
    (vehicle_of c.note_bytes.new.self.world) (world_of c.feed.new.self).vehicle c.in-Err.ensures.err)

pub invariant_of-self-in-Err-clause-replays : goal.invariant_of-self-in-Err-clause-replays
invariant_of-self-in-Err-clause-replays c = λ m le.
    failed_replays c.args.moment m (Fed c.args.bytes.now) c.args.self.now c.note_bytes.new.self
    (world_of c.feed.new.self)
    (c.if-not-note_bytes.ensures.fed refl) c.requires.moment le

pub invariant_of-self-in-Err-clause-over : goal.invariant_of-self-in-Err-clause-over
invariant_of-self-in-Err-clause-over c = λ m lt.
    any_over c.args.moment m (Fed c.args.bytes.now) c.args.self.now c.note_bytes.new.self
    (world_of c.feed.new.self)
    (c.if-not-note_bytes.ensures.fed refl) lt
