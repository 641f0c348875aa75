use Rattle.std.proofs.Common.{length}
use Rattle.vehicle_world.specs.Worlds.{world_of}
use Rattle.folder_shop.specs.Moments.{vehicle_of}
use Rattle.folder_shop.proofs.Links.{misses_none, misses_same, polled_steps, same_steps}
use Rattle.folder_shop.proofs.feeding.receive.Goals as goal

pub returns-then-not-may-clause-received : goal.returns-then-not-may-clause-received
returns-then-not-may-clause-received c = misses_none (vehicle_of c.args.world.now)

pub returns-in-Err-clause-received : goal.returns-in-Err-clause-received
returns-in-Err-clause-received c =
    misses_same (world_of c.args.world.now) (world_of c.poll.new.self) c.in-Err.ensures.err

pub returns-then-not-may-clause-steps : goal.returns-then-not-may-clause-steps
returns-then-not-may-clause-steps c =
    ∣ c.each_link_call_is_unit_steps.ensures.same (vehicle_of c.args.world.now) ∣₁

pub returns-in-Ok-clause-steps : goal.returns-in-Ok-clause-steps
returns-in-Ok-clause-steps c = polled_steps c.each_link_call_is_unit_steps.ensures (length c.args.out.now)
    c.poll.new.out (vehicle_of c.args.world.now) (world_of c.poll.new.self).vehicle c.in-Ok.got
    c.in-Ok.ensures.ok

pub returns-in-Err-clause-steps : goal.returns-in-Err-clause-steps
returns-in-Err-clause-steps c = same_steps c.each_link_call_is_unit_steps.ensures (world_of c.args.world.now)
    (world_of c.poll.new.self) c.in-Err.ensures.err
