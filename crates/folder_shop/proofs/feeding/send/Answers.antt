use Rattle.vehicle_world.specs.Worlds.{world_of}
use Rattle.folder_shop.specs.Moments.{vehicle_of}
use Rattle.folder_shop.proofs.Links.{not_sent, fed_steps, broken_steps}
use Rattle.folder_shop.proofs.feeding.send.Goals as goal

pub returns-then-not-may-clause-sent : goal.returns-then-not-may-clause-sent
returns-then-not-may-clause-sent c =
    not_sent c.args.bytes.now (vehicle_of c.args.world.now) _ c.nothing_sent.ensures

pub returns-then-not-may-clause-steps : goal.returns-then-not-may-clause-steps
returns-then-not-may-clause-steps c =
    ∣ c.each_link_call_is_unit_steps.ensures.same (vehicle_of c.args.world.now) ∣₁

pub returns-in-Ok-clause-steps : goal.returns-in-Ok-clause-steps
returns-in-Ok-clause-steps c = fed_steps c.each_link_call_is_unit_steps.ensures c.args.bytes.now
    (vehicle_of c.args.world.now) (world_of c.feed.new.self).vehicle c.in-Ok.ensures.ok

pub returns-in-Err-clause-steps : goal.returns-in-Err-clause-steps
returns-in-Err-clause-steps c = broken_steps c.each_link_call_is_unit_steps.ensures c.args.bytes.now
    (vehicle_of c.args.world.now) (world_of c.feed.new.self).vehicle c.in-Err.ensures.err
