use Rattle.vehicle_world.specs.Worlds.{world_of}
use Rattle.folder_shop.specs.Moments.{vehicle_of}
use Rattle.folder_shop.proofs.Links.{redialed_steps}
use Rattle.folder_shop.proofs.feeding.redial.Goals as goal

pub returns-then-not-may-clause-steps : goal.returns-then-not-may-clause-steps
returns-then-not-may-clause-steps c =
    ∣ c.each_link_call_is_unit_steps.ensures.same (vehicle_of c.args.world.now) ∣₁

pub returns-clause-steps : goal.returns-clause-steps
returns-clause-steps c = redialed_steps c.each_link_call_is_unit_steps.ensures (vehicle_of c.args.world.now)
    (world_of c.redial.new.self).vehicle c.redial.ensures.vehicle
