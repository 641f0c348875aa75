use Rattle.vehicle_world.specs.Worlds.{world_of}
use Rattle.flash_drill.proofs.Starting.{world_calm}
use Rattle.flash_drill.proofs.making.shop_of.Goals as goal

pub new-requires-clause-calm : goal.new-requires-clause-calm
new-requires-clause-calm c = world_calm c.args.n (world_of c.in_ok-world.world) c.in_ok-world.ensures.is
