use Rattle.std.proofs.Common.{◌∙◌, ap, map, sym}
use Rattle.vehicle_world.specs.States.{is_there, node_sim}
use Rattle.vehicle_world.proofs.Places.{there_is}
use Rattle.vehicle_world.proofs.world.is_there.Goals as goal

pub returns-in-Some : goal.returns-in-Some
returns-in-Some c =
    let sims = map node_sim c.args.units.now in
    c.is_some.ensures ∙ there_is c.in-Some.target sims c.place_of.result (sym c.place_of.ensures) ∙ ap (is_there sims) (sym c.in-Some.is)
