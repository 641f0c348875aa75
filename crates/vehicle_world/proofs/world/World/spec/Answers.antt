use Rattle.std.proofs.Common.{◌∙◌, List, ap, map, refl, subst}
use Rattle.vehicle_world.specs.Saving.{SaveUnits, address_in}
use Rattle.vehicle_world.specs.States.{node_sim}
use Rattle.vehicle_world.specs.Worlds.{state_of}
use Rattle.vehicle_world.specs.declared.node.Node.{Node}
use Rattle.vehicle_world.proofs.Anew.{form_of, made_anew, made_fresh, saves_of}
use Rattle.vehicle_world.proofs.world.World.spec.Goals as goal

pub returns-clause-anew : goal.returns-clause-anew
returns-clause-anew c =
    let s = state_of c.args.self.now in
    let g = c.in_ok-gateway.ensures in
    let units = subst (λ (ns : List Node). SaveUnits (map node_sim ns) (map node_sim ns) c.in_ok-units.units) c.deref.ensures.value c.in_ok-units.ensures.is in
    let addresses = c.in_ok-gateway-2.ensures ∙ ap (map address_in) c.as_slice.ensures in
    let form = form_of c.in_ok-gateway.gateway c.in_ok-units.units c.in_ok-gateway-2.field-0 g.is c.in_ok-units.ensures.form addresses in
    made_anew s _ refl (saves_of s c.in_ok-gateway.gateway c.in_ok-units.units c.in_ok-gateway-2.field-0 form g.entity g.gateway units)

pub returns-clause-fresh : goal.returns-clause-fresh
returns-clause-fresh c =
    let s = state_of c.args.self.now in
    let g = c.in_ok-gateway.ensures in
    let units = subst (λ (ns : List Node). SaveUnits (map node_sim ns) (map node_sim ns) c.in_ok-units.units) c.deref.ensures.value c.in_ok-units.ensures.is in
    let addresses = c.in_ok-gateway-2.ensures ∙ ap (map address_in) c.as_slice.ensures in
    let form = form_of c.in_ok-gateway.gateway c.in_ok-units.units c.in_ok-gateway-2.field-0 g.is c.in_ok-units.ensures.form addresses in
    made_fresh s _ (saves_of s c.in_ok-gateway.gateway c.in_ok-units.units c.in_ok-gateway-2.field-0 form g.entity g.gateway units)
