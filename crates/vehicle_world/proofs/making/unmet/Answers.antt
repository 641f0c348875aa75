use Rattle.std.proofs.Common.{◌∙◌, ap, map, rules}
use Rattle.std.specs.Prelude.{not}
use Rattle.std.proofs.lemmas.Fn.{filter_same}
use Rattle.unit_model.specs.declared.spec.TroubleSpec.{TroubleSpec}
use Rattle.vehicle_world.specs.Saving.{is_met, unmet}
use Rattle.vehicle_world.specs.States.{node_sim}
use Rattle.vehicle_world.proofs.making.unmet.Goals as goal

pub returns : goal.returns
returns c =
    let sims = map node_sim c.args.units.now in
    let kept = filter_same _ (λ (t : TroubleSpec). not (is_met sims t.act)) _ (λ x b f' is. search rules) _ _ c.retain.ensures.filtered in
    c.from_vec.ensures ∙ kept ∙ ap (unmet sims) c.into_vec-list.ensures
