use Rattle.std.proofs.Common.{◌≡◌, ◌∙◌, sym, ap, Some, None}
use Rattle.indexmap.specs.IndexMap.{get_by_text}
use Rattle.ecu_mem.specs.Catalogue.{block_found}
use Rattle.ecu_mem.proofs.Joining.{position-next, position-missing}
use Rattle.ecu_mem.proofs.linking.positions_of.Goals as goal

pub returns-in-None : goal.returns-in-None
returns-in-None c =
    position-missing (get_by_text c.args.targets.now) c.args.ids.now c.args.ids.now c.loop-id.id-index c.id-item.result c.loop-id.positions c.dangling.result c.loop-id-test.true c.id-item.is none c.loop-id.invariant c.dangling.ensures
  where
    none : None ≡ block_found (get_by_text c.args.targets.now c.id-item.result)
    none = sym c.in-None.is ∙ (c.block_found.ensures ∙ ap block_found (c.copied.ensures ∙ (c.get.ensures.value ∙ ap (get_by_text c.args.targets.now) c.as_str.ensures)))

pub loop-id-preserved : goal.loop-id-preserved
loop-id-preserved c =
    position-next (get_by_text c.args.targets.now) c.args.ids.now c.args.ids.now c.loop-id.id-index c.id-item.result c.loop-id.positions c.push.new.self c.in-Some.at c.loop-id-test.true c.id-item.is found c.in_ok-push-in-Some.ensures.ok c.loop-id.invariant
  where
    found : Some c.in-Some.at ≡ block_found (get_by_text c.args.targets.now c.id-item.result)
    found = sym c.in-Some.is ∙ (c.block_found.ensures ∙ ap block_found (c.copied.ensures ∙ (c.get.ensures.value ∙ ap (get_by_text c.args.targets.now) c.as_str.ensures)))
