use Rattle.std.proofs.Common.{◌≡◌, ◌∙◌, inr, sym, ap, Some, None}
use Rattle.indexmap.specs.IndexMap.{get_by_text}
use Rattle.ecu_mem.specs.Catalogue.{flash_found}
use Rattle.ecu_mem.proofs.Joining.{block-found, block-missing}
use Rattle.ecu_mem.proofs.linking.linked_block.Goals as goal

pub returns-in-Some : goal.returns-in-Some
returns-in-Some c = inr (block-found (get_by_text c.args.targets.now) c.args.block c.args.id.now c.in-Some.flash found)
  where
    found : Some c.in-Some.flash ≡ flash_found (get_by_text c.args.targets.now c.args.id.now)
    found = sym c.in-Some.is ∙ (c.flash_found.ensures ∙ ap flash_found (c.copied.ensures ∙ (c.get.ensures.value ∙ ap (get_by_text c.args.targets.now) c.as_str.ensures)))

pub returns-in-None : goal.returns-in-None
returns-in-None c = block-missing (get_by_text c.args.targets.now) c.args.block c.args.id.now c.dangling.result none c.dangling.ensures
  where
    none : None ≡ flash_found (get_by_text c.args.targets.now c.args.id.now)
    none = sym c.in-None.is ∙ (c.flash_found.ensures ∙ ap flash_found (c.copied.ensures ∙ (c.get.ensures.value ∙ ap (get_by_text c.args.targets.now) c.as_str.ensures)))
