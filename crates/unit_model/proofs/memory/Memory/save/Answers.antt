use Rattle.std.proofs.Common.{◌∙◌, ap}
use Rattle.unit_model.specs.Saving.{region_specs, region_patches}
use Rattle.unit_model.proofs.Saved.{saved_as}
use Rattle.unit_model.proofs.memory.Memory.save.Goals as goal

pub returns : goal.returns
returns c = saved_as c.self.inside.regions.items _ _ _ c.self.invariant c.self.view_is (c.in_ok-regions_of.ensures ∙ ap region_specs c.deref.ensures.value) (c.in_ok-patches_of.ensures ∙ ap region_patches c.deref-2.ensures.value)
