use Rattle.std.proofs.Common.{◌≡◌, drop, ◌++◌}
use Rattle.unit_model.specs.Saving.{region_patches}
use Rattle.unit_model.proofs.memory.saving.patches_of.Given as goal

abbrev pub invariant-loop-region : goal.invariant-loop-region
invariant-loop-region l = l.made.items ++ region_patches (drop l.region-index l.regions) ≡ region_patches l.regions
