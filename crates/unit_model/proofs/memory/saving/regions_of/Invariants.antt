use Rattle.std.proofs.Common.{◌≡◌, take, drop, ◌++◌}
use Rattle.unit_model.specs.Saving.{region_specs}
use Rattle.unit_model.proofs.memory.saving.regions_of.Given as goal

abbrev pub invariant-loop-region : goal.invariant-loop-region
invariant-loop-region l = l.made.items ++ region_specs (drop l.region-index l.regions) ≡ region_specs l.regions
