use Rattle.std.proofs.Common.{◌≡◌, ◌∙◌, ap, true, rules}
use Rattle.flash_base.specs.ByteMaps.{MemoryMap}
use Rattle.unit_model.specs.Regions.{filled, patched}
use Rattle.unit_model.specs.Rules.{transfer_in}
use Rattle.unit_model.specs.RegionMaps.{map_of}
use Rattle.unit_model.proofs.Domains.{patched_same, transfer_same}
use Rattle.unit_model.proofs.unit.Unit.new.Goals as goal

pub invariant_of-result-2 : goal.invariant_of-result-2
invariant_of-result-2 c =
    let made : map_of c.memory.inside.regions.items ≡ patched c.args.spec.now.bytes (filled c.args.spec.now.regions) = search rules in
    record {
      one_kind = c.requires.kind;
      short_idents = search rules;
      some_seed = search rules;
      one_rule = search rules;
      some_ranges = search rules;
      open_range =
          ap (λ (m : MemoryMap). transfer_in m c.args.spec.now.transfer) made
          ∙ transfer_same _ _ (patched_same c.args.spec.now.bytes (filled c.args.spec.now.regions)) c.args.spec.now.transfer
          ∙ c.requires.transfer;
    }
