use Rattle.std.proofs.Common.{◌∙◌, ap, Some, false}
use Rattle.unit_model.specs.Rules.{all_ranges, transfer_in}
use Rattle.unit_model.specs.declared.unit.Transfer.{Transfer}
use Rattle.std.specs.Prelude.{not}
use Rattle.unit_model.specs.Unit.{meets}
use Rattle.unit_sim.proofs.Ranges.{some_kept, opens}
use Rattle.unit_sim.proofs.change.download.Goals as goal

pub invariant_of-unit : goal.invariant_of-unit
invariant_of-unit c = record {
  one_kind = c.args.unit.now.one_kind;
  short_idents = c.args.unit.now.short_idents;
  some_seed = c.args.unit.now.some_seed;
  one_rule = c.args.unit.now.one_rule;
  some_ranges = ap all_ranges c.keep_apart.ensures ∙ some_kept (λ r. not (meets c.args.at c.args.size r)) c.args.unit.now.checked.items c.args.unit.now.some_ranges;
  open_range = ap (λ (t : Transfer). transfer_in c.args.unit.now.memory (Some t)) c.transfer.ensures ∙ opens false _ _ _ c.requires;
}
