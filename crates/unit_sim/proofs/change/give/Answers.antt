use Rattle.std.proofs.Common.{◌≡◌, ◌∙◌, ap, Some, true}
use Rattle.unit_model.specs.Rules.{transfer_in}
use Rattle.unit_model.specs.declared.unit.Transfer.{Transfer}
use Rattle.unit_sim.proofs.Ranges.{goes_on}
use Rattle.unit_sim.proofs.change.give.Goals as goal

pub invariant_of-unit : goal.invariant_of-unit
invariant_of-unit c =
    let fits = rw c.in-Some.is at c.requires in
    let was : transfer_in c.args.unit.now.memory (Some c.in-Some.t) ≡ true = rw c.in-Some.is at c.args.unit.now.open_range in
    record {
      one_kind = c.args.unit.now.one_kind;
      short_idents = c.args.unit.now.short_idents;
      some_seed = c.args.unit.now.some_seed;
      one_rule = c.args.unit.now.one_rule;
      some_ranges = c.args.unit.now.some_ranges;
      open_range =
          ap (λ (t : Transfer). transfer_in c.args.unit.now.memory (Some t)) c.behind.ensures
          ∙ goes_on _ c.in-Some.t c.args.size was fits.0 fits.1;
    }
