use Rattle.std.proofs.Common.{◌≡◌, ◌∙◌, ap, Some, true, length}
use Rattle.flash_base.specs.ByteMaps.{MemoryMap}
use Rattle.unit_model.specs.Rules.{transfer_in}
use Rattle.unit_model.specs.declared.unit.Transfer.{Transfer}
use Rattle.unit_sim.specs.Transfers.{gone_on}
use Rattle.unit_sim.proofs.Ranges.{writes}
use Rattle.unit_sim.proofs.change.write.Goals as goal

pub invariant_of-unit : goal.invariant_of-unit
invariant_of-unit c =
    let fits = rw c.in-Some.is at c.requires in
    let was : transfer_in c.args.unit.now.memory (Some c.in-Some.t) ≡ true = rw c.in-Some.is at c.args.unit.now.open_range in
    record {
      one_kind = c.args.unit.now.one_kind;
      short_idents = c.args.unit.now.short_idents;
      some_seed = c.args.unit.now.some_seed;
      one_rule = c.args.unit.now.one_rule;
      some_ranges = c.args.unit.now.some_ranges;
      open_range =
          ap (λ (t : Transfer). transfer_in c.put.new.self (Some t)) c.behind.ensures
          ∙ ap (λ (m : MemoryMap). transfer_in m (Some (gone_on c.in-Some.t (length c.args.body.now)))) c.put.ensures
          ∙ writes _ c.in-Some.t c.args.body.now was fits.0 fits.1;
    }
