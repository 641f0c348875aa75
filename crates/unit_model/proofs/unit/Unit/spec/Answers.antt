use Rattle.std.proofs.Common.{◌≡◌, ◌∙◌, sym, ap, refl, true, ℕ, List}
use Rattle.flash_base.specs.ByteMaps.{MemoryMap}
use Rattle.unit_model.specs.Idents.{all_short}
use Rattle.unit_model.specs.Regions.{filled}
use Rattle.unit_model.specs.Rules.{is_seed, is_rule, all_ranges, transfer_in}
use Rattle.unit_model.specs.Running.{control_unit}
use Rattle.unit_model.specs.Troubles.{all_troubles}
use Rattle.unit_model.proofs.Domains.{patched_same, transfer_same}
use Rattle.unit_model.proofs.unit.Unit.spec.Goals as goal

pub returns : goal.returns
returns c =
    let saved = c.in_ok-regions.ensures in
    let idents = c.in_ok-idents_of.ensures ∙ c.as_slice.ensures in
    let seed = c.in_ok-from_slice.ensures ∙ c.as_slice-2.ensures in
    let checked = c.from_vec.ensures ∙ c.in_ok-from_slice-2.ensures.items ∙ c.as_slice-3.ensures.value in
    record {
      is = record {
        regions = saved.apart;
        bytes = saved.inside;
        idents = ap all_short idents ∙ c.args.self.now.short_idents;
        seed = ap is_seed seed ∙ c.args.self.now.some_seed;
        key = ap is_rule c.in_ok-rule_of.ensures ∙ c.args.self.now.one_rule;
        checked = ap all_ranges checked ∙ c.args.self.now.some_ranges;
        kind = c.args.self.now.one_kind;
        transfer =
            sym (transfer_same _ _ (patched_same c.in_ok-regions.field-0.bytes (filled c.in_ok-regions.field-0.regions)) c.args.self.now.transfer)
            ∙ ap (λ (m : MemoryMap). transfer_in m c.args.self.now.transfer) saved.same
            ∙ c.args.self.now.open_range;
        troubles = ap all_troubles c.new.ensures;
      };
      unit = λ i. record (control_unit c.args.self.now) {
        woken = 0;
        seed = seed i;
        last_seed = c.in_ok-seed_of.ensures i;
        memory = saved.same i;
        checked = checked i;
        idents = idents i;
        key = c.in_ok-rule_of.ensures i;
      };
      untroubled = c.new.ensures;
    }
