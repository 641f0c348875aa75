use Rattle.std.proofs.Common.{rules, ◌≡◌, None, sym, ◌∙◌, subst}
use Rattle.flash_plan.specs.Accepting.{first_task, has_wide, IsKnown, IsOrdered}
use Rattle.flash_plan.specs.Cycles.{IsFirstCycleTest}
use Rattle.flash_plan.specs.Plan.{IsAccepted}
use Rattle.flash_plan.specs.Refusals.{IsRefusal}
use Rattle.flash_plan.proofs.Accepted.{accepted_plan}
use Rattle.flash_plan.proofs.Verdicts.{ordered, units_within}
use Rattle.flash_plan.proofs.accepting.accept.Goals as goal

pub first_cycle-requires-clause-within : goal.first_cycle-requires-clause-within
first_cycle-requires-clause-within c = units_within c.args.drafts c.as_slice-4.result.now (c.as_slice-4.ensures ∙ c.in_ok-units.ensures)

pub of_units-requires : goal.of_units-requires
of_units-requires c =
    let ds = c.args.drafts in
    let units = c.as_slice-4.result.now in
    let none_refused : c.refusal.result ≡ None = search rules in
    let none_first : c.first_cycle.result ≡ None = search rules in
    let none_wide : c.too_wide-wide.result ≡ None = search rules in
    let known : IsKnown ds = subst IsKnown c.as_slice.ensures (subst (IsRefusal c.as_slice.result.now) none_refused c.refusal.ensures) in
    let tested : IsFirstCycleTest units None = subst (IsFirstCycleTest units) none_first c.first_cycle.ensures in
    let in_order : IsOrdered ds = ordered ds units (c.as_slice-4.ensures ∙ c.in_ok-units.ensures) known tested in
    let narrow : first_task ds (has_wide ds) ≡ None = subst (λ xs. first_task xs (has_wide xs) ≡ None) c.as_slice-2.ensures (sym c.too_wide-wide.ensures ∙ none_wide) in
    subst IsAccepted (sym c.in_ok-units.ensures) (accepted_plan ds c.requires in_order narrow)
