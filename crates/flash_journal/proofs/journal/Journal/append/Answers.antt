use Rattle.std.proofs.Common.{[], ◌∷◌}
use Rattle.journal_steps.specs.Append.{AddsSomeOf, AddsAtMost}
use Rattle.journal_steps.proofs.Moments.{weakens}
use Rattle.journal_steps.proofs.Several.{one_adds}
use Rattle.flash_journal.specs.Kept.{journal_label, has_entry}
use Rattle.flash_journal.proofs.journal.Journal.append.Goals as goal

pub returns-in-Ok-clause-any_moment : goal.returns-in-Ok-clause-any_moment
returns-in-Ok-clause-any_moment g c = λ told.
    let P = journal_label c.args.self.now in
    let R = has_entry c.args.self.now in
    let e = c.args.entry in
    weakens (AddsSomeOf P R (e ∷ [])) (AddsAtMost P R e) _ _ (λ d adds. one_adds P R e d adds) (c.append_group.ensures.any_moment told)

pub returns-in-Err-clause-any_moment : goal.returns-in-Err-clause-any_moment
returns-in-Err-clause-any_moment g c = λ told.
    let P = journal_label c.args.self.now in
    let R = has_entry c.args.self.now in
    let e = c.args.entry in
    weakens (AddsSomeOf P R (e ∷ [])) (AddsAtMost P R e) _ _ (λ d adds. one_adds P R e d adds) (c.append_group.ensures.any_moment told)
