use Rattle.std.proofs.Common.{rules, ◌≡◌, None, sym, ◌∙◌}
use Rattle.flash_plan.specs.Accepting.{has_same_address}
use Rattle.flash_plan.proofs.Verdicts.{few_drafts, task_within}
use Rattle.flash_plan.proofs.accepting.refusal.Goals as goal

pub same_name-requires : goal.same_name-requires
same_name-requires c =
    let none : c.too_many.result ≡ None = search rules in
    few_drafts c.args.drafts.now (sym c.too_many.ensures ∙ none)

pub draft_at-requires : goal.draft_at-requires
draft_at-requires c =
    task_within c.args.drafts.now (has_same_address c.args.drafts.now) c.in-Some-same_address.task (sym c.same_address.ensures ∙ c.in-Some-same_address.is)
