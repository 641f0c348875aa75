use Rattle.std.proofs.Common.{◌∙◌, sym}
use Rattle.flash_order.proofs.Steps.{task_named}
use Rattle.flash_order.proofs.fields.is_name.Goals as goal

pub returns-clause-form : goal.returns-clause-form
returns-clause-form c = λ passes. task_named c.args.text.now (sym c.is_task_name.ensures ∙ passes)
