use Rattle.std.proofs.Common.{sym, ◌∙◌}
use Rattle.span_store.proofs.Order.{none_between, ascend}
use Rattle.span_store.proofs.store.first_in.Goals as goal

pub returns-in-None : goal.returns-in-None
returns-in-None c =
    none_between c.args.from c.args.to c.args.store.now.entries c.requires (ascend _ c.range.ensures.ordered) (sym (c.range.ensures.between tt) ∙ c.in-None.ensures.steps.0)
