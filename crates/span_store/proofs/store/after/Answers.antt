use Rattle.span_store.proofs.Order.{split, ascend}
use Rattle.span_store.proofs.store.after.Goals as goal

pub returns-in-Some-clause-split : goal.returns-in-Some-clause-split
returns-in-Some-clause-split c = split c.args.limit c.args.store.now.entries (ascend _ c.range.ensures.ordered)

pub returns-in-None-clause-split : goal.returns-in-None-clause-split
returns-in-None-clause-split c = split c.args.limit c.args.store.now.entries (ascend _ c.range.ensures.ordered)
