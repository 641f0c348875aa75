use Rattle.std.proofs.Common.{◌∷◌, ◌++◌, [], sym, ◌∙◌, ap}
use Rattle.span_store.proofs.Order.{split, ascend}
use Rattle.span_store.proofs.store.before.Goals as goal

pub returns-in-Some-clause-split : goal.returns-in-Some-clause-split
returns-in-Some-clause-split c = split c.args.limit c.args.store.now.entries (ascend _ c.range.ensures.ordered)

pub returns-in-Some-clause-last : goal.returns-in-Some-clause-last
returns-in-Some-clause-last c =
    (c.next_back.new.self, sym (c.range.ensures.between tt) ∙ c.in-Some.ensures.steps ∙ ap (λ b. c.next_back.new.self ++ ((c.in-Some.start.now, b) ∷ [])) (sym c.as_slice.ensures))

pub returns-in-None-clause-split : goal.returns-in-None-clause-split
returns-in-None-clause-split c = split c.args.limit c.args.store.now.entries (ascend _ c.range.ensures.ordered)
