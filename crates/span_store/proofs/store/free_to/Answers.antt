use Rattle.std.proofs.Common.{inl, arith}
use Rattle.span_store.proofs.Order.{last_below}
use Rattle.span_store.proofs.Pieces.{last_fits, last_covers, ends_behind, ends_start, not_over}
use Rattle.span_store.proofs.store.free_to.Goals as goal

pub overflow_add-end : goal.overflow_add-end
overflow_add-end c = let f = last_fits c.args.store.now.entries (c.in-Some.start, c.in-Some.bytes.now) c.args.stop c.in-Some.ensures.split c.in-Some.ensures.last c.requires.extents in omega arith

pub returns-then-stop-end-clause-within : goal.returns-then-stop-end-clause-within
returns-then-stop-end-clause-within c = let b = last_below c.args.stop c.args.store.now.entries (c.in-Some.start, c.in-Some.bytes.now) c.in-Some.ensures.last in omega arith

pub returns-then-stop-end-clause-cut : goal.returns-then-stop-end-clause-cut
returns-then-stop-end-clause-cut c = ends_start c.args.store.now.entries (c.in-Some.start, c.in-Some.bytes.now) c.args.stop c.in-Some.ensures.split c.in-Some.ensures.last c.requires.extents

pub returns-then-stop-end-clause-covers : goal.returns-then-stop-end-clause-covers
returns-then-stop-end-clause-covers c = λ a l u.
    last_covers c.args.store.now.entries (c.in-Some.start, c.in-Some.bytes.now) c.args.stop c.in-Some.ensures.split c.in-Some.ensures.last c.requires.extents a l (omega arith)

pub returns-then-stop-end-clause-behind : goal.returns-then-stop-end-clause-behind
returns-then-stop-end-clause-behind c = λ n l b.
    not_over c.args.store.now.entries (c.in-Some.start, c.in-Some.bytes.now) c.args.stop c.in-Some.ensures.split c.in-Some.ensures.last c.requires.extents n (omega arith) b

pub returns-else-stop-end-clause-cut : goal.returns-else-stop-end-clause-cut
returns-else-stop-end-clause-cut c =
    ends_behind c.args.store.now.entries (c.in-Some.start, c.in-Some.bytes.now) c.args.stop c.args.stop c.in-Some.ensures.split c.in-Some.ensures.last c.requires.extents (omega arith) (inl (omega arith))
