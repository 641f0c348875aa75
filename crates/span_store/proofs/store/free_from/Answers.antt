use Rattle.std.proofs.Common.{◌+◌, inl, inr, length, arith}
use Rattle.span_store.proofs.Order.{last_below}
use Rattle.span_store.proofs.Pieces.{last_fits, last_covers, ends_behind, ends_none}
use Rattle.span_store.proofs.store.free_from.Goals as goal

pub overflow_add-end : goal.overflow_add-end
overflow_add-end c = let f = last_fits c.args.store.now.entries (c.in-Some.start, c.in-Some.bytes.now) (c.args.at + 1) c.in-Some.ensures.split c.in-Some.ensures.last c.requires.extents in omega arith

pub returns-then-at-end-clause-within : goal.returns-then-at-end-clause-within
returns-then-at-end-clause-within c = last_fits c.args.store.now.entries (c.in-Some.start, c.in-Some.bytes.now) (c.args.at + 1) c.in-Some.ensures.split c.in-Some.ensures.last c.requires.extents

pub returns-then-at-end-clause-cut : goal.returns-then-at-end-clause-cut
returns-then-at-end-clause-cut c =
    ends_behind c.args.store.now.entries (c.in-Some.start, c.in-Some.bytes.now) (c.args.at + 1) (c.in-Some.start + length c.in-Some.bytes.now) c.in-Some.ensures.split c.in-Some.ensures.last c.requires.extents (omega arith) (inr (omega arith))

pub returns-then-at-end-clause-covers : goal.returns-then-at-end-clause-covers
returns-then-at-end-clause-covers c = λ a l u.
    let b = last_below (c.args.at + 1) c.args.store.now.entries (c.in-Some.start, c.in-Some.bytes.now) c.in-Some.ensures.last in
    last_covers c.args.store.now.entries (c.in-Some.start, c.in-Some.bytes.now) (c.args.at + 1) c.in-Some.ensures.split c.in-Some.ensures.last c.requires.extents a (omega arith) (omega arith)

pub returns-else-at-end-clause-cut : goal.returns-else-at-end-clause-cut
returns-else-at-end-clause-cut c =
    ends_behind c.args.store.now.entries (c.in-Some.start, c.in-Some.bytes.now) (c.args.at + 1) c.args.at c.in-Some.ensures.split c.in-Some.ensures.last c.requires.extents (omega arith) (inl (omega arith))

pub returns-in-None-clause-cut : goal.returns-in-None-clause-cut
returns-in-None-clause-cut c = ends_none c.args.store.now.entries (c.args.at + 1) c.args.at c.in-None.ensures.last c.in-None.ensures.split c.requires.extents (omega arith)
