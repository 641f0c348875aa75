use Rattle.std.proofs.Common.{◌+◌, ◌≤◌, length, arith}
use Rattle.span_store.proofs.Pieces.{last_fits, ends_before}
use Rattle.span_store.proofs.Free.{none_below}
use Rattle.span_store.proofs.store.place.Goals as goal

pub overflow_add-end : goal.overflow_add-end
overflow_add-end c = let f = last_fits c.args.store.now.entries (c.in-Some.start, c.in-Some.bytes.now) c.args.stop c.in-Some.ensures.split c.in-Some.ensures.last c.requires.extents in omega arith

pub returns-then-end-at : goal.returns-then-end-at
returns-then-end-at c =
    let fits : c.in-Some.start + length c.in-Some.bytes.now ≤ c.args.at = omega arith in (
      ends_before c.args.store.now.entries (c.in-Some.start, c.in-Some.bytes.now) c.args.stop c.in-Some.ensures.split c.in-Some.ensures.last c.requires.extents c.args.at fits,
      (c.in-Some.bytes.now, c.in-Some.ensures.last, omega arith),
    )

pub returns-then-end-at-2 : goal.returns-then-end-at-2
returns-then-end-at-2 c =
    let fits : c.in-Some.start + length c.in-Some.bytes.now ≤ c.args.at = omega arith in
    ends_before c.args.store.now.entries (c.in-Some.start, c.in-Some.bytes.now) c.args.stop c.in-Some.ensures.split c.in-Some.ensures.last c.requires.extents c.args.at fits

pub returns-in-None : goal.returns-in-None
returns-in-None c = none_below _ _ c.in-None.ensures.last
