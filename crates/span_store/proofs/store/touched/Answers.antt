use Rattle.std.proofs.Common.{arith}
use Rattle.span_store.proofs.Pieces.{last_fits}
use Rattle.span_store.proofs.Laying.{found_there}
use Rattle.span_store.proofs.store.touched.Goals as goal

pub overflow_add-start : goal.overflow_add-start
overflow_add-start c = let f = last_fits c.args.store.now.entries (c.in-Some.start, c.in-Some.bytes.now) c.args.at c.in-Some.ensures.split c.in-Some.ensures.last c.requires.extents in omega arith

pub returns-in-Some : goal.returns-in-Some
returns-in-Some c = (
  c.in-Some.bytes.now,
  c.in-Some.ensures.last,
  c.if-start-bytes.true,
  found_there c.args.store.now.entries c.args.at c.in-Some.start c.in-Some.bytes.now c.requires.extents c.in-Some.ensures.split c.in-Some.ensures.last,
)
