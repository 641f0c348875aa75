use Rattle.std.proofs.Common.{◌∙◌, ap}
use Rattle.span_store.specs.Extents.{low, high}
use Rattle.span_store.proofs.Order.{low-remove, high-remove}
use Rattle.span_store.proofs.store.clear.Goals as goal

pub loop-start-preserved-in-Some : goal.loop-start-preserved-in-Some
loop-start-preserved-in-Some c = record {
  below = ap (low c.args.from) c.remove.ensures.entries ∙ low-remove c.args.from c.in-Some.start c.loop-start.store.entries c.in-Some.ensures.0 ∙ c.loop-start.invariant.below;
  above = ap (high c.args.to) c.remove.ensures.entries ∙ high-remove c.args.to c.in-Some.start c.loop-start.store.entries c.in-Some.ensures.1 ∙ c.loop-start.invariant.above;
}
