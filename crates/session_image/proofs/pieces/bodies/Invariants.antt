use Rattle.std.proofs.Common.{◌≡◌, ◌+◌, ◌<◌, ◌≤◌, drop, length}
use Rattle.flash_base.specs.Lists.{Each}
use Rattle.ecu_mem.specs.Bounds.{IsRange}
use Rattle.session_image.specs.Kept.{IsWithin, sizes}
use Rattle.session_image.specs.Pieces.{bodies, size_limit, total}
use Rattle.session_image.proofs.Joins.{joined}
use Rattle.session_image.proofs.pieces.bodies.Given as goal

abbrev pub invariant-loop-i : goal.invariant-loop-i
invariant-loop-i l = record {
  same : l.i < length l.ranges → l.content ≡ l.initial.content;
  are : bodies l.initial.content l.filters l.fill l.fn.first 0 l.ranges ≡ joined l.bodies (bodies l.initial.content l.filters l.fill l.number l.before (drop l.i l.ranges));
  rest : Each IsRange (drop l.i l.ranges);
  before : l.before + total (drop l.i l.ranges) ≡ total l.ranges;
  limit : l.number + total (drop l.i l.ranges) ≤ size_limit;
  within : Each IsWithin l.bodies;
  sizes : sizes l.bodies + total (drop l.i l.ranges) ≡ total l.ranges;
}
