use Rattle.std.proofs.Common.{◌≡◌, ◌≤◌, length}
use Rattle.flash_base.specs.Lists.{Each}
use Rattle.plan_build.specs.Fetched.{came, Lies, Period}
use Rattle.plan_build.specs.Loading.{AreLoaded, IsJob}
use Rattle.plan_build.proofs.batch.read_batch.Given as goal

abbrev pub invariant-loop-i : goal.invariant-loop-i
invariant-loop-i g l = record {
  keeps : (g.F.Shelf.history l.shelf).contents ≡ (g.F.Shelf.history l.fn.shelf).contents;
  never_falls : (g.F.Shelf.history l.fn.shelf).faults ≤ (g.F.Shelf.history l.shelf).faults;
  read : (p : Period) → Lies p g.F.Shelf.tells (g.F.Shelf.history l.fn.shelf).contents (g.F.Shelf.history l.fn.shelf).faults (g.F.Shelf.history l.shelf).faults
      → AreLoaded (came p) l.name l.catalogue l.tasks l.jobs.items;
  jobs : Each (IsJob l.catalogue) l.jobs.items;
  count : length l.jobs.items ≡ l.i;
  first : l.i ≡ 0 → l.texts ≡ 0;
}
