use Rattle.std.proofs.Common.{◌≡◌, ◌≤◌, drop, map, take}
use Rattle.plan_build.specs.Fetched.{came, Lies, Period}
use Rattle.plan_build.proofs.Lists.{LeadsFiles}
use Rattle.plan_build.proofs.fetching.fetch_all.Given as goal

abbrev pub invariant-loop-i : goal.invariant-loop-i
invariant-loop-i g l = record {
  keeps : (g.F.Shelf.history l.shelf).contents ≡ (g.F.Shelf.history l.fn.shelf).contents;
  never_falls : (g.F.Shelf.history l.fn.shelf).faults ≤ (g.F.Shelf.history l.shelf).faults;
  read : (p : Period) → Lies p g.F.Shelf.tells (g.F.Shelf.history l.fn.shelf).contents (g.F.Shelf.history l.fn.shelf).faults (g.F.Shelf.history l.shelf).faults → LeadsFiles (came p) l.names l.files (drop l.i l.names);
  names : map (λ f. f.0) l.files ≡ take l.i l.names;
}
