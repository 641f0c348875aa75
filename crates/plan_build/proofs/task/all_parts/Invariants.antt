use Rattle.std.proofs.Common.{◌≡◌, ◌≤◌, ◌-◌, drop, length}
use Rattle.flash_base.specs.Lists.{Each}
use Rattle.flash_order.specs.Promises.{IsTask}
use Rattle.flash_plan.specs.Accepting.{IsDraft}
use Rattle.plan_build.specs.Fetched.{came, Lies, Period}
use Rattle.plan_build.proofs.Drafts.{AreSo}
use Rattle.plan_build.proofs.Lists.{LeadsParts}
use Rattle.plan_build.proofs.task.all_parts.Given as goal

abbrev pub invariant-loop-n : goal.invariant-loop-n
invariant-loop-n g l = record {
  keeps : (g.F.Shelf.history l.shelf).contents ≡ (g.F.Shelf.history l.fn.shelf).contents;
  never_falls : (g.F.Shelf.history l.fn.shelf).faults ≤ (g.F.Shelf.history l.shelf).faults;
  read : (p : Period) → Lies p g.F.Shelf.tells (g.F.Shelf.history l.fn.shelf).contents (g.F.Shelf.history l.fn.shelf).faults (g.F.Shelf.history l.shelf).faults
      → LeadsParts (came p) l.name l.catalogue l.tasks l.all l.n l.room (drop l.n l.tasks);
  so : AreSo l.n l.all;
  within : l.n ≤ length l.tasks;
  drafts : Each IsDraft l.all.drafts;
  tasks : Each IsTask (drop l.n l.tasks);
}

abbrev pub decreases-loop-n : goal.decreases-loop-n
decreases-loop-n g l = length l.tasks - l.n
