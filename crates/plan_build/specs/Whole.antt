-- What everything that is built keeps.
use Rattle.std.specs.Prelude.{◌≡◌, ℕ, length, List, Result, Ok, Err}
use Rattle.flash_order.specs.Promises.{IsOrder}
use Rattle.flash_plan.specs.Plan.{IsAccepted, count_of}
use Rattle.flash_shelf.specs.declared.shelf.ShelfFault.{ShelfFault}
use Rattle.flash_shelf.specs.declared.shelf.ShelfFault.TheVariants as shelf
use Rattle.flash_order.specs.declared.order.Task.{Task}
use Rattle.plan_build.specs.declared.built.Built.{Built}
use Rattle.plan_build.specs.declared.built.Parts.{Parts}
use Rattle.plan_build.specs.declared.fault.BuildFault.{BuildFault}
use Rattle.plan_build.specs.declared.fault.BuildFault.TheVariants.{Shelf, Input, NoMemory}

-- the order is in its form, the plan is accepted, and there is one of each for each task
pub record IsWholePlan (b : Built) : Type 0 where
  pub order : IsOrder b.order
  pub accepted : IsAccepted b.plan
  pub units : count_of b.plan ≡ length b.order.tasks
  pub checks : length b.checks ≡ length b.order.tasks
  pub own : length b.own ≡ length b.order.tasks

-- of a name and a fault that is not want of memory
abbrev pub IsOutside : (List ℕ → ShelfFault → Type 0) → List ℕ → ShelfFault → Type 0
IsOutside P name shelf.Missing = P name shelf.Missing
IsOutside P name shelf.TooLarge = P name shelf.TooLarge
IsOutside P name shelf.Failed = P name shelf.Failed
IsOutside P name shelf.NoMemory = ⊥

-- where a shelf did not give a file, this holds of its name and of why, which is not want of memory
abbrev pub IfShelf : {A : Type 0} → Result A BuildFault → (List ℕ → ShelfFault → Type 0) → Type 0
IfShelf (Ok x) P = Unit {0}
IfShelf (Err (Shelf name fault)) P = IsOutside P name fault
IfShelf (Err (Input name cause)) P = Unit {0}
IfShelf (Err NoMemory) P = Unit {0}

-- one of each for each task
pub record AreFor (ts : List Task) (ps : Parts) : Type 0 where
  pub drafts : length ps.drafts ≡ length ts
  pub checks : length ps.checks ≡ length ts
  pub own : length ps.own ≡ length ts
