-- The refusals that need no memory.
use Rattle.std.specs.Prelude.{List, Option, Some, None, Err}
use Rattle.flash_plan.specs.declared.fault.PlanFault.{PlanFault}
use Rattle.flash_plan.specs.declared.unit.Draft.{Draft}
use Rattle.flash_plan.specs.Accepting.{IsPlanAnswer, IsKnown}

-- the first of them in the order of the tests before that on cycles, if there is one
abbrev pub IsRefusal : List Draft → Option PlanFault → Type 0
IsRefusal ds None = IsKnown ds
IsRefusal ds (Some fault) = IsPlanAnswer ds (Err fault)
