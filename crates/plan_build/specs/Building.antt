-- The plan that files make, or the first refusal.
use Rattle.std.specs.Prelude.{◌≡◌, ℕ, nat_lt, List, length, Option, Result, Ok, Err, if◌then◌else◌}
use Rattle.flash_order.specs.declared.order.Order.{Order}
use Rattle.flash_order.specs.declared.order.Task.{Task}
use Rattle.flash_plan.specs.Accepting.{IsPlanAnswer}
use Rattle.flash_plan.specs.declared.fault.PlanFault.{PlanFault}
use Rattle.flash_plan.specs.declared.fault.What.TheVariants.{Units}
use Rattle.flash_plan.specs.declared.unit.UnitPlan.{UnitPlan}
use Rattle.flash_shelf.specs.declared.shelf.ShelfFault.{ShelfFault}
use Rattle.plan_build.specs.Answers.{just, ◌>>=◌}
use Rattle.plan_build.specs.Catalogues.{ordered, catalogued}
use Rattle.plan_build.specs.Fetched.{is_told}
use Rattle.plan_build.specs.Refusals.{plan_refusal}
use Rattle.plan_build.specs.Tasks.{parts}
use Rattle.plan_build.specs.declared.built.Built.{Built}
use Rattle.plan_build.specs.declared.built.Catalogue.{Catalogue}
use Rattle.plan_build.specs.declared.built.Parts.{Parts}
use Rattle.plan_build.specs.declared.fault.BuildFault.{BuildFault}
use Rattle.plan_build.specs.declared.fault.BuildFault.TheVariants.{Input}
use Rattle.plan_build.specs.declared.fault.Cause.TheVariants.{TooMany}

abbrev pub plan_from : List ℕ → Order → Parts → Result (List UnitPlan) PlanFault → Result Built BuildFault
plan_from name o ps (Ok units) = Ok (record { order = o; plan = units; checks = ps.checks; own = ps.own })
plan_from name o ps (Err e) = Err (plan_refusal name o.tasks e)

-- what is accepted of the drafts
pub record Planned (name : List ℕ) (o : Order) (ps : Parts) (r : Result Built BuildFault) : Type 0 where
  pub answer : Result (List UnitPlan) PlanFault
  pub given : IsPlanAnswer ps.drafts answer
  pub is : r ≡ plan_from name o ps answer

abbrev pub planned : List ℕ → Order → Parts → Result Built BuildFault → Type 0
planned name o ps r = Planned name o ps r

-- the tasks, of which there are at most 64
abbrev pub few_tasks : List ℕ → List Task → Result (List Task) BuildFault
few_tasks name ts = if nat_lt 64 (length ts) then Err (Input name (TooMany Units)) else Ok ts

-- all tasks, whose segments have at most 67,108,864 bytes together
abbrev pub tasks_built : (List ℕ → Result (List ℕ) ShelfFault → Type 0) → List ℕ → Order → Option Catalogue
    → Result Built BuildFault → Type 0
tasks_built read name o c =
    just (few_tasks name o.tasks) >>= λ ts. parts read name c 0 67108864 ts >>= planned name o

-- the order, the catalogue, the tasks, the plan
abbrev pub built_by : (List ℕ → Result (List ℕ) ShelfFault → Type 0) → List ℕ → Result Built BuildFault
    → Type 0
built_by read name = ordered read name >>= λ o. catalogued read o.catalogue >>= λ c. tasks_built read name o c

-- what told files make of an order file
abbrev pub built : List (List ℕ × List ℕ) → List ℕ → Result Built BuildFault → Type 0
built files name = built_by (is_told files) name
