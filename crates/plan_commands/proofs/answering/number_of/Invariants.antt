use Rattle.std.proofs.Common.{◌≡◌, bytes_eq, drop}
use Rattle.std.specs.List.{position_from}
use Rattle.flash_plan.specs.declared.unit.UnitPlan.{UnitPlan}
use Rattle.plan_commands.proofs.answering.number_of.Given as goal

abbrev pub invariant-loop-n : goal.invariant-loop-n
invariant-loop-n l = position_from (λ (u : UnitPlan). bytes_eq u.name l.task) 0 l.plan ≡ position_from (λ (u : UnitPlan). bytes_eq u.name l.task) l.n (drop l.n l.plan)
