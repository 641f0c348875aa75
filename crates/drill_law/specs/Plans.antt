-- The plan of a drill: what its order, its catalogue and its flash data say together.
use Rattle.std.specs.Prelude.{ℕ, ◌+◌, List, [], ◌∷◌, codes, map, Some, None}
use Rattle.std.specs.List.{range_with_len}
use Rattle.bench_gen.specs.Sizes.{units_of, base, image_of, before, numbered}
use Rattle.flash_base.specs.declared.unit.KeyRule.{KeyRule}
use Rattle.flash_base.specs.declared.unit.KeyRule.TheVariants.{Xor}
use Rattle.flash_base.specs.declared.unit.Width.{Width}
use Rattle.flash_order.specs.declared.order.Order.{Order}
use Rattle.flash_order.specs.declared.order.Source.TheVariants.{Session}
use Rattle.flash_order.specs.declared.order.Task.{Task}
use Rattle.flash_plan.specs.declared.unit.UnitPlan.{UnitPlan}
use Rattle.flash_plan.specs.declared.unit.Wanted.{Wanted}
use Rattle.plan_build.specs.declared.built.Built.{Built}
use Rattle.plan_build.specs.declared.built.TaskChecks.{TaskChecks}
use Rattle.plan_build.specs.declared.built.TaskOwn.{TaskOwn}

-- one of each for every unit of drill n
abbrev pub for_units : {T : Type 0} → (ℕ → T) → ℕ → List T
for_units f n = map f (range_with_len 0 (units_of n))

-- each byte of a seed exclusive-or 5A
abbrev pub key_rule : KeyRule
key_rule = Xor 1 (90 ∷ [])

-- identifier F195 has to say `OLD`
abbrev pub wanted : Wanted
wanted = record { did = 61845; values = codes "OLD" ∷ [] }

abbrev pub width : Width
width = record { size = 4; at = 4 }

-- ------ the plan
-- unit k, at address 1000 and its number: one segment, behind the whole group before its own
abbrev pub unit_plan : ℕ → ℕ → UnitPlan
unit_plan n k = record {
  name = numbered (codes "U") k;
  address = 4096 + k;
  width = width;
  check = 514;
  key = key_rule;
  idents = wanted ∷ [];
  after = before k;
  segments = record { at = base; body = image_of n k } ∷ [];
}

abbrev pub plan_of_drill : ℕ → List UnitPlan
plan_of_drill n = for_units (unit_plan n) n

-- ------ what the files say besides
abbrev pub task_of : ℕ → Task
task_of k = record {
  name = numbered (codes "U") k;
  unit = 4096 + k;
  width = width;
  check = 514;
  key = key_rule;
  source = Session (numbered (codes "S") k) ((codes "SWNR", 61845) ∷ []) None;
  after = map (numbered (codes "U")) (before k);
}

-- tester 0E80, one lost connection made anew
abbrev pub order_of_drill : ℕ → Order
order_of_drill n = record {
  tester = 3712;
  relinks = 1;
  catalogue = Some (codes "cat.json");
  tasks = for_units task_of n;
}

-- a session has no checksums, and a datablock no idents of its own
abbrev pub no_checks : ℕ → TaskChecks
no_checks k = record { task = k; checks = [] }

abbrev pub no_own : ℕ → TaskOwn
no_own k = record { task = k; own = [] }

abbrev pub built_of_drill : ℕ → Built
built_of_drill n = record {
  order = order_of_drill n;
  plan = plan_of_drill n;
  checks = for_units no_checks n;
  own = for_units no_own n;
}
