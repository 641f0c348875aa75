-- A unit that fits its task, and a vehicle whose units match a plan.
use Rattle.std.specs.Prelude.{◌≡◌, ℕ, ◌<◌, ◌≤◌, Bool, false, List, length, MatchOption, Contains}
use Rattle.flash_base.specs.Lists.{Each}
use Rattle.flash_plan.specs.declared.outcome.Entry.{Entry}
use Rattle.flash_plan.specs.declared.outcome.Entry.TheVariants.{Begun}
use Rattle.flash_plan.specs.declared.unit.UnitPlan.{UnitPlan}
use Rattle.flash_plan.specs.declared.unit.Wanted.{Wanted}
use Rattle.flash_plan.specs.Plan.{plan_of, count_of}
use Rattle.run_model.specs.States.{HasRoom}
use Rattle.unit_model.specs.Unit.{ControlUnit, ident_of}
use Rattle.unit_model.specs.Vehicle.{Vehicle, unit_at}

abbrev pub HasIdent : ControlUnit → Wanted → Type 0
HasIdent u w = MatchOption (ident_of u.idents w.did) ⊥ (λ (value : List ℕ). Unit {0})

-- the value of the identifier is an expected one
abbrev pub HasValue : ControlUnit → Wanted → Type 0
HasValue u w = MatchOption (ident_of u.idents w.did) ⊥ (λ value. Contains w.values value)

-- The unit can be programmed by its task: it has every expected identifier, its regions hold every segment, key rule and
-- check routine are the task's, a block carries a byte, and its seed is one that a key can be asked for.
pub record IsFitting (plan : UnitPlan) (u : ControlUnit) : Type 0 where
  pub idents : Each (HasIdent u) plan.idents
  pub segments : Each (λ s. HasRoom s u) plan.segments
  pub key : u.key ≡ plan.key
  pub check : u.check ≡ plan.check
  pub block : 3 ≤ u.block
  pub seed : 1 ≤ length u.seed
  pub short_seed : length u.seed ≤ 32
  pub open_seed : ¬ Each (λ b. b ≡ 0) u.seed

-- it fits, and where its task was not begun yet its identifiers have expected values
pub record IsMatching (begun : Bool) (plan : UnitPlan) (u : ControlUnit) : Type 0 where
  pub fits : IsFitting plan u
  pub values : begun ≡ false → Each (HasValue u) plan.idents

-- the vehicle has every unit of the plan, and each matches by the records
abbrev pub Matches : List UnitPlan → (Entry → Bool) → Vehicle → Type 0
Matches P R v = (n : ℕ) → n < count_of P
    → MatchOption (unit_at v.units (plan_of P n).address) ⊥ (IsMatching (R (Begun n)) (plan_of P n))
