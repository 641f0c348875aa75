-- What drafts make of a plan: its units, or the first refusal.
use Rattle.std.specs.Prelude.{◌≡◌, ℕ, zero, suc, ◌+◌, ◌<◌, ◌≤◌, Bool, false, ◌||◌, ◌==◌, not, nat_le, nat_lt, List, [], ◌∷◌, length, map, bytes_eq, Option, Some, None, Result, Ok, Err, if◌then◌else◌}
use Rattle.std.specs.List.{list_any}
use Rattle.flash_base.specs.Lists.{Each}
use Rattle.flash_base.specs.Numbers.{pow256}
use Rattle.flash_base.specs.declared.unit.KeyRule.TheVariants.{Free}
use Rattle.flash_base.specs.declared.unit.Width.{Width}
use Rattle.flash_plan.specs.declared.fault.PlanFault.{PlanFault}
use Rattle.flash_plan.specs.declared.fault.PlanFault.TheVariants.{TooMany, SameName, SameUnit, UnknownAfter, Cycle, TooWide, NoMemory}
use Rattle.flash_plan.specs.declared.fault.What.{What}
use Rattle.flash_plan.specs.declared.fault.What.TheVariants.{Units, Segments, Bytes, Total, Idents}
use Rattle.flash_plan.specs.declared.unit.Draft.{Draft}
use Rattle.flash_plan.specs.declared.unit.Segment.{Segment}
use Rattle.flash_plan.specs.declared.unit.UnitPlan.{UnitPlan}
use Rattle.flash_plan.specs.declared.unit.Wanted.{Wanted}
use Rattle.flash_plan.specs.Plan.{IsTaskName, IsWidth, IsKeyRule, AreApart, IsAccepted, StandsBefore, size_of}

-- ------ what every draft has
pub record IsAsked (w : Wanted) : Type 0 where
  pub did : w.did < 65536
  pub some : 1 ≤ length w.values
  pub filled : Each (λ v. 1 ≤ length v) w.values

pub record IsDraft (d : Draft) : Type 0 where
  pub name : IsTaskName d.name
  pub address : d.address < 65536
  pub width : IsWidth d.width
  pub check_range : d.check < 65536
  pub check : d.check ≡ 65280 → ⊥
  pub check_too : d.check ≡ 65281 → ⊥
  pub key : IsKeyRule d.key
  pub idents : Each IsAsked d.idents
  pub some : 1 ≤ length d.segments
  pub filled : Each (λ s. 1 ≤ length s.body) d.segments
  pub apart : AreApart d.segments

-- ------ limits
abbrev pub total_of_drafts : List Draft → ℕ
total_of_drafts [] = 0
total_of_drafts (d ∷ ds) = size_of d.segments + total_of_drafts ds

-- the number, if it is at most another
abbrev pub if_within : ℕ → ℕ → Option ℕ
if_within room n = if nat_lt room n then None else Some n

abbrev pub is_split : Draft → Bool
is_split d = nat_lt 256 (length d.segments)

abbrev pub is_large : Draft → Bool
is_large d = nat_lt 16777216 (size_of d.segments)

abbrev pub is_long_value : List ℕ → Bool
is_long_value v = nat_lt 64 (length v)

abbrev pub has_long_value : Wanted → Bool
has_long_value w = nat_lt 32 (length w.values) || list_any is_long_value w.values

abbrev pub has_many_idents : Draft → Bool
has_many_idents d = nat_lt 32 (length d.idents) || list_any has_long_value d.idents

-- of what there is too much, in the order of the tests
abbrev pub too_many : List Draft → Option What
too_many ds =
    if nat_lt 64 (length ds) then Some Units
    else if list_any is_split ds then Some Segments
    else if list_any is_large ds then Some Bytes
    else if nat_lt 67108864 (total_of_drafts ds) then Some Total
    else if list_any has_many_idents ds then Some Idents
    else None

-- ------ one draft by its number
abbrev pub no_draft : Draft
no_draft = record {
  name = [];
  address = 0;
  width = record { size = 4; at = 4 };
  check = 0;
  key = Free;
  idents = [];
  after = [];
  segments = [];
}

abbrev pub draft_of : List Draft → ℕ → Draft
draft_of [] n = no_draft
draft_of (d ∷ ds) zero = d
draft_of (d ∷ ds) (suc n) = draft_of ds n

-- the least of so many numbers from one on of which the test holds
abbrev pub first_from : ℕ → ℕ → (ℕ → Bool) → Option ℕ
first_from n zero test = None
first_from n (suc k) test = if test n then Some n else first_from (n + 1) k test

abbrev pub first_task : List Draft → (ℕ → Bool) → Option ℕ
first_task ds test = first_from 0 (length ds) test

-- it holds of one of so many numbers from one on
abbrev pub is_some_from : ℕ → ℕ → (ℕ → Bool) → Bool
is_some_from n zero test = false
is_some_from n (suc k) test = test n || is_some_from (n + 1) k test

abbrev pub is_some_below : ℕ → (ℕ → Bool) → Bool
is_some_below n test = is_some_from 0 n test

-- an earlier task has its name
abbrev pub has_same_name : List Draft → ℕ → Bool
has_same_name ds n = is_some_below n (λ m. bytes_eq (draft_of ds m).name (draft_of ds n).name)

-- an earlier task has its address
abbrev pub has_same_address : List Draft → ℕ → Bool
has_same_address ds n = is_some_below n (λ m. (draft_of ds m).address == (draft_of ds n).address)

abbrev pub is_task : List Draft → List ℕ → Bool
is_task ds name = list_any (λ (d : Draft). bytes_eq d.name name) ds

abbrev pub is_unknown : List Draft → List ℕ → Bool
is_unknown ds name = not (is_task ds name)

-- it names a task that is none
abbrev pub has_unknown : List Draft → ℕ → Bool
has_unknown ds n = list_any (is_unknown ds) (draft_of ds n).after

-- a segment whose size or address does not fit the width
abbrev pub is_wide : Width → Segment → Bool
is_wide w s = nat_le (pow256 w.size) (length s.body) || nat_lt (pow256 w.at) (s.at + length s.body)

abbrev pub has_wide : List Draft → ℕ → Bool
has_wide ds n = let d = draft_of ds n in list_any (is_wide d.width) d.segments

-- ------ the units
-- those of so many numbers from one on of which the test holds
abbrev pub numbers_from : ℕ → ℕ → (ℕ → Bool) → List ℕ
numbers_from n zero test = []
numbers_from n (suc k) test = if test n then n ∷ numbers_from (n + 1) k test else numbers_from (n + 1) k test

-- the tasks that a task names, each once and ascending
abbrev pub after_of : List Draft → Draft → List ℕ
after_of ds d =
    numbers_from 0 (length ds) (λ w. list_any (λ name. bytes_eq name (draft_of ds w).name) d.after)

abbrev pub unit_of : List Draft → Draft → UnitPlan
unit_of ds d = record {
  name = d.name;
  address = d.address;
  width = d.width;
  check = d.check;
  key = d.key;
  idents = d.idents;
  after = after_of ds d;
  segments = d.segments;
}

abbrev pub units_of : List Draft → List UnitPlan
units_of ds = map (unit_of ds) ds

-- ------ the answer: the first refusal in this order, or the units
pub record IsNamed (ds : List Draft) : Type 0 where
  pub few : too_many ds ≡ None
  pub names : first_task ds (has_same_name ds) ≡ None

pub record IsAddressed (ds : List Draft) : Type 0 where
  pub named : IsNamed ds
  pub addresses : first_task ds (has_same_address ds) ≡ None

pub record IsKnown (ds : List Draft) : Type 0 where
  pub addressed : IsAddressed ds
  pub known : first_task ds (has_unknown ds) ≡ None

-- no task stands before itself
pub record IsOrdered (ds : List Draft) : Type 0 where
  pub known : IsKnown ds
  pub no_cycle : (n : ℕ) → StandsBefore (units_of ds) n n → ⊥

-- the first task that stands before itself
pub record IsFirstCycle (ds : List Draft) (n : ℕ) : Type 0 where
  pub known : IsKnown ds
  pub within : n < length ds
  pub cycle : StandsBefore (units_of ds) n n
  pub first : (m : ℕ) → m < n → StandsBefore (units_of ds) m m → ⊥

abbrev pub IsPlanAnswer : List Draft → Result (List UnitPlan) PlanFault → Type 0
IsPlanAnswer ds (Err NoMemory) = Unit {0}
IsPlanAnswer ds (Err (TooMany what)) = too_many ds ≡ Some what
IsPlanAnswer ds (Err (SameName n)) = (too_many ds ≡ None) × (first_task ds (has_same_name ds) ≡ Some n)
IsPlanAnswer ds (Err (SameUnit address)) =
    IsNamed ds × ((n : ℕ) × (first_task ds (has_same_address ds) ≡ Some n)
    × (address ≡ (draft_of ds n).address))
IsPlanAnswer ds (Err (UnknownAfter n)) = IsAddressed ds × (first_task ds (has_unknown ds) ≡ Some n)
IsPlanAnswer ds (Err (Cycle n)) = IsFirstCycle ds n
IsPlanAnswer ds (Err (TooWide n)) = IsOrdered ds × (first_task ds (has_wide ds) ≡ Some n)
IsPlanAnswer ds (Ok units) =
    IsOrdered ds × (first_task ds (has_wide ds) ≡ None) × (units ≡ units_of ds) × IsAccepted units
