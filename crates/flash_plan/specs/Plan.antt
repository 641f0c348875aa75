-- Plans: their units by number, their images, and what an accepted plan keeps.
use Rattle.std.specs.Prelude.{◌≡◌, ◌⊎◌, ℕ, zero, suc, ◌+◌, ◌<◌, ◌≤◌, ◌%◌, Bool, IsTrue, ◌&&◌, ◌||◌, ◌==◌, nat_le, List, [], ◌∷◌, ◌++◌, length, slice_index_or, Option, Some, None, Contains}
use Rattle.flash_base.specs.ByteMaps.{MemoryMap, byte_at}
use Rattle.flash_base.specs.Lists.{Each}
use Rattle.flash_base.specs.Numbers.{pow256}
use Rattle.flash_base.specs.declared.unit.Width.{Width}
use Rattle.flash_base.specs.declared.unit.KeyRule.{KeyRule}
use Rattle.flash_base.specs.declared.unit.KeyRule.TheVariants.{Free, Xor, Digest}
use Rattle.flash_plan.specs.declared.unit.Segment.{Segment}
use Rattle.flash_plan.specs.declared.unit.UnitPlan.{UnitPlan}
use Rattle.flash_plan.specs.declared.unit.Wanted.{Wanted}
use Rattle.flash_plan.specs.Canonical.{plan_digest}

abbrev pub no_plan : UnitPlan
no_plan = record {
  name = [];
  address = 0;
  width = record { size = 4; at = 4 };
  check = 0;
  key = Free;
  idents = [];
  after = [];
  segments = [];
}

abbrev pub nth_plan : List UnitPlan → ℕ → UnitPlan
nth_plan [] n = no_plan
nth_plan (u ∷ us) zero = u
nth_plan (u ∷ us) (suc n) = nth_plan us n

-- the unit with a number, from 0
abbrev pub plan_of : List UnitPlan → ℕ → UnitPlan
plan_of P n = nth_plan P n

abbrev pub count_of : List UnitPlan → ℕ
count_of P = length P

abbrev pub no_segment : Segment
no_segment = record { at = 0; body = [] }

-- the segment with a number, from 0
abbrev pub segment_of : UnitPlan → ℕ → Segment
segment_of u n = slice_index_or u.segments n no_segment

-- the address lies in a segment
abbrev pub IsInImage : List Segment → ℕ → Type 0
IsInImage [] a = ⊥
IsInImage (s ∷ ss) a = ((s.at ≤ a) × (a < s.at + length s.body)) ⊎ IsInImage ss a

-- bytes, each with its address
abbrev pub addressed : ℕ → List ℕ → MemoryMap
addressed at [] = []
addressed at (x ∷ xs) = (at, x) ∷ addressed (at + 1) xs

-- the image of a unit: the bytes of its segments by address
abbrev pub image_of : List Segment → MemoryMap
image_of [] = []
image_of (s ∷ ss) = addressed s.at s.body ++ image_of ss

abbrev pub byte_or : ℕ → Option ℕ → ℕ
byte_or x None = x
byte_or x (Some y) = y

-- the first map with the bytes of the second at the addresses that both have
abbrev pub overlaid : MemoryMap → MemoryMap → MemoryMap
overlaid [] n = []
overlaid (p ∷ ps) n = (p.0, byte_or p.1 (byte_at n p.0)) ∷ overlaid ps n

-- the memory that a unit has when its part of a plan is done: one plain overwrite
abbrev pub final_memory : UnitPlan → MemoryMap → MemoryMap
final_memory u memory = overlaid memory (image_of u.segments)

-- no two segments share an address
abbrev pub IsApart : Segment → Segment → Type 0
IsApart s t = (s.at + length s.body ≤ t.at) ⊎ (t.at + length t.body ≤ s.at)

abbrev pub AreApart : List Segment → Type 0
AreApart [] = Unit {0}
AreApart (s ∷ ss) = Each (IsApart s) ss × AreApart ss

-- how many bytes the segments have
abbrev pub size_of : List Segment → ℕ
size_of [] = 0
size_of (s ∷ ss) = length s.body + size_of ss

abbrev pub total_of : List UnitPlan → ℕ
total_of [] = 0
total_of (u ∷ us) = size_of u.segments + total_of us

-- a letter, a digit or '_' of ASCII
abbrev pub is_name_byte : ℕ → Bool
is_name_byte b = (nat_le 48 b && nat_le b 57) || (nat_le 65 b && nat_le b 90) || (nat_le 97 b && nat_le b 122)
    || b == 95

-- 1 to 32 of them
pub record IsTaskName (name : List ℕ) : Type 0 where
  pub some : 1 ≤ length name
  pub short : length name ≤ 32
  pub letters : Each (λ b. IsTrue (is_name_byte b)) name

-- an odd number from 01 to 7D, as a request for a seed has it (ISO 14229-1, service 0x27)
abbrev pub IsLevel : ℕ → Type 0
IsLevel level = (level % 2 ≡ 1) × (level ≤ 125)

abbrev pub IsKeyRule : KeyRule → Type 0
IsKeyRule Free = Unit {0}
IsKeyRule (Xor level mask) = IsLevel level × (1 ≤ length mask) × (length mask ≤ 32)
IsKeyRule (Digest level size secret) =
    IsLevel level × (1 ≤ size) × (size ≤ 32) × (1 ≤ length secret) × (length secret ≤ 64)

abbrev pub IsWidth : Width → Type 0
IsWidth w = (1 ≤ w.size) × (w.size ≤ 4) × (1 ≤ w.at) × (w.at ≤ 5)

pub record IsWanted (w : Wanted) : Type 0 where
  pub did : w.did < 65536
  pub some : 1 ≤ length w.values
  pub few : length w.values ≤ 32
  pub values : Each (λ v. (1 ≤ length v) × (length v ≤ 64)) w.values

-- the segment has a byte, and its range fits the width
pub record IsFit (w : Width) (s : Segment) : Type 0 where
  pub some : 1 ≤ length s.body
  pub size : length s.body < pow256 w.size
  pub ends : s.at + length s.body ≤ pow256 w.at

-- numbers below a bound, each greater than the one before it
abbrev pub Ascend : List ℕ → Type 0
Ascend [] = Unit {0}
Ascend (x ∷ xs) = Each (λ y. x < y) xs × Ascend xs

-- what an accepted plan keeps of each unit
pub record IsAcceptedUnit (u : UnitPlan) : Type 0 where
  pub name : IsTaskName u.name
  pub address : u.address < 65536
  pub width : IsWidth u.width
  pub check_range : u.check < 65536
  pub check : u.check ≡ 65280 → ⊥
  pub check_too : u.check ≡ 65281 → ⊥
  pub key : IsKeyRule u.key
  pub few_idents : length u.idents ≤ 32
  pub idents : Each IsWanted u.idents
  pub some : 1 ≤ length u.segments
  pub few : length u.segments ≤ 256
  pub fit : Each (IsFit u.width) u.segments
  pub apart : AreApart u.segments
  pub bytes : size_of u.segments ≤ 16777216
  pub few_after : length u.after ≤ 64
  pub ascend : Ascend u.after

-- unit w has to be complete before unit u is begun, through any number of steps
pub data StandsBefore (P : List UnitPlan) (w : ℕ) : ℕ → Type 0 where
  next_to : (u : ℕ) → Contains (plan_of P u).after w → StandsBefore P w u
  before : (u x : ℕ) → Contains (plan_of P u).after x → StandsBefore P w x → StandsBefore P w u

-- what an accepted plan keeps
pub record IsAccepted (P : List UnitPlan) : Type 0 where
  pub few : count_of P ≤ 64
  pub total : total_of P ≤ 67108864
  pub each : (n : ℕ) → n < count_of P → IsAcceptedUnit (plan_of P n)
  pub names : (m n : ℕ) → m < count_of P → n < count_of P → (plan_of P m).name ≡ (plan_of P n).name → m ≡ n
  pub addresses : (m n : ℕ) → m < count_of P → n < count_of P → (plan_of P m).address ≡ (plan_of P n).address
      → m ≡ n
  pub after : (n : ℕ) → n < count_of P → Each (λ w. w < count_of P) (plan_of P n).after
  pub no_cycle : (n : ℕ) → StandsBefore P n n → ⊥

-- a plan is accepted, and its digest is kept beside it
pub record IsKept (P : List UnitPlan) (kept : List ℕ) : Type 0 where
  pub accepted : IsAccepted P
  pub digest : kept ≡ plan_digest P
