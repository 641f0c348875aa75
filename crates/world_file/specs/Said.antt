-- Which vehicles a file can say.
use Rattle.std.specs.Prelude.{ℕ, ◌+◌, ◌≤◌, ◌==◌, ◌&&◌, ◌||◌, not, nat_lt, Bool, true, false, List, [], ◌∷◌, ◌++◌, length, filter, map, IsTrue}
use Rattle.flash_base.specs.Lists.{Each}
use Rattle.unit_model.specs.declared.spec.PatchSpec.{PatchSpec}
use Rattle.unit_model.specs.declared.spec.UnitSpec.{UnitSpec}
use Rattle.vehicle_file.specs.Files.{MOST_MEMORY, MOST_UNITS}
use Rattle.vehicle_text.specs.Texts.{ascend}
use Rattle.vehicle_world.specs.Shapes.{Shape, shapes}
use Rattle.vehicle_world.specs.Worlds.{Simulated}

-- the bytes of all units
abbrev pub sizes : List Shape → ℕ
sizes [] = 0
sizes (s ∷ ss) = s.size + sizes ss

abbrev pub is_taken : ℕ → List Shape → Bool
is_taken a [] = false
is_taken a (s ∷ ss) = s.address == a || is_taken a ss

-- none has the address of one before it
abbrev pub all_new : List Shape → List Shape → Bool
all_new before [] = true
all_new before (s ∷ ss) = not (is_taken s.address before) && all_new (before ++ s ∷ []) ss

-- as many units and bytes as a file may say, each address once, and the identifiers in ascending order
pub record CanBeSaid (ss : List Shape) : Type 0 where
  pub units : length ss ≤ MOST_UNITS
  pub memory : sizes ss ≤ MOST_MEMORY
  pub addresses : IsTrue (all_new [] ss)
  pub idents : Each (λ (s : Shape). IsTrue (ascend s.idents)) ss

-- a vehicle that a file can say
abbrev pub IsSaidWorld : Simulated → Type 0
IsSaidWorld w = CanBeSaid (shapes w.vehicle)

-- ------ an entry of no bytes says nothing, and is left out
abbrev pub has_some : PatchSpec → Bool
has_some p = nat_lt 0 (length p.bytes)

abbrev pub settled : UnitSpec → UnitSpec
settled u = record u { bytes = filter has_some u.bytes }

abbrev pub all_settled : List UnitSpec → List UnitSpec
all_settled us = map settled us
