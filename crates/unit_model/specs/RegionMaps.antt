-- The byte map of regions as they are kept.
use Rattle.std.specs.Prelude.{ℕ, List, [], ◌∷◌, ◌++◌, length}
use Rattle.flash_base.specs.ByteMaps.{MemoryMap}
use Rattle.unit_model.specs.declared.memory.Region.{Region}
use Rattle.unit_model.specs.Regions.{laid}

abbrev pub map_of : List Region → MemoryMap
map_of [] = []
map_of (r ∷ rs) = laid r.at r.bytes.items ++ map_of rs

abbrev pub extents : List Region → List (ℕ × ℕ)
extents [] = []
extents (r ∷ rs) = (r.at, length r.bytes.items) ∷ extents rs
