-- The byte map of regions.
use Rattle.std.specs.Prelude.{◌≡◌, ℕ, ◌+◌, ◌-◌, ◌≤◌, slice_range, List, [], ◌∷◌, ◌++◌, length, replicate, true}
use Rattle.flash_base.specs.ByteMaps.{MemoryMap, put, bytes_of, has_each}
use Rattle.unit_model.specs.RegionTests.{LIMIT}
use Rattle.unit_model.specs.declared.spec.RegionSpec.{RegionSpec}
use Rattle.unit_model.specs.declared.spec.PatchSpec.{PatchSpec}

-- bytes laid down from an address on
abbrev pub laid : ℕ → List ℕ → MemoryMap
laid at [] = []
laid at (x ∷ xs) = (at, x) ∷ laid (at + 1) xs

abbrev pub filled : List RegionSpec → MemoryMap
filled [] = []
filled (r ∷ rs) = laid r.at (replicate r.size r.fill) ++ filled rs

-- the map with these bytes put into it, one after another
abbrev pub patched : List PatchSpec → MemoryMap → MemoryMap
patched [] memory = memory
patched (p ∷ ps) memory = patched ps (put p.at p.bytes memory)

-- the next bytes of a range, one at least
pub record IsPart (at most : ℕ) (memory : MemoryMap) (part : List ℕ) : Type 0 where
  pub some : 1 ≤ length part
  pub few : length part ≤ most
  pub has : has_each at (length part) memory ≡ true
  pub bytes : part ≡ bytes_of at (length part) memory
  pub limit : at + length part ≤ LIMIT

-- the next bytes of a range in one region
pub record IsPartIn (first : ℕ) (bytes : List ℕ) (at most : ℕ) (part : List ℕ) : Type 0 where
  pub from : first ≤ at
  pub some : 1 ≤ length part
  pub few : length part ≤ most
  pub within : at - first + length part ≤ length bytes
  pub is : part ≡ slice_range bytes (at - first) (at - first + length part)
