-- The memory as regions that are blank, and the bytes that are not.
use Rattle.std.specs.Prelude.{◌≡◌, ℕ, zero, suc, ◌+◌, ◌/◌, Bool, true, ◌&&◌, ◌==◌, List, [], ◌∷◌, ◌++◌, length, take, drop, if◌then◌else◌, IsTrue}
use Rattle.flash_base.specs.ByteMaps.{MemoryMap}
use Rattle.unit_model.specs.declared.memory.Region.{Region}
use Rattle.unit_model.specs.declared.spec.RegionSpec.{RegionSpec}
use Rattle.unit_model.specs.declared.spec.PatchSpec.{PatchSpec}
use Rattle.unit_model.specs.RegionTests.{all_apart, spec_extents}
use Rattle.unit_model.specs.Regions.{filled, patched}
use Rattle.unit_model.specs.Rules.{all_inside}

-- regions and bytes that make this memory
pub record IsSaved (memory : MemoryMap) (regions : List RegionSpec) (bytes : List PatchSpec) : Type 0 where
  pub apart : IsTrue (all_apart (spec_extents regions))
  pub inside : IsTrue (all_inside (filled regions) bytes)
  pub same : patched bytes (filled regions) ≡ memory

-- ------ how they are made: bytes are cut into chunks, and one that is all FF is left out
abbrev pub CHUNK_SIZE : ℕ
CHUNK_SIZE = 4096

abbrev pub is_blank : List ℕ → Bool
is_blank [] = true
is_blank (x ∷ xs) = x == 255 && is_blank xs

abbrev pub chunk : ℕ → List ℕ → List PatchSpec
chunk at xs = if is_blank xs then [] else record { at = at; bytes = xs } ∷ []

abbrev pub chunks : ℕ → ℕ → List ℕ → List PatchSpec
chunks zero at xs = []
chunks (suc n) at xs = chunk at (take CHUNK_SIZE xs) ++ chunks n (at + CHUNK_SIZE) (drop CHUNK_SIZE xs)

-- enough of them
abbrev pub chunks_of : ℕ → List ℕ → List PatchSpec
chunks_of at xs = chunks (length xs / CHUNK_SIZE + 1) at xs

abbrev pub region_specs : List Region → List RegionSpec
region_specs [] = []
region_specs (r ∷ rs) = record { at = r.at; size = length r.bytes.items; fill = 255 } ∷ region_specs rs

abbrev pub region_patches : List Region → List PatchSpec
region_patches [] = []
region_patches (r ∷ rs) = chunks_of r.at r.bytes.items ++ region_patches rs
