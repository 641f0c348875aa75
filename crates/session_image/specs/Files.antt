-- The files that a session needs.
use Rattle.std.specs.Prelude.{ℕ, ◌||◌, Bool, false, List, [], ◌∷◌, ◌++◌, slice_index_or, bytes_eq, if◌then◌else◌}
use Rattle.ecu_mem.specs.declared.types.Block.{Block}
use Rattle.ecu_mem.specs.declared.types.EcuMem.{EcuMem}
use Rattle.ecu_mem.specs.declared.types.Flash.{Flash}
use Rattle.ecu_mem.specs.declared.types.Format.TheVariants.{Binary}
use Rattle.ecu_mem.specs.declared.types.Session.{Session}
use Rattle.ecu_mem.specs.declared.types.Source.{Source}
use Rattle.ecu_mem.specs.declared.types.Source.TheVariants.{Inside, File}

abbrev pub no_session : Session
no_session = record { id = []; name = []; blocks = []; idents = []; checks = [] }

abbrev pub no_block : Block
no_block = record {
  id = [];
  name = [];
  flash = 0;
  filters = [];
  segments = [];
  down = false;
  offset = 0;
  own = [];
}

abbrev pub no_flash : Flash
no_flash = record { id = []; format = Binary; plain = false; source = Inside [] }

abbrev pub session_of : EcuMem → ℕ → Session
session_of m s = slice_index_or m.sessions s no_session

abbrev pub block_of : EcuMem → ℕ → Block
block_of m b = slice_index_or m.blocks b no_block

abbrev pub flash_of : EcuMem → Block → Flash
flash_of m b = slice_index_or m.flashes b.flash no_flash

-- the datablocks of a session, in its order
abbrev pub blocks_at : EcuMem → List ℕ → List Block
blocks_at m [] = []
blocks_at m (b ∷ bs) = block_of m b ∷ blocks_at m bs

abbrev pub blocks_of : EcuMem → ℕ → List Block
blocks_of m s = blocks_at m (session_of m s).blocks

abbrev pub is_among : List ℕ → List (List ℕ) → Bool
is_among name [] = false
is_among name (n ∷ ns) = bytes_eq n name || is_among name ns

-- the names with one more at their end, if it is not among them
abbrev pub with_name : List ℕ → List (List ℕ) → List (List ℕ)
with_name name names = if is_among name names then names else names ++ (name ∷ [])

abbrev pub with_source : Source → List (List ℕ) → List (List ℕ)
with_source (Inside text) names = names
with_source (File name) names = with_name name names

abbrev pub names_with : EcuMem → List (List ℕ) → List Block → List (List ℕ)
names_with m names [] = names
names_with m names (b ∷ bs) = names_with m (with_source (flash_of m b).source names) bs

-- each name once, in the order in which it is first needed
abbrev pub files_of : EcuMem → ℕ → List (List ℕ)
files_of m s = names_with m [] (blocks_of m s)
