-- What is kept of a segment while it is made.
use Rattle.std.specs.Prelude.{ℕ, ◌+◌, ◌-◌, ◌≤◌, ◌||◌, ◌&&◌, nat_le, nat_lt, Bool, List, [], ◌∷◌, length, slice_get, Option, None, Result, Ok, Err, if◌then◌else◌}
use Rattle.std.specs.FinMap.{get, retain_keys}
use Rattle.flash_base.specs.ByteMaps.{is_in}
use Rattle.span_store.specs.ByteMap.{top}
use Rattle.ecu_mem.specs.declared.types.Block.{Block}
use Rattle.session_image.specs.Checks.{or_byte}
use Rattle.session_image.specs.Content.{is_kept}
use Rattle.session_image.specs.Pieces.{◌>>=◌, size_limit, or_runs, total, if_kept, filled, moved, has_its_size, some_ranges}
use Rattle.session_image.specs.declared.content.Content.{Content}
use Rattle.session_image.specs.declared.content.Content.TheVariants.{Mapped, Plain}
use Rattle.session_image.specs.declared.pieces.Piece.{Piece}
use Rattle.session_image.specs.declared.types.ImageFault.{ImageFault}
use Rattle.session_image.specs.declared.types.ImageFault.TheVariants.{TooLarge}

-- ------ one body
-- plain bytes go on so far
abbrev pub HasRoom : Content → ℕ → Type 0
HasRoom (Mapped m) n = Unit {0}
HasRoom (Plain bytes) n = n ≤ length bytes

-- a byte at least from an address on, within the addresses
abbrev pub IsWithin : ℕ × List ℕ → Type 0
IsWithin s = (1 ≤ length s.1) × (s.0 + length s.1 ≤ top)

-- how many bytes they have together
abbrev pub sizes : List (ℕ × List ℕ) → ℕ
sizes [] = 0
sizes (s ∷ ss) = length s.1 + sizes ss

-- bytes from an address on, with what is looked up laid over them
abbrev pub laid : (ℕ → Option ℕ) → ℕ → List ℕ → List ℕ
laid look a [] = []
laid look a (x ∷ xs) = or_byte (look a) x ∷ laid look (a + 1) xs

-- the byte at an address, of bytes that stand from another on
abbrev pub byte_in : ℕ → List ℕ → ℕ → Option ℕ
byte_in at bytes a = if is_in at (length bytes) a then slice_get bytes (a - at) else None

-- a segment with a byte at least, within the addresses at its source and at its target
pub record IsPlaced (p : Piece) : Type 0 where
  pub some : 1 ≤ length p.body
  pub source : p.source + length p.body ≤ top
  pub target : p.target + length p.body ≤ top
