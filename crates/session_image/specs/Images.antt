-- The image of a session.
use Rattle.std.specs.Prelude.{◌≡◌, ◌⊎◌, ℕ, ◌+◌, ◌≤◌, List, [], ◌∷◌, ◌++◌, length, IsSome, Option, Some, None, Result, Ok, Err}
use Rattle.flash_base.specs.Files.{first_of}
use Rattle.flash_base.specs.Lists.{Each}
use Rattle.flash_plan.specs.Plan.{AreApart}
use Rattle.flash_plan.specs.declared.unit.Segment.{Segment}
use Rattle.span_store.specs.ByteMap.{top}
use Rattle.span_store.specs.Lowest.{IsLowest}
use Rattle.ecu_mem.specs.Bounds.{IsIdent}
use Rattle.ecu_mem.specs.declared.types.Block.{Block}
use Rattle.ecu_mem.specs.declared.types.EcuMem.{EcuMem}
use Rattle.ecu_mem.specs.declared.types.Ident.{Ident}
use Rattle.session_image.specs.Checks.{all_checked}
use Rattle.session_image.specs.Files.{session_of, blocks_of, files_of}
use Rattle.session_image.specs.Pieces.{session_pieces, IsShared, segments_of}
use Rattle.session_image.specs.declared.pieces.Piece.{Piece}
use Rattle.session_image.specs.declared.types.Image.{Image}
use Rattle.session_image.specs.declared.types.ImageFault.{ImageFault}
use Rattle.session_image.specs.declared.types.ImageFault.TheVariants.{Overlap, NoMemory}

abbrev pub own_of : List Block → List Ident
own_of [] = []
own_of (b ∷ bs) = b.own ++ own_of bs

-- the files hold all that the session needs
abbrev pub HasFiles : EcuMem → ℕ → List (List ℕ × List ℕ) → Type 0
HasFiles m s files = Each (λ name. IsSome (first_of name files)) (files_of m s)

-- segments without shared addresses
pub record IsSet (m : EcuMem) (s : ℕ) (files : List (List ℕ × List ℕ)) (fill : Option ℕ)
    (ps : List Piece) : Type 0 where
  pub pieces : session_pieces m files fill (blocks_of m s) ≡ Ok ps
  pub apart : IsLowest (IsShared ps) None

-- What is answered of a session. Want of memory may come at any time.
pub record IsWholeImage (m : EcuMem) (s : ℕ) (files : List (List ℕ × List ℕ)) (fill : Option ℕ)
    (image : Image) : Type 0 where
  pub pieces : List Piece
  pub set : IsSet m s files fill pieces
  pub segments : image.segments ≡ segments_of pieces
  pub checks : all_checked pieces (session_of m s).checks ≡ Ok image.checks
  pub own : image.own ≡ own_of (blocks_of m s)

pub record IsOverlap (m : EcuMem) (s : ℕ) (files : List (List ℕ × List ℕ)) (fill : Option ℕ)
    (at : ℕ) : Type 0 where
  pub pieces : List Piece
  pub are : session_pieces m files fill (blocks_of m s) ≡ Ok pieces
  pub lowest : IsLowest (IsShared pieces) (Some at)

-- another refusal: of a datablock, or of a checksum
abbrev pub IsRefused : EcuMem → ℕ → List (List ℕ × List ℕ) → Option ℕ → ImageFault → Type 0
IsRefused m s files fill e =
    (session_pieces m files fill (blocks_of m s) ≡ Err e)
    ⊎ ((ps : List Piece) × IsSet m s files fill ps × (all_checked ps (session_of m s).checks ≡ Err e))

abbrev pub IsImageAnswer : EcuMem → ℕ → List (List ℕ × List ℕ) → Option ℕ → Result Image ImageFault → Type 0
IsImageAnswer m s files fill (Ok image) = IsWholeImage m s files fill image
IsImageAnswer m s files fill (Err (Overlap at)) = IsOverlap m s files fill at
IsImageAnswer m s files fill (Err NoMemory) = Unit {0}
IsImageAnswer m s files fill (Err e) = IsRefused m s files fill e

-- a byte at least, within the addresses
pub record IsSegment (s : Segment) : Type 0 where
  pub some : 1 ≤ length s.body
  pub ends : s.at + length s.body ≤ top

-- what every image keeps: it can be a task's part of a plan
pub record IsUsable (image : Image) : Type 0 where
  pub some : 1 ≤ length image.segments
  pub segments : Each IsSegment image.segments
  pub apart : AreApart image.segments
  pub own : Each IsIdent image.own
