-- A refusal that is passed on is an answer.
use Rattle.std.proofs.Common.{◌≡◌, ◌⊎◌, inl, inr, sym, subst, ℕ, List, Option, Result, Err}
use Rattle.ecu_mem.specs.declared.types.EcuMem.{EcuMem}
use Rattle.session_image.specs.Checks.{all_checked}
use Rattle.session_image.specs.Files.{session_of, blocks_of}
use Rattle.session_image.specs.Images.{IsImageAnswer, IsRefused, IsSet}
use Rattle.session_image.specs.Pieces.{session_pieces}
use Rattle.session_image.specs.declared.pieces.Piece.{Piece}
use Rattle.session_image.specs.declared.types.Image.{Image}
use Rattle.session_image.specs.declared.types.Checked.{Checked}
use Rattle.session_image.specs.declared.types.ImageFault.{ImageFault}
use Rattle.session_image.specs.declared.types.ImageFault.TheVariants as fault
use Rattle.session_image.proofs.Refusals.{IsOwn, OnlyOwn, session_own, checks_own}

refused : (m : EcuMem) (s : ℕ) (files : List (List ℕ × List ℕ)) (fill : Option ℕ) (e : ImageFault) → IsOwn e → IsRefused m s files fill e → IsImageAnswer m s files fill (Err e)
refused m s files fill (fault.Compressed id) own h = h
refused m s files fill (fault.UserDefined id) own h = h
refused m s files fill (fault.BadText id) own h = h
refused m s files fill (fault.Lines id e) own h = h
refused m s files fill (fault.NoSegment id) own h = h
refused m s files fill fault.TooLarge own h = h
refused m s files fill (fault.BinarySize id said seen) own h = h
refused m s files fill (fault.Hole n at) own h = h
refused m s files fill (fault.OutOfRange n) own h = h
refused m s files fill (fault.Overlap at) own h = absurd own
refused m s files fill (fault.ChecksumDiffers name said got) own h = h
refused m s files fill fault.NoMemory own h = tt

no_memory : (m : EcuMem) (s : ℕ) (files : List (List ℕ × List ℕ)) (fill : Option ℕ) (e : ImageFault) → ◌≡◌ {A = Result Image ImageFault} (Err e) (Err fault.NoMemory) → IsImageAnswer m s files fill (Err e)
no_memory m s files fill e h = subst (IsImageAnswer m s files fill) (sym h) tt

-- a datablock's refusal
pub of_pieces : (m : EcuMem) (s : ℕ) (files : List (List ℕ × List ℕ)) (fill : Option ℕ) (e : ImageFault) →
    (◌≡◌ {A = Result (List Piece) ImageFault} (Err e) (Err fault.NoMemory)) ⊎ (Err e ≡ session_pieces m files fill (blocks_of m s)) → IsImageAnswer m s files fill (Err e)
of_pieces m s files fill e (inl h) = no_memory m s files fill e cc
of_pieces m s files fill e (inr h) = refused m s files fill e (subst OnlyOwn (sym h) (session_own m files fill (blocks_of m s))) (inl (sym h))

-- a checksum's refusal
pub of_checks : (m : EcuMem) (s : ℕ) (files : List (List ℕ × List ℕ)) (fill : Option ℕ) (ps : List Piece) (e : ImageFault) → IsSet m s files fill ps →
    (◌≡◌ {A = Result (List Checked) ImageFault} (Err e) (Err fault.NoMemory)) ⊎ (Err e ≡ all_checked ps (session_of m s).checks) → IsImageAnswer m s files fill (Err e)
of_checks m s files fill ps e set (inl h) = no_memory m s files fill e cc
of_checks m s files fill ps e set (inr h) = refused m s files fill e (subst OnlyOwn (sym h) (checks_own ps (session_of m s).checks)) (inr (ps, set, sym h))
