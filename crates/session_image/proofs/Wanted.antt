-- The session that is asked for, and what its datablocks give.
use Rattle.std.proofs.Common.{◌≡◌, ◌⊎◌, ◌∙◌, sym, ap, subst, ◌<◌, ◌≤◌, ℕ, List, length, Option, Some, None, Result, Ok, Err}
use Rattle.std.proofs.lemmas.Option.{slice_get-get_or}
use Rattle.std.specs.Prelude.{slice_get}
use Rattle.flash_base.specs.Lists.{Each}
use Rattle.flash_plan.specs.declared.unit.Segment.{Segment}
use Rattle.flash_plan.specs.Plan.{AreApart}
use Rattle.span_store.specs.Lowest.{IsLowest}
use Rattle.ecu_mem.specs.Bounds.{IsWholeCatalogue, IsCheck, IsIdent, IsSessionAmong}
use Rattle.ecu_mem.specs.declared.types.Check.{Check}
use Rattle.ecu_mem.specs.declared.types.EcuMem.{EcuMem}
use Rattle.ecu_mem.specs.declared.types.Session.{Session}
use Rattle.session_image.specs.Files.{no_session, session_of, blocks_at, blocks_of}
use Rattle.session_image.specs.Images.{own_of, IsSet, IsOverlap, IsSegment, IsUsable}
use Rattle.session_image.specs.Kept.{IsPlaced}
use Rattle.session_image.specs.Pieces.{session_pieces, IsShared, segments_of, size_of}
use Rattle.session_image.specs.declared.pieces.Piece.{Piece}
use Rattle.session_image.specs.declared.types.Image.{Image}
use Rattle.session_image.specs.declared.types.ImageFault.{ImageFault}
use Rattle.session_image.specs.declared.types.ImageFault.TheVariants.{NoMemory}
use Rattle.session_image.proofs.Begins.{each_at}
use Rattle.session_image.proofs.Joins.{given}
use Rattle.session_image.proofs.Usable.{some_segment, each_segment, are_apart, each_own}

-- ------ the session by its number
pub wanted_is : (m : EcuMem) (s : ℕ) (w : Session) → s < length m.sessions → slice_get m.sessions s ≡ Some w → session_of m s ≡ w
wanted_is m s w lt is = let there : slice_get m.sessions s ≡ Some (session_of m s) = slice_get-get_or m.sessions s no_session lt in cc

pub wanted_blocks : (m : EcuMem) (s : ℕ) (w : Session) (bs : List ℕ) → s < length m.sessions → slice_get m.sessions s ≡ Some w → bs ≡ w.blocks → blocks_at m bs ≡ blocks_of m s
wanted_blocks m s w bs lt is e = ap (blocks_at m) (e ∙ ap (λ (x : Session). x.blocks) (sym (wanted_is m s w lt is)))

pub wanted_checks : (m : EcuMem) (s : ℕ) (w : Session) (cs : List Check) → s < length m.sessions → slice_get m.sessions s ≡ Some w → cs ≡ w.checks → cs ≡ (session_of m s).checks
wanted_checks m s w cs lt is e = e ∙ ap (λ (x : Session). x.checks) (sym (wanted_is m s w lt is))

among : (m : EcuMem) (s : ℕ) (w : Session) → IsWholeCatalogue m → s < length m.sessions → slice_get m.sessions s ≡ Some w → IsSessionAmong (length m.blocks) w
among m s w whole lt is = subst (IsSessionAmong (length m.blocks)) (wanted_is m s w lt is) (each_at (IsSessionAmong (length m.blocks)) m.sessions s no_session lt whole.sessions)

pub blocks_within : (m : EcuMem) (s : ℕ) (w : Session) (bs : List ℕ) → IsWholeCatalogue m → s < length m.sessions → slice_get m.sessions s ≡ Some w → bs ≡ w.blocks → Each (λ i. i < length m.blocks) bs
blocks_within m s w bs whole lt is e = subst (Each (λ i. i < length m.blocks)) (sym e) (among m s w whole lt is).positions

pub checks_within : (m : EcuMem) (s : ℕ) (w : Session) (cs : List Check) → IsWholeCatalogue m → s < length m.sessions → slice_get m.sessions s ≡ Some w → cs ≡ w.checks → Each IsCheck cs
checks_within m s w cs whole lt is e = subst (Each IsCheck) (sym e) (among m s w whole lt is).checks

-- ------ its segments
pub pieces_are : (m : EcuMem) (s : ℕ) (files : List (List ℕ × List ℕ)) (fill : Option ℕ) (ps : List Piece) (bs : List ℕ) → blocks_at m bs ≡ blocks_of m s
    → (◌≡◌ {A = Result (List Piece) ImageFault} (Ok ps) (Err NoMemory)) ⊎ (Ok ps ≡ session_pieces m files fill (blocks_at m bs)) → session_pieces m files fill (blocks_of m s) ≡ Ok ps
pieces_are m s files fill ps bs are gave = ap (session_pieces m files fill) (sym are) ∙ given gave

lowest_is : (ps qs : List Piece) (o p : Option ℕ) → qs ≡ ps → o ≡ p → IsLowest (IsShared qs) o → IsLowest (IsShared ps) p
lowest_is ps qs o p same is h = subst (λ (a : Option ℕ). IsLowest (IsShared ps) a) is (subst (λ (l : List Piece). IsLowest (IsShared l) o) same h)

pub is_set : (m : EcuMem) (s : ℕ) (files : List (List ℕ × List ℕ)) (fill : Option ℕ) (ps qs : List Piece) (o : Option ℕ) → session_pieces m files fill (blocks_of m s) ≡ Ok ps
    → qs ≡ ps → o ≡ None → IsLowest (IsShared qs) o → IsSet m s files fill ps
is_set m s files fill ps qs o are same none h = record { pieces = are; apart = lowest_is ps qs o None same none h }

pub is_overlap : (m : EcuMem) (s : ℕ) (files : List (List ℕ × List ℕ)) (fill : Option ℕ) (ps qs : List Piece) (o : Option ℕ) (at : ℕ) → session_pieces m files fill (blocks_of m s) ≡ Ok ps
    → qs ≡ ps → o ≡ Some at → IsLowest (IsShared qs) o → IsOverlap m s files fill at
is_overlap m s files fill ps qs o at are same some h = record { pieces = ps; are = are; lowest = lowest_is ps qs o (Some at) same some h }

-- ------ the image as a part of a plan
pub is_usable : (m : EcuMem) (image : Image) (ps : List Piece) (bs : List ℕ) → IsWholeCatalogue m → Each (λ i. i < length m.blocks) bs → Each IsPlaced ps → 1 ≤ size_of ps
    → ((a : ℕ) → IsShared ps a → ⊥) → image.segments ≡ segments_of ps → image.own ≡ own_of (blocks_at m bs) → IsUsable image
is_usable m image ps bs whole within placed some none segments own = record {
  some = subst (λ (l : List Segment). 1 ≤ length l) (sym segments) (some_segment ps some);
  segments = subst (Each IsSegment) (sym segments) (each_segment ps placed);
  apart = subst AreApart (sym segments) (are_apart ps placed none);
  own = subst (Each IsIdent) (sym own) (each_own m bs whole.blocks within);
}
