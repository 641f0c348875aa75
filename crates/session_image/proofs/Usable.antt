-- What every image keeps.
use Rattle.std.proofs.Common.{◌≡◌, refl, suc, ◌+◌, ◌<◌, ◌≤◌, inl, inr, ℕ, List, [], ◌∷◌, length, arith, Some}
use Rattle.std.proofs.lemmas.Bool.{cases_lt}
use Rattle.std.specs.Prelude.{slice_get}
use Rattle.flash_base.specs.Lists.{Each}
use Rattle.flash_plan.specs.Plan.{IsApart, AreApart}
use Rattle.flash_plan.specs.declared.unit.Segment.{Segment}
use Rattle.ecu_mem.specs.Bounds.{IsIdent, IsBlockAmong}
use Rattle.ecu_mem.specs.declared.types.EcuMem.{EcuMem}
use Rattle.session_image.specs.Files.{block_of, blocks_at, no_block}
use Rattle.session_image.specs.Images.{own_of, IsSegment}
use Rattle.session_image.specs.Kept.{IsPlaced}
use Rattle.session_image.specs.Pieces.{IsShared, segments_of, size_of}
use Rattle.session_image.specs.declared.pieces.Piece.{Piece}
use Rattle.session_image.proofs.Begins.{each_at}
use Rattle.session_image.proofs.Sizes.{each-append}

pub some_segment : (ps : List Piece) → 1 ≤ size_of ps → 1 ≤ length (segments_of ps)
some_segment [] h = absurd (omega arith)
some_segment (p ∷ ps) h = omega arith

pub each_segment : (ps : List Piece) → Each IsPlaced ps → Each IsSegment (segments_of ps)
each_segment [] h = tt
each_segment (p ∷ ps) h = (record { some = h.0.some; ends = h.0.target }, each_segment ps h.1)

-- ------ no shared address
abbrev pub segment_of : Piece → Segment
segment_of p = record { at = p.target; body = p.body }

apart_one : (p q : Piece) → IsPlaced p → IsPlaced q → ((a : ℕ) → p.target ≤ a → a < p.target + length p.body → q.target ≤ a → a < q.target + length q.body → ⊥) → IsApart (segment_of p) (segment_of q)
apart_one p q hp hq none =
    let one : 1 ≤ length p.body = hp.some in
    let more : 1 ≤ length q.body = hq.some in
    elim (cases_lt q.target (p.target + length p.body)) [
      | inl lt ↦ elim (cases_lt p.target (q.target + length q.body)) [
        | inl lt2 ↦ elim (cases_lt p.target q.target) [
          | inl lt3 ↦ absurd (none q.target (omega arith) lt (omega arith) (omega arith))
          | inr le3 ↦ absurd (none p.target (omega arith) (omega arith) le3 lt2)
        ]
        | inr ge2 ↦ inr ge2
      ]
      | inr ge ↦ inl ge
    ]

apart_rest : (p : Piece) (ps : List Piece) → IsPlaced p → Each IsPlaced ps
    → ((j : ℕ) (q : Piece) (a : ℕ) → slice_get ps j ≡ Some q → p.target ≤ a → a < p.target + length p.body → q.target ≤ a → a < q.target + length q.body → ⊥) → Each (IsApart (segment_of p)) (segments_of ps)
apart_rest p [] hp h none = tt
apart_rest p (q ∷ qs) hp h none = (
  apart_one p q hp h.0 (λ a pl pu ql qu. none 0 q a refl pl pu ql qu),
  apart_rest p qs hp h.1 (λ j r a is pl pu ql qu. none (suc j) r a is pl pu ql qu),
)

pub are_apart : (ps : List Piece) → Each IsPlaced ps → ((a : ℕ) → IsShared ps a → ⊥) → AreApart (segments_of ps)
are_apart [] h none = tt
are_apart (p ∷ ps) h none = (
  apart_rest p ps h.0 h.1 (λ j q a is pl pu ql qu. let shared : IsShared (p ∷ ps) a = (0, suc j, p, q, omega arith, refl, is, (pl, pu), (ql, qu)) in none a shared),
  are_apart ps h.1 (λ a w. let lt : w.0 < w.1 = w.4 in let shared : IsShared (p ∷ ps) a = (suc w.0, suc w.1, w.2, w.3, omega arith, w.5, w.6, w.7, w.8) in none a shared),
)

-- ------ own idents
pub each_own : (m : EcuMem) (bs : List ℕ) → Each (IsBlockAmong (length m.flashes)) m.blocks → Each (λ i. i < length m.blocks) bs → Each IsIdent (own_of (blocks_at m bs))
each_own m [] h w = tt
each_own m (b ∷ bs) h w =
    let one : IsBlockAmong (length m.flashes) (block_of m b) = each_at (IsBlockAmong (length m.flashes)) m.blocks b no_block w.0 h in
    each-append IsIdent (block_of m b).own (own_of (blocks_at m bs)) one.own (each_own m bs h w.1)
