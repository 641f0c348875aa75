-- Addresses that two segments share, by the number of target ranges that have them.
use Rattle.std.proofs.Common.{◌≡◌, sym, refl, suc, zero, ◌+◌, ◌<◌, ◌≤◌, inl, inr, ℕ, List, [], ◌∷◌, length, arith, Some, subst}
use Rattle.std.proofs.lemmas.Bool.{cases_lt}
use Rattle.std.specs.Prelude.{slice_get}
use Rattle.session_image.specs.Pieces.{has_target, IsShared}
use Rattle.session_image.specs.declared.pieces.Piece.{Piece}
use Rattle.session_image.specs.Targets.{hit, hits, range_of, ranges_of}
use Rattle.session_image.proofs.Apart.{hit_most, hit_within, hit_below, hit_behind}

-- a segment at a place counts
one_hits : (ps : List Piece) (i : ℕ) (p : Piece) (a : ℕ) → slice_get ps i ≡ Some p → has_target p a → 1 ≤ hits a (ranges_of ps)
one_hits [] i p a is h = cc
one_hits (q ∷ ps) zero p a is h =
    let e : q ≡ p = cc in
    let one : hit a (range_of p) ≡ 1 = hit_within a (range_of p) h.0 h.1 in
    let one' : hit a (range_of q) ≡ 1 = subst (λ r. hit a (range_of r) ≡ 1) (sym e) one in
    omega (arith, one')
one_hits (q ∷ ps) (suc i) p a is h = let more = one_hits ps i p a is h in omega (arith, more)

-- two segments of different numbers count twice
pub two_hits : (ps : List Piece) (i j : ℕ) (p q : Piece) (a : ℕ) → i < j → slice_get ps i ≡ Some p → slice_get ps j ≡ Some q → has_target p a → has_target q a → 2 ≤ hits a (ranges_of ps)
two_hits [] i j p q a lt pi qj hp hq = cc
two_hits (r ∷ ps) zero zero p q a lt pi qj hp hq = absurd (omega (arith, lt))
two_hits (r ∷ ps) zero (suc j) p q a lt pi qj hp hq =
    let e : r ≡ p = cc in
    let one : hit a (range_of p) ≡ 1 = hit_within a (range_of p) hp.0 hp.1 in
    let one' : hit a (range_of r) ≡ 1 = subst (λ s. hit a (range_of s) ≡ 1) (sym e) one in
    let more = one_hits ps j q a qj hq in
    omega (arith, one', more)
two_hits (r ∷ ps) (suc i) zero p q a lt pi qj hp hq = absurd (omega (arith, lt))
two_hits (r ∷ ps) (suc i) (suc j) p q a lt pi qj hp hq =
    let more = two_hits ps i j p q a (omega (arith, lt)) pi qj hp hq in
    omega (arith, more)

-- a range that counts has the address
hit_target : (p : Piece) (a : ℕ) → 1 ≤ hit a (range_of p) → has_target p a
hit_target p a h = elim (cases_lt a p.target) [
  | inl lt ↦ let z = hit_below a (range_of p) lt in absurd (omega (arith, z, h))
  | inr le ↦ elim (cases_lt a (p.target + length p.body)) [
    | inl lt ↦ (le, lt)
    | inr ge ↦ let z = hit_behind a (range_of p) ge in absurd (omega (arith, z, h))
  ]
]

hit_one : (ps : List Piece) (a : ℕ) → 1 ≤ hits a (ranges_of ps) → (j : ℕ) × (q : Piece) × (slice_get ps j ≡ Some q) × has_target q a
hit_one [] a h = absurd (omega (arith, h))
hit_one (p ∷ ps) a h = elim (cases_lt 0 (hit a (range_of p))) [
  | inl some ↦ (0, p, refl, hit_target p a (omega (arith, some)))
  | inr none ↦ let w = hit_one ps a (omega (arith, none, h)) in (suc w.0, w.1, w.2, w.3)
]

pub hit_two : (ps : List Piece) (a : ℕ) → 2 ≤ hits a (ranges_of ps) → IsShared ps a
hit_two [] a h = absurd (omega (arith, h))
hit_two (p ∷ ps) a h = elim (cases_lt 0 (hit a (range_of p))) [
  | inl some ↦
      let most = hit_most a (range_of p) in
      let w = hit_one ps a (omega (arith, most, h)) in
      (0, suc w.0, p, w.1, omega arith, refl, w.2, hit_target p a (omega (arith, some)), w.3)
  | inr none ↦
      let w = hit_two ps a (omega (arith, none, h)) in
      let lt : w.0 < w.1 = w.4 in
      (suc w.0, suc w.1, w.2, w.3, omega arith, w.5, w.6, w.7, w.8)
]
