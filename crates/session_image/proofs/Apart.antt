-- Target ranges in the order of their starts.
use Rattle.std.proofs.Common.{◌≡◌, refl, ◌<◌, ◌≤◌, inl, inr, ℕ, List, [], ◌∷◌, arith, Option, Some, None}
use Rattle.std.proofs.lemmas.Bool.{cases_lt, lt-ltb, le-ltb}
use Rattle.std.proofs.lemmas.Bool.Decides.{nat_tests}
use Rattle.span_store.specs.Lowest.{IsLowest}
use Rattle.session_image.specs.Targets.{hit, hits, Ascend, first_met}

pub hit_below : (a : ℕ) (t : ℕ × ℕ) → a < t.0 → hit a t ≡ 0
hit_below a t lt = grind (arith, nat_tests, lt)

pub hit_behind : (a : ℕ) (t : ℕ × ℕ) → t.1 ≤ a → hit a t ≡ 0
hit_behind a t le = grind (arith, nat_tests, le)

pub hit_within : (a : ℕ) (t : ℕ × ℕ) → t.0 ≤ a → a < t.1 → hit a t ≡ 1
hit_within a t le lt = grind (arith, nat_tests, le, lt)

pub hit_most : (a : ℕ) (t : ℕ × ℕ) → hit a t ≤ 1
hit_most a t = grind (arith, nat_tests)

-- below all starts there is none
below_all : (low : ℕ) (ts : List (ℕ × ℕ)) (a : ℕ) → Ascend low ts → a < low → hits a ts ≡ 0
below_all low [] a asc lt = refl
below_all low (t ∷ ts) a asc lt =
    let l : low ≤ t.0 = asc.0 in
    let one = hit_below a t (omega arith) in
    let more = below_all t.0 ts a asc.2 (omega arith) in
    omega (arith, one, more)

-- the first start below the end before it is the lowest address that two ranges have
pub met : (t : ℕ × ℕ) (ts : List (ℕ × ℕ)) → t.0 < t.1 → Ascend t.0 ts → IsLowest (λ a. 2 ≤ hits a (t ∷ ts)) (first_met t.1 ts)
met t [] some asc = λ a h. let most = hit_most a t in omega (arith, most, h)
met t (u ∷ us) some asc = elim (cases_lt u.0 t.1) [
  | inl lt ↦
      let ul : t.0 ≤ u.0 = asc.0 in
      let us' : u.0 < u.1 = asc.1 in
      let x : hit u.0 t ≡ 1 = hit_within u.0 t ul lt in
      let y : hit u.0 u ≡ 1 = hit_within u.0 u (omega arith) us' in
      rw (lt-ltb u.0 t.1 lt) (
        omega (arith, x, y),
        λ a below h.
            let z : hits a (u ∷ us) ≡ 0 = below_all u.0 (u ∷ us) a (omega arith, us', asc.2) below in
            let most = hit_most a t in
            omega (arith, z, most, h),
      )
  | inr ge ↦ rw (le-ltb u.0 t.1 ge) (later t u us asc ge (first_met u.1 us) (met u us asc.1 asc.2))
]
  where
    same : (t u : ℕ × ℕ) (us : List (ℕ × ℕ)) → Ascend t.0 (u ∷ us) → t.1 ≤ u.0 → (a : ℕ) → 2 ≤ hits a (t ∷ u ∷ us) → 2 ≤ hits a (u ∷ us)
    same t u us asc ge a h = elim (cases_lt a u.0) [
      | inl lt ↦
          let z : hits a (u ∷ us) ≡ 0 = below_all u.0 (u ∷ us) a (omega arith, asc.1, asc.2) lt in
          let most = hit_most a t in
          absurd (omega (arith, z, most, h))
      | inr le ↦ let none = hit_behind a t (omega arith) in omega (arith, none, h)
    ]

    later : (t u : ℕ × ℕ) (us : List (ℕ × ℕ)) → Ascend t.0 (u ∷ us) → t.1 ≤ u.0 → (o : Option ℕ) → IsLowest (λ a. 2 ≤ hits a (u ∷ us)) o → IsLowest (λ a. 2 ≤ hits a (t ∷ u ∷ us)) o
    later t u us asc ge None h = λ a two. h a (same t u us asc ge a two)
    later t u us asc ge (Some low) h = (let two = h.0 in omega (arith, two), λ a below two. h.1 a below (same t u us asc ge a two))
