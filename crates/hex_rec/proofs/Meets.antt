-- Bytes of a line that meet another byte.
use Rattle.std.proofs.Common.{◌≡◌, ℕ, ◌+◌, ◌-◌, ◌%◌, ◌^◌, ◌<◌, ◌≤◌, ◌⊎◌, List, length, take, drop, min, cond, Option, Some, None, Result, Ok, Err, refl, sym, ap, ◌∙◌, inl, inr, arith, length-take, length-drop}
use Rattle.std.specs.Prelude.{◌≢◌}
use Rattle.std.proofs.lemmas.Bool.{cases_lt, le-leb, lt-leb}
use Rattle.std.proofs.lemmas.Option.{same_Some}
use Rattle.std.specs.List.{slice_get}
use Rattle.std.specs.FinMap.{get}
use Rattle.span_store.specs.ByteMap.{ByteMap, over, clash}
use Rattle.span_store.specs.Lowest.{IsLowest}
use Rattle.span_store.specs.declared.clash.Clash.{Clash}
use Rattle.span_store.proofs.Lookups.{get-over, reads_other}
use Rattle.span_store.proofs.Pieces.{slice_get-drop}
use Rattle.span_store.proofs.Settled.{slice_get-take}
use Rattle.rec_text.specs.Putting.{◌>>=◌, putting, put_unless, put_round}
use Rattle.rec_text.specs.declared.fault.RecFault.{RecFault}
use Rattle.rec_text.specs.declared.fault.RecFault.TheVariants.{Conflict}
use Rattle.rec_text.proofs.Adds.{some_below}
use Rattle.rec_text.proofs.Conflicts.{Differ, clash_lowest, clash_free}
use Rattle.hex_rec.specs.Reading.{put_line}
use Rattle.hex_rec.specs.HexText.{address}
use Rattle.hex_rec.specs.Base.{IsBase}
use Rattle.hex_rec.specs.declared.base.Base.{Base}
use Rattle.hex_rec.specs.declared.base.Base.TheVariants.{Linear, Segment}
use Rattle.hex_rec.proofs.Adds.{line_adds}

-- bytes at the addresses of a line have another byte than the map at an address
abbrev pub Meets : ByteMap → (ℕ → ℕ) → List ℕ → ℕ → Type 0
Meets m place bs a = (k : ℕ) × (b : ℕ) × (old : ℕ) × (k < length bs) × (a ≡ place k) × (slice_get bs k ≡ Some b) × (get m a ≡ Some old) × (old ≢ b)

pub bind_err : {A B : Type 0} (r : Result A RecFault) (f : A → Result B RecFault) (e : RecFault) → (r >>= f) ≡ Err e → (r ≡ Err e) ⊎ ((x : A) × (r ≡ Ok x) × (f x ≡ Err e))
bind_err (Ok x) f e h = inr (x, refl, h)
bind_err (Err d) f e h = let same : d ≡ e = cc in inl (ap Err same)

put_err : (c : Option Clash) (m : ByteMap) (e : RecFault) → put_unless c m ≡ Err e → (x : Clash) × (c ≡ Some x) × (e ≡ Conflict x.at)
put_err None m e h = cc
put_err (Some x) m e h = let same : Conflict x.at ≡ e = cc in (x, refl, sym same)

put_none : (c : Option Clash) (m new : ByteMap) → put_unless c m ≡ Ok new → (c ≡ None) × (m ≡ new)
put_none None m new e = (refl, (let is : m ≡ new = cc in is))
put_none (Some c) m new e = cc

abbrev Lowest : ByteMap → (ℕ → ℕ) → List ℕ → RecFault → Type 0
Lowest m place bs e = (a : ℕ) × (e ≡ Conflict a) × IsLowest (Meets m place bs) (Some a)

module _ (m : ByteMap) (start first room : ℕ) (bs : List ℕ) (place : ℕ → ℕ)
    (near : (k : ℕ) → k < room → k < length bs → place k ≡ first + k) (far : (k : ℕ) → room ≤ k → k < length bs → place k ≡ start + (k - room))
    (below : room < length bs → start + (length bs - room) ≤ first) where
  fits_err : (e : RecFault) → length bs ≤ room → putting m first bs ≡ Err e → Lowest m place bs e
  fits_err e fits h =
      let (c, is, same) = put_err (clash m first bs) (over m first bs) e h in
      let low = clash_lowest m first bs c is in
      let (k, b, old, at, i, o, n) = low.0 in
      let l = some_below bs k b i in (
        c.at,
        same,
        (
          (k, b, old, l, at ∙ sym (near k (omega arith) l), i, o, n),
          λ a lt d.
              let (j, x, y, lj, aj, ij, oj, nj) = d in
              low.1 a lt (j, x, y, aj ∙ near j (omega arith) lj, ij, oj, nj),
        ),
      )

  module _ (more : room < length bs) where
    size_d : length (drop room bs) ≡ length bs - room
    size_d = length-drop room bs

    size_t : length (take room bs) ≡ min room (length bs)
    size_t = length-take room bs

    -- a byte that meets another is in one of the two parts
    part_of : (a : ℕ) → Meets m place bs a → Differ m start (drop room bs) a ⊎ (Differ m first (take room bs) a)
    part_of a d =
        let (k, b, old, l, at, i, o, n) = d in
        elim (cases_lt k room) [
          | inl lt ↦ inr (k, b, old, at ∙ near k lt l, slice_get-take bs room k lt ∙ i, o, n)
          | inr ge ↦
              let e : room + (k - room) ≡ k = omega arith in
              inl (k - room, b, old, at ∙ far k ge l, slice_get-drop bs room (k - room) ∙ ap (slice_get bs) e ∙ i, o, n)
        ]

    low_meets : (a : ℕ) → Differ m start (drop room bs) a → Meets m place bs a
    low_meets a d =
        let (k, b, old, at, i, o, n) = d in
        let l = some_below (drop room bs) k b i in
        let s = size_d in
        let e : room + k - room ≡ k = omega arith in
        let lt : room + k < length bs = omega arith in
        (room + k, b, old, lt, at ∙ ap (λ q. start + q) (sym e) ∙ sym (far (room + k) (omega arith) lt), sym (slice_get-drop bs room k) ∙ i, o, n)

    high_meets : (a : ℕ) → Differ m first (take room bs) a → Meets m place bs a
    high_meets a d =
        let (k, b, old, at, i, o, n) = d in
        let l = some_below (take room bs) k b i in
        let s = size_t in
        let lt : k < room = omega arith in
        let le : k < length bs = omega arith in
        (k, b, old, le, at ∙ sym (near k lt le), sym (slice_get-take bs room k lt) ∙ i, o, n)

    -- what stands from the second part on is as it was
    kept : (a : ℕ) → first ≤ a → get (over m start (drop room bs)) a ≡ get m a
    kept a l =
        let s = size_d in
        let under : start + (length bs - room) ≤ first = below more in
        get-over m start (drop room bs) a ∙ reads_other start (drop room bs) a (get m a) (inr (omega arith))

    low_err : (e : RecFault) → putting m start (drop room bs) ≡ Err e → Lowest m place bs e
    low_err e h =
        let (c, is, same) = put_err (clash m start (drop room bs)) (over m start (drop room bs)) e h in
        let low = clash_lowest m start (drop room bs) c is in
        let s = size_d in
        let under : start + (length bs - room) ≤ first = below more in
        let (k, b, old, at, i, o, n) = low.0 in
        let l = some_below (drop room bs) k b i in (
          c.at,
          same,
          (
            low_meets c.at low.0,
            λ a lt d. elim (part_of a d) [
              | inl there ↦ low.1 a lt there
              | inr above ↦ let q : a ≡ first + above.0 = above.3 in absurd (omega arith)
            ],
          ),
        )

    high_err : (e : RecFault) → clash m start (drop room bs) ≡ None → putting (over m start (drop room bs)) first (take room bs) ≡ Err e → Lowest m place bs e
    high_err e free h =
        let half : ByteMap = over m start (drop room bs) in
        let (c, is, same) = put_err (clash half first (take room bs)) (over half first (take room bs)) e h in
        let low = clash_lowest half first (take room bs) c is in
        let (k, b, old, at, i, o, n) = low.0 in
        let from : first ≤ c.at = omega arith in
        let here : Differ m first (take room bs) c.at = (k, b, old, at, i, sym (kept c.at from) ∙ o, n) in (
          c.at,
          same,
          (
            high_meets c.at here,
            λ a lt d. elim (part_of a d) [
              | inl there ↦ clash_free m start (drop room bs) a free there
              | inr above ↦
                  let (j, x, y, aj, ij, oj, nj) = above in
                  let up : first ≤ a = omega arith in
                  low.1 a lt (j, x, y, aj, ij, kept a up ∙ oj, nj)
            ],
          ),
        )

    two_err : (e : RecFault) → (putting m start (drop room bs) >>= λ half. putting half first (take room bs)) ≡ Err e → Lowest m place bs e
    two_err e h =
        elim (bind_err (putting m start (drop room bs)) (λ half. putting half first (take room bs)) e h) [
          | inl one ↦ low_err e one
          | inr two ↦
              let (half, ok, is) = two in
              let none = put_none (clash m start (drop room bs)) (over m start (drop room bs)) half ok in
              high_err e none.0 (ap (λ q. putting q first (take room bs)) none.1 ∙ is)
        ]

  pub round_err : (e : RecFault) → put_round m start first room bs ≡ Err e → Lowest m place bs e
  round_err e h =
      elim (cases_lt room (length bs)) [
        | inr fits ↦ fits_err e fits (sym (ap (λ t. cond t (putting m first bs) (putting m start (drop room bs) >>= λ half. putting half first (take room bs))) (le-leb (length bs) room fits)) ∙ h)
        | inl more ↦ two_err more e (sym (ap (λ t. cond t (putting m first bs) (putting m start (drop room bs) >>= λ half. putting half first (take room bs))) (lt-leb (length bs) room more)) ∙ h)
      ]

pub line_err : (m : ByteMap) (base : Base) (offset : ℕ) (bs : List ℕ) (e : RecFault) → IsBase base → offset < 2 ^ 16 → length bs < 2 ^ 8 → put_line m base offset bs ≡ Err e
    → Lowest m (address base offset) bs e
line_err m (Linear base) offset bs e h o l is =
    round_err m 0 ((base + offset) % 2 ^ 32) (2 ^ 32 - (base + offset) % 2 ^ 32) bs (address (Linear base) offset)
    (λ k lt le. omega arith) (λ k ge le. omega arith) (λ more. omega arith) e is
line_err m (Segment base) offset bs e h o l is =
    round_err m base (base + offset) (2 ^ 16 - offset) bs (address (Segment base) offset)
    (λ k lt le. omega arith) (λ k ge le. omega arith) (λ more. omega arith) e is

-- bytes that were put met no other
pub line_free : (m new : ByteMap) (base : Base) (offset : ℕ) (bs : List ℕ) (a : ℕ) → IsBase base → offset < 2 ^ 16 → length bs < 2 ^ 8 → put_line m base offset bs ≡ Ok new
    → Meets m (address base offset) bs a → ⊥
line_free m new base offset bs a h o l is d =
    let adds = line_adds m new base offset bs h o l is in
    let (k, b, old, lt, at, i, there, n) = d in
    n (same_Some old b (sym (adds.keeps a old there) ∙ adds.has a b (k, lt, at, i)))
