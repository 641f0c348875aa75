use Rattle.std.proofs.Common.{ℕ, ◌≡◌, ◌≢◌, inl, inr, ◌*◌, ◌/◌, ◌%◌, ◌^◌, ◌<◌, false, List, length, w64, rules, sym, ◌∙◌, ap, arith}
use Rattle.std.specs.Prelude.{Bool, ◌==◌, ◌||◌, slice_index_or, slice_set, bit_or}
use Rattle.std.proofs.lemmas.Bool.{cases_Bool, eqb-true, eq-eqb, false≢true}
use Rattle.std.proofs.lemmas.List.{get_or-set_same, get_or-set_other}
use Rattle.std.proofs.lemmas.Nat.Bits.{bit_at_set_same, bit_at_set_other}
use Rattle.unit_session.proofs.marks.Marks.with.Goals as goal

eqb_false : (a b : ℕ) → (a == b) ≡ false → a ≢ b
eqb_false a b e is = false≢true (sym e ∙ eq-eqb a b is)

module _ (words : List ℕ) (s w : ℕ) (is : w ≡ s / 64) (few : w < length words) where
  abbrev old : ℕ
  old = slice_index_or words w 0

  abbrev new : ℕ
  new = bit_or old (1 * 2 ^ (s % 64) % 18446744073709551616)

  abbrev has_bit : ℕ → ℕ → Bool
  has_bit x k = x / 2 ^ k % 2 == 1

  low : s % 64 < 64
  low = omega arith

  -- the word of the bit that is set
  here : (n : ℕ) → n / 64 ≡ w → slice_index_or (slice_set words w new) (n / 64) 0 ≡ new
  here n at = ap (λ (k : ℕ). slice_index_or (slice_set words w new) k 0) at ∙ get_or-set_same words w new 0 few

  bit_set : (n : ℕ) → has_bit (slice_index_or (slice_set words w new) (n / 64) 0) (n % 64) ≡ (n == s || has_bit (slice_index_or words (n / 64) 0) (n % 64))
  bit_set n = elim (cases_Bool (n == s)) [
    | inl e ↦
        (let same : n ≡ s = eqb-true n s e in
        let place : n / 64 ≡ w = ap (λ (k : ℕ). k / 64) same ∙ sym is in
        let bit : n % 64 ≡ s % 64 = ap (λ (k : ℕ). k % 64) same in
        ap (λ (x : ℕ). has_bit x (n % 64)) (here n place) ∙ ap (has_bit new) bit ∙ ap (λ (b : ℕ). b == 1) (bit_at_set_same w64 old (s % 64) low)
        ∙ sym (ap (λ (b : Bool). b || has_bit (slice_index_or words (n / 64) 0) (n % 64)) e))
    | inr e ↦
        (let other = eqb_false n s e in
        let rest : has_bit (slice_index_or (slice_set words w new) (n / 64) 0) (n % 64) ≡ has_bit (slice_index_or words (n / 64) 0) (n % 64) =
        elim (cases_Bool (n / 64 == w)) [
          | inl f ↦
              (let place : n / 64 ≡ w = eqb-true (n / 64) w f in
              let apart : n % 64 ≢ s % 64 = λ q. other (omega (arith, q, place, is)) in
              ap (λ (x : ℕ). has_bit x (n % 64)) (here n place) ∙ ap (λ (b : ℕ). b == 1) (bit_at_set_other w64 old (s % 64) low (n % 64) apart)
              ∙ ap (λ (k : ℕ). has_bit (slice_index_or words k 0) (n % 64)) (sym place))
          | inr f ↦ ap (λ (x : ℕ). has_bit x (n % 64)) (get_or-set_other words w (n / 64) new 0 (eqb_false (n / 64) w f))
        ] in
        rest ∙ sym (ap (λ (b : Bool). b || has_bit (slice_index_or words (n / 64) 0) (n % 64)) e))
  ]

pub returns-then-word-lt4-clause-one : goal.returns-then-word-lt4-clause-one
returns-then-word-lt4-clause-one c =
    let size : length c.args.self.bits ≡ 4 = search rules in
    let few : c.from-word.result < length c.args.self.bits = omega (arith, size, c.if-word-lt4.true) in
    λ small. (λ i n. bit_set c.args.self.bits c.args.segment c.from-word.result c.from-word.ensures few n i)
