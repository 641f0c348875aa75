-- One written frame, whole or in part.
use Rattle.std.proofs.Common.{◌≡◌, ◌⊎◌, inl, inr, ℕ, zero, suc, ◌+◌, ◌/◌, ◌%◌, ◌<◌, ◌≤◌, true, false, List, [], length, take, drop, refl, arith, length-take}
use Rattle.std.specs.Prelude.{nat_lt}
use Rattle.std.proofs.lemmas.Bool.{cases_lt, lt-ltb, le-ltb}
use Rattle.std.proofs.lemmas.List.{take_all, drop_all}
use Rattle.flash_base.specs.Numbers.{number2, number4}
use Rattle.doip_frame.specs.Frame.{Partial, Whole, cut_frame, is_length, frame_bytes}

pub number2_of : (x : ℕ) → number2 (x / 256) (x % 256) ≡ x
number2_of x = omega arith

pub number4_of : (x : ℕ) → number4 (x / 16777216) (x / 65536 % 256) (x / 256 % 256) (x % 256) ≡ x
number4_of x = omega arith

module _ (kind : ℕ) (payload : List ℕ) (few : length payload ≤ 65600) (form : is_length kind (length payload) ≡ true) where
  pub whole : cut_frame (frame_bytes kind payload) ≡ Whole kind payload []
  whole =
      let k = number2_of kind in
      let n = number4_of (length payload) in
      let small : nat_lt 65600 (length payload) ≡ false = le-ltb _ _ few in
      let all : nat_lt (length payload) (length payload) ≡ false = le-ltb (length payload) (length payload) (omega arith) in
      let taken : take (length payload) payload ≡ payload = take_all (length payload) payload (omega arith) in
      let left : drop (length payload) payload ≡ [] = drop_all (length payload) payload (omega arith) in
      rw (k, n, small, form, all, taken, left) refl

  pub partial : (k : ℕ) → k < 8 + length payload → cut_frame (take k (frame_bytes kind payload)) ≡ Partial
  partial zero lt = refl
  partial (suc zero) lt = refl
  partial (suc (suc zero)) lt = refl
  partial (suc (suc (suc zero))) lt = refl
  partial (suc (suc (suc (suc zero)))) lt = refl
  partial (suc (suc (suc (suc (suc zero))))) lt = refl
  partial (suc (suc (suc (suc (suc (suc zero)))))) lt = refl
  partial (suc (suc (suc (suc (suc (suc (suc zero))))))) lt = refl
  partial (suc (suc (suc (suc (suc (suc (suc (suc k)))))))) lt =
      let q = number2_of kind in
      let n = number4_of (length payload) in
      let small : nat_lt 65600 (length payload) ≡ false = le-ltb _ _ few in
      let short : nat_lt (length (take k payload)) (length payload) ≡ true = lt-ltb _ _ (omega (arith, length-take k payload, lt)) in
      rw (q, n, small, form, short) refl

  pub cut_of : (k : ℕ) → (cut_frame (take k (frame_bytes kind payload)) ≡ Partial) ⊎ (take k (frame_bytes kind payload) ≡ frame_bytes kind payload)
  cut_of k = elim (cases_lt k (8 + length payload)) [
    | inl lt ↦ inl (partial k lt)
    | inr ge ↦ inr (take_all k (frame_bytes kind payload) (omega (arith, ge)))
  ]
