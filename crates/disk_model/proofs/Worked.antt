-- The images that were worked out by hand.
use Rattle.std.proofs.Common.{◌≡◌, inl, inr, ℕ, ◌+◌, ◌<◌, ◌≤◌, List, [], ◌∷◌, length, refl, sym, ◌∙◌, ap, arith}
use Rattle.std.specs.Prelude.{slice_index}
use Rattle.std.proofs.lemmas.Bool.{cases_eq}
use Rattle.std.proofs.lemmas.List.{get_or_past}
use Rattle.disk_model.specs.Disk.{IsListed, IsCrashImage, SameOutside}
use Rattle.disk_model.specs.Rows.{AreImagesWorked, torn, grown}

-- two lists agree at a place whose number is known
at_place : (xs ys : List ℕ) (i k : ℕ) → i ≡ k → slice_index xs k ≡ slice_index ys k → slice_index xs i ≡ slice_index ys i
at_place xs ys i k is same = ap (λ (j : ℕ). slice_index xs j) is ∙ same ∙ sym (ap (λ (j : ℕ). slice_index ys j) is)

-- two files of three bytes that agree behind the first
behind_first : (a b : ℕ) → SameOutside 0 1 (a ∷ 68 ∷ 88 ∷ []) (b ∷ 68 ∷ 88 ∷ [])
behind_first a b i side = elim (cases_eq i 0) [
  | inl first ↦ elim side [ inl less ↦ absurd (omega (arith, less)) | inr more ↦ absurd (omega (arith, more, first)) ]
  | inr other ↦ elim (cases_eq i 1) [
    | inl second ↦ at_place (b ∷ 68 ∷ 88 ∷ []) (a ∷ 68 ∷ 88 ∷ []) i 1 second refl
    | inr third ↦ elim (cases_eq i 2) [
      | inl last ↦ at_place (b ∷ 68 ∷ 88 ∷ []) (a ∷ 68 ∷ 88 ∷ []) i 2 last refl
      | inr more ↦
          let later : 3 ≤ i = omega (arith, other, third, more) in
          get_or_past (b ∷ 68 ∷ 88 ∷ []) i 0 later ∙ sym (get_or_past (a ∷ 68 ∷ 88 ∷ []) i 0 later)
    ]
  ]
]

with_first : (b : ℕ) → IsCrashImage torn (b ∷ 68 ∷ 88 ∷ [])
with_first b = record {
  no_shorter = omega arith;
  no_longer = omega arith;
  same = λ i lt outside. elim (cases_eq i 0) [
    | inl first ↦ absurd (outside (inl (omega arith, omega (arith, first))))
    | inr other ↦ behind_first 165 b i (inr (omega (arith, other)))
  ];
}

-- the first byte of the file that grew, and any behind it
with_rest : (rest : List ℕ) → length rest ≤ 2 → IsCrashImage grown (79 ∷ rest)
with_rest rest few = record {
  no_shorter = omega arith;
  no_longer = omega (arith, few);
  same = λ i lt outside. at_place (79 ∷ rest) grown.bytes i 0 (omega (arith, lt)) refl;
}

torn_second : IsListed torn.ranges 1 → ⊥
torn_second listed = elim listed [ inl there ↦ omega (arith, there.1) | inr none ↦ none ]

grown_first : IsListed grown.ranges 0 → ⊥
grown_first listed = elim listed [ inl there ↦ omega (arith, there.0) | inr none ↦ none ]

written_two : (k : ℕ) → k < 2 → slice_index (79 ∷ 1 ∷ 2 ∷ []) (1 + k) ≡ slice_index (1 ∷ 2 ∷ []) k
written_two k lt = elim (cases_eq k 0) [
  | inl first ↦ ap (λ (j : ℕ). slice_index (79 ∷ 1 ∷ 2 ∷ []) (1 + j)) first ∙ sym (ap (λ (j : ℕ). slice_index (1 ∷ 2 ∷ []) j) first)
  | inr other ↦
      let second : k ≡ 1 = omega (arith, lt, other) in
      ap (λ (j : ℕ). slice_index (79 ∷ 1 ∷ 2 ∷ []) (1 + j)) second ∙ sym (ap (λ (j : ℕ). slice_index (1 ∷ 2 ∷ []) j) second)
]

outside_two : SameOutside 1 2 (79 ∷ []) (79 ∷ 1 ∷ 2 ∷ [])
outside_two i side = elim side [
  | inl less ↦ at_place (79 ∷ 1 ∷ 2 ∷ []) (79 ∷ []) i 0 (omega (arith, less)) refl
  | inr more ↦ get_or_past (79 ∷ 1 ∷ 2 ∷ []) i 0 more ∙ sym (get_or_past (79 ∷ []) i 0 (omega (arith, more)))
]

written_one : (k : ℕ) → k < 1 → slice_index torn.bytes (0 + k) ≡ slice_index (165 ∷ []) k
written_one k lt = let first : k ≡ 0 = omega (arith, lt) in ap (λ (j : ℕ). slice_index torn.bytes (0 + j)) first ∙ sym (ap (λ (j : ℕ). slice_index (165 ∷ []) j) first)

pub images_worked : AreImagesWorked
images_worked = record {
  wrote = record { inside = written_one; outside = behind_first 0 165; size = refl; ranges = refl; synced = refl };
  old_byte = with_first 0;
  new_byte = with_first 165;
  junk_byte = with_first 90;
  next_byte = λ is. let byte : 69 ≡ 68 = is.same 1 (omega arith) torn_second in omega (arith, byte);
  cut_short = λ is. let long : 3 ≤ 2 = is.no_shorter in omega (arith, long);
  missed = record { outside = behind_first 0 90; no_shorter = omega arith; no_longer = omega arith; ranges = refl; synced = refl };
  synced = record { bytes = refl; ranges = refl; synced = refl };
  new_alone = λ is. let byte : 0 ≡ 165 = is.same 0 (omega arith) (λ listed. listed) in omega (arith, byte);
  grew = record { inside = written_two; outside = outside_two; size = refl; ranges = refl; synced = refl };
  none_of_it = with_rest [] (omega arith);
  part_of_it = with_rest (9 ∷ []) (omega arith);
  not_its_front = λ is. let byte : 78 ≡ 79 = is.same 0 (omega arith) grown_first in omega (arith, byte);
}
