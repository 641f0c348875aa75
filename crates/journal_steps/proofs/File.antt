-- The bytes of a new journal.
use Rattle.std.proofs.Common.{◌≡◌, ℕ, ◌+◌, ◌*◌, ◌-◌, ◌<◌, true, List, [], ◌∷◌, ◌++◌, length, get_or, refl, sym, ◌∙◌, ap, subst, arith, length-append, append_assoc}
use Rattle.std.specs.Prelude.{◌==◌, slice_index, replicate}
use Rattle.std.proofs.lemmas.Bool.{and_from, eq-eqb}
use Rattle.std.proofs.lemmas.List.{get_or_append_left, get_or-append_right, get_or-replicate, length-replicate}
use Rattle.journal_model.specs.Records.{Label, total, slots_of, old_form, new_form, bytes4, stands_at}
use Rattle.journal_steps.specs.File.{front16, new_bytes}
use Rattle.journal_steps.specs.Make.{IsMade}
use Rattle.journal_steps.specs.Move.{IsSecond, second_bytes}
use Rattle.journal_steps.proofs.Slots.{below_from}

-- bytes stand where they were put
pub stands_in : (xs ys zs : List ℕ) (at : ℕ) → length xs ≡ at → stands_at ((xs ++ ys) ++ zs) at (length ys) ys ≡ true
stands_in xs ys zs at is = below_from (length ys) (λ i. slice_index ((xs ++ ys) ++ zs) (at + i) == slice_index ys i) (λ t lt. eq-eqb _ _
    (get_or_append_left (xs ++ ys) zs 0 (at + t) (omega (arith, lt, length-append xs ys, is))
    ∙ get_or-append_right xs ys at (at + t) 0 is (omega arith)
    ∙ ap (λ (k : ℕ). get_or ys k 0) (omega arith)))

-- the number of slots in the first 16 bytes
pub front_count : (gate n : ℕ) (digest rest : List ℕ) → stands_at ((front16 gate n ++ digest) ++ rest) 12 4 (bytes4 n) ≡ true
front_count gate n digest rest = below_from 4 (λ i. slice_index ((front16 gate n ++ digest) ++ rest) (12 + i) == slice_index (bytes4 n) i) (λ t lt. eq-eqb _ _ (
    get_or_append_left (front16 gate n ++ digest) rest 0 (12 + t) (omega (arith, lt, length-append (front16 gate n) digest))
    ∙ get_or_append_left (front16 gate n) digest 0 (12 + t) (omega (arith, lt))
    ∙ get_or-append_right twelve (bytes4 n) 12 (12 + t) 0 refl (omega arith)
    ∙ ap (λ (k : ℕ). get_or (bytes4 n) k 0) (omega arith)))
  where
    twelve : List ℕ
    twelve = gate ∷ 79 ∷ 68 ∷ 88 ∷ 70 ∷ 74 ∷ 78 ∷ 76 ∷ 2 ∷ 0 ∷ 0 ∷ 0 ∷ []

module _ (P : Label) (d32 : length P.digest ≡ 32) where
  -- the number of slots
  abbrev k : ℕ
  k = slots_of (new_form P 0)

  front_size : length (front16 0 k ++ P.digest) ≡ 48
  front_size = length-append (front16 0 k) P.digest ∙ omega (arith, d32)

  zero_at : (i : ℕ) → i < 16 + 17 * k → slice_index (new_bytes P) (48 + i) ≡ 0
  zero_at i lt = get_or-append_right (front16 0 k ++ P.digest) (replicate (16 + 17 * k) 0) 48 (48 + i) 0 front_size (omega arith)
      ∙ get_or-replicate (16 + 17 * k) (48 + i - 48) 0 0 (omega (arith, lt))

  pub new_size : length (new_bytes P) ≡ 64 + 17 * k
  new_size = length-append (front16 0 k ++ P.digest) (replicate (16 + 17 * k) 0) ∙ omega (arith, front_size, length-replicate {A = ℕ} (16 + 17 * k) 0)

  pub new_made : IsMade P (new_bytes P)
  new_made = record {
    size = omega (arith, new_size);
    version = refl;
    count = front_count 0 k P.digest (replicate (16 + 17 * k) 0);
    digest = subst (λ (n : ℕ). stands_at (new_bytes P) 16 n P.digest ≡ true) d32 (stands_in (front16 0 k) P.digest (replicate (16 + 17 * k) 0) 16 refl);
    zeros = below_from 15 (λ i. slice_index (new_bytes P) (48 + i) == slice_index (replicate 15 0) i) (λ t lt. eq-eqb _ _ (zero_at t (omega (arith, lt)) ∙ sym (get_or-replicate 15 t 0 0 lt)));
    last = zero_at 15 (omega arith);
    gates = λ j lt. ap (λ (i : ℕ). slice_index (new_bytes P) i) (omega arith) ∙ zero_at (16 + j) (omega (arith, lt));
  }

-- ------ the journal behind a version 1 file
after_it : (xs ys : List ℕ) (n i : ℕ) → length xs ≡ n → slice_index (xs ++ ys) (n + i) ≡ slice_index ys i
after_it xs ys n i is = get_or-append_right xs ys n (n + i) 0 is (omega arith) ∙ ap (λ (k : ℕ). slice_index ys k) (omega arith)

module _ (P : Label) (old gates bodies : List ℕ) (d32 : length P.digest ≡ 32)
    (gates_size : length gates ≡ slots_of (old_form P)) (gates_are : (j : ℕ) → j < slots_of (old_form P) → slice_index gates j ≡ slice_index old (64 + j))
    (bodies_size : length bodies ≡ 16 * slots_of (old_form P)) (bodies_are : (i : ℕ) → i < 16 * slots_of (old_form P) → slice_index bodies i ≡ slice_index old (64 + slots_of (old_form P) + i)) where
  abbrev n : ℕ
  n = slots_of (old_form P)

  abbrev t : ℕ
  t = total P.segments

  abbrev head : List ℕ
  head = front16 165 (slots_of (new_form P 0)) ++ P.digest

  abbrev behind_bodies : List ℕ
  behind_bodies = bodies ++ replicate (16 * t) 0

  abbrev behind_gates : List ℕ
  behind_gates = replicate t 0 ++ behind_bodies

  abbrev behind_zeros : List ℕ
  behind_zeros = gates ++ behind_gates

  abbrev second : List ℕ
  second = head ++ (replicate 16 0 ++ behind_zeros)

  regrouped : (front zeros gs most bs last : List ℕ) → front ++ (zeros ++ (gs ++ (most ++ (bs ++ last)))) ≡ front ++ zeros ++ gs ++ most ++ bs ++ last
  regrouped front zeros gs most bs last = sym (simp append_assoc)

  head_size : length head ≡ 48
  head_size = length-append (front16 165 (slots_of (new_form P 0))) P.digest ∙ omega (arith, d32)

  at_zeros : (i : ℕ) → slice_index second (48 + i) ≡ slice_index (replicate 16 0 ++ behind_zeros) i
  at_zeros i = after_it head (replicate 16 0 ++ behind_zeros) 48 i head_size

  zero_there : (i : ℕ) → i < 16 → slice_index second (48 + i) ≡ 0
  zero_there i lt = at_zeros i ∙ get_or_append_left (replicate 16 0) behind_zeros 0 i (omega (arith, lt, length-replicate {A = ℕ} 16 0)) ∙ get_or-replicate 16 i 0 0 lt

  at_gates : (i : ℕ) → slice_index second (64 + i) ≡ slice_index behind_zeros i
  at_gates i = ap (λ (j : ℕ). slice_index second j) (omega arith) ∙ at_zeros (16 + i) ∙ after_it (replicate 16 0) behind_zeros 16 i (length-replicate {A = ℕ} 16 0)

  at_closed : (i : ℕ) → slice_index second (64 + (n + i)) ≡ slice_index behind_gates i
  at_closed i = at_gates (n + i) ∙ after_it gates behind_gates n i gates_size

  at_bodies : (i : ℕ) → slice_index second (64 + (n + (t + i))) ≡ slice_index behind_bodies i
  at_bodies i = at_closed (t + i) ∙ after_it (replicate t 0) behind_bodies t i (length-replicate {A = ℕ} t 0)

  size : length second ≡ 64 + 17 * slots_of (new_form P 0)
  size = length-append head (replicate 16 0 ++ behind_zeros) ∙ omega (
    arith,
    head_size,
    length-append (replicate 16 0) behind_zeros,
    length-replicate {A = ℕ} 16 0,
    length-append gates behind_gates,
    gates_size,
    length-append (replicate t 0) behind_bodies,
    length-replicate {A = ℕ} t 0,
    length-append bodies (replicate (16 * t) 0),
    bodies_size,
    length-replicate {A = ℕ} (16 * t) 0,
  )

  in_parts : IsSecond P old second
  in_parts = record {
    size = size;
    header = and_from _ _ (and_from _ _ refl (below_from 15 (λ i. slice_index second (48 + i) == slice_index (replicate 15 0) i) (λ i lt. eq-eqb _ _ (zero_there i (omega (arith, lt)) ∙ sym (get_or-replicate 15 i 0 0 lt)))))
        (eq-eqb _ _ (zero_there 15 (omega arith)));
    digest = subst (λ (m : ℕ). stands_at second 16 m P.digest ≡ true) d32 (stands_in (front16 165 (slots_of (new_form P 0))) P.digest (replicate 16 0 ++ behind_zeros) 16 refl);
    count = front_count 165 (slots_of (new_form P 0)) P.digest (replicate 16 0 ++ behind_zeros);
    gates = λ j lt. at_gates j ∙ get_or_append_left gates behind_gates 0 j (omega (arith, lt, gates_size)) ∙ gates_are j lt;
    closed = λ j le lt. ap (λ (i : ℕ). slice_index second i) (omega (arith, le)) ∙ at_closed (j - n) ∙ get_or_append_left (replicate t 0) behind_bodies 0 (j - n) (omega (arith, le, lt, length-replicate {A = ℕ} t 0))
        ∙ get_or-replicate t (j - n) 0 0 (omega (arith, le, lt));
    bodies = λ i lt. ap (λ (j : ℕ). slice_index second j) (omega arith) ∙ at_bodies i ∙ get_or_append_left bodies (replicate (16 * t) 0) 0 i (omega (arith, lt, bodies_size)) ∙ bodies_are i lt;
  }

  pub second_made : IsSecond P old (second_bytes P gates bodies)
  second_made = subst (λ (xs : List ℕ). IsSecond P old xs) (regrouped head (replicate 16 0) gates (replicate t 0) bodies (replicate (16 * t) 0)) in_parts
