-- The journal behind a version 1 file, as it is put together.
use Rattle.std.proofs.Common.{◌≡◌, ℕ, ◌+◌, ◌*◌, ◌-◌, ◌<◌, ◌≤◌, List, length, drop, ◌∙◌, ap, subst, arith, length-take, length-drop}
use Rattle.std.specs.Prelude.{slice_index, slice_range}
use Rattle.std.proofs.lemmas.List.{get_or-take, get_or-drop}
use Rattle.journal_model.specs.Records.{Label, slots_of, old_form, behind}
use Rattle.journal_steps.specs.Move.{IsSecond, second_bytes}
use Rattle.journal_steps.proofs.File.{second_made}

part_length : (xs : List ℕ) (a n : ℕ) → a + n ≤ length xs → length (slice_range xs a (a + n)) ≡ n
part_length xs a n le = length-take (a + n - a) (drop a xs) ∙ omega (arith, length-drop a xs, le)

part_at : (xs : List ℕ) (a n i : ℕ) → i < n → slice_index (slice_range xs a (a + n)) i ≡ slice_index xs (a + i)
part_at xs a n i lt = get_or-take (a + n - a) (drop a xs) i 0 (omega (arith, lt)) ∙ get_or-drop a xs i 0

-- made of the slots of a version 1 file
pub second_parts : (P : Label) (old : List ℕ) (n : ℕ) → length P.digest ≡ 32 → behind P ≤ length old → n ≡ slots_of (old_form P)
    → IsSecond P old (second_bytes P (slice_range old 64 (64 + n)) (slice_range old (64 + n) (64 + 17 * n)))
second_parts P old n d32 long is = subst (λ (m : ℕ). IsSecond P old (second_bytes P (slice_range old 64 (64 + n)) (slice_range old (64 + n) m))) ends
    (second_made P old (slice_range old 64 (64 + n)) (slice_range old (64 + n) (64 + n + 16 * n)) d32
    (part_length old 64 n (omega (arith, long, is)) ∙ is) (λ j lt. part_at old 64 n j (omega (arith, lt, is)))
    (part_length old (64 + n) (16 * n) (omega (arith, long, is)) ∙ ap (λ (k : ℕ). 16 * k) is)
    (λ i lt. part_at old (64 + n) (16 * n) i (omega (arith, lt, is)) ∙ ap (λ (k : ℕ). slice_index old (64 + k + i)) is))
  where
    ends : 64 + n + 16 * n ≡ 64 + 17 * n
    ends = omega arith
