-- Which way a fresh file is made.
use Rattle.std.proofs.Common.{◌≡◌, inl, inr, ℕ, ◌+◌, ◌*◌, ◌-◌, ◌<◌, ◌≤◌, true, List, length, drop, refl, sym, ◌∙◌, ap, arith, length-take, length-drop}
use Rattle.std.specs.Prelude.{◌==◌, ◌||◌, not, nat_le, slice_index, slice_range}
use Rattle.std.proofs.lemmas.Bool.{or_cases, and_parts, leb-true, eqb-true, eq-eqb, both_ways}
use Rattle.std.proofs.lemmas.List.{get_or-take, get_or-drop}
use Rattle.disk_model.specs.Disk.{DiskState, IsSettled}
use Rattle.journal_model.specs.Records.{Label, slots_of, new_form, magic, is_fresh}
use Rattle.journal_steps.specs.Make.{IsMade, CanFill, CanMake}
use Rattle.journal_steps.proofs.Same.{stands_same}
use Rattle.journal_steps.specs.Read.{IsFront}

-- a fresh file with a byte that is not 0 has the magic behind a closed gate
pub fill_eight : (bytes : List ℕ) → is_fresh bytes ≡ true → 1 < length bytes → (slice_index bytes 0 ≡ 0 → ⊥) → CanFill bytes 8
fill_eight bytes fresh long nonzero = elim (or_cases (nat_le (length bytes) 1 || slice_index bytes 0 == 0) _ fresh) [
  | inl early ↦ absurd (elim (or_cases (nat_le (length bytes) 1) _ early) [
    | inl short ↦ omega (arith, leb-true (length bytes) 1 short, long)
    | inr zero_there ↦ nonzero (eqb-true _ _ zero_there)
  ])
  | inr magical ↦
      let parts = and_parts _ _ magical in
      let inner = and_parts _ _ parts.0 in
      record {
        kept = omega arith;
        within = leb-true 8 (length bytes) inner.0;
        head = inr (refl, inner.1, λ is. both_ways _ (λ i. not (eq-eqb _ _ is i)) parts.1);
      }
]

pub fill_one : (bytes : List ℕ) → 1 ≤ length bytes → slice_index bytes 0 ≡ 0 → CanFill bytes 1
fill_one bytes long is = record { kept = omega arith; within = long; head = inl (refl, is) }

-- what the first bytes allow, the file allows
pub fill_front : (m : ℕ) (image front : List ℕ) (start : ℕ) → 8 ≤ m → IsFront m image front → CanFill front start → CanFill image start
fill_front m image front start big is fill = record {
  kept = fill.kept;
  within = omega (arith, is.size, fill.within);
  head = elim fill.head [
    | inl zeroed ↦ inl (zeroed.0, sym (is.same 0 (omega (arith, big))) ∙ zeroed.1)
    | inr magical ↦ inr (magical.0, sym (stands_same image front 1 7 magic (λ t lt. is.same (1 + t) (omega (arith, lt, big)))) ∙ magical.1, λ at. magical.2 (is.same 0 (omega (arith, big)) ∙ at))
  ];
}

pub short_front : (m : ℕ) (image front : List ℕ) → 8 ≤ m → IsFront m image front → length front ≤ 1 → length image ≤ 1
short_front m image front big is short = omega (arith, is.size, short, big)

-- the rest of the bytes of a new journal
pub can_make : (P : Label) (disk : DiskState) (start : ℕ) (file rest : List ℕ) → IsSettled disk → IsMade P file → length file ≡ 64 + 17 * slots_of (new_form P 0) → CanFill disk.bytes start → start ≤ 8 → rest ≡ slice_range file start (length file) → CanMake P disk start rest
can_make P disk start file rest settled made size fill small is = record {
  settled = settled;
  fill = fill;
  file = file;
  made = made;
  ends = let long : length rest ≡ length file - start = ap length is ∙ length-take (length file - start) (drop start file) ∙ omega (arith, length-drop start file) in omega (arith, long, size, small);
  written_is = λ k lt.
      let long : length rest ≡ length file - start = ap length is ∙ length-take (length file - start) (drop start file) ∙ omega (arith, length-drop start file) in
      ap (λ (xs : List ℕ). slice_index xs k) is ∙ get_or-take (length file - start) (drop start file) k 0 (omega (arith, lt, long)) ∙ get_or-drop start file k 0;
}
