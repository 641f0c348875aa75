-- The images after each call of making a file.
use Rattle.std.proofs.Common.{◌≡◌, ◌⊎◌, inl, inr, ℕ, ◌+◌, ◌*◌, ◌-◌, ◌<◌, ◌≤◌, true, List, [], ◌∷◌, length, refl, sym, ◌∙◌, ap, subst, arith}
use Rattle.std.specs.Prelude.{◌==◌, slice_index}
use Rattle.std.proofs.lemmas.Bool.{cases_lt, eqb-true}
use Rattle.disk_model.specs.Disk.{DiskState, IsCrashImage, IsSettled, Wrote, MissedWrite, Synced}
use Rattle.journal_steps.proofs.Images.{settled_image, settled_length, synced_settled, missed_image, missed_below}
use Rattle.journal_model.specs.Records.{Label, slots_of, new_form, magic, magic_and_version, stands_at, is_fresh}
use Rattle.journal_steps.specs.Append.{Records}
use Rattle.journal_steps.specs.Make.{IsMade, no_entry, Starts, CanFill, CanMake, IsNew}
use Rattle.journal_steps.proofs.Slots.{below_at}
use Rattle.journal_steps.proofs.Same.{stands_same}
use Rattle.journal_steps.proofs.Settled.{all_settled}
use Rattle.journal_steps.proofs.Made.{fresh_zero, fresh_short, fresh_magic, made_start, made_journal, made_form, made_copied}

pub starts_again : (P : Label) (before now : DiskState) → now ≡ before → Starts P before → Starts P now
starts_again P before now is each image left = each image (subst (λ d. IsCrashImage d image) is left)

-- an image that begins as the file did before it was filled is fresh
kept_fresh : (bytes image : List ℕ) (start : ℕ) → CanFill bytes start → start ≤ length image → ((i : ℕ) → i < start → slice_index image i ≡ slice_index bytes i) → is_fresh image ≡ true
kept_fresh bytes image start fill long same = elim fill.head [
  | inl zeroed ↦ fresh_zero image (same 0 (omega (arith, fill.kept)) ∙ zeroed.1)
  | inr magical ↦ fresh_magic image (omega (arith, magical.0, long))
      (stands_same bytes image 1 7 magic (λ t lt. same (1 + t) (omega (arith, lt, magical.0))) ∙ magical.1)
      (λ is. magical.2 (sym (same 0 (omega (arith, fill.kept))) ∙ is))
]

module _ (P : Label) (d0 : DiskState) (start : ℕ) (written : List ℕ) (can : CanMake P d0 start written) where
  pub fill_starts : Starts P d0
  fill_starts image left = inl (kept_fresh d0.bytes image start can.fill (omega (arith, settled_length d0 image can.settled left, can.fill.within)) (λ i lt. settled_image d0 image can.settled left i (omega (arith, lt, can.fill.within))))

  pub filled : (d1 : DiskState) → MissedWrite start (length written) d0 d1 ⊎ (d1 ≡ d0) → Starts P d1
  filled d1 (inr is) image left = starts_again P d0 d1 is fill_starts image left
  filled d1 (inl missed) image left =
      let below = missed_below start (length written) d0 d1 image can.settled missed left in
      inl (kept_fresh d0.bytes image start can.fill (omega (arith, below.no_shorter, can.fill.within)) (λ i lt. below.same i (omega (arith, lt, can.fill.within)) lt))

  module _ (d1 d2 : DiskState) (wrote : Wrote start written d0 d1) (synced : Synced d1 d2) where
    settled2 : IsSettled d2
    settled2 = synced_settled d1 d2 synced

    size2 : 64 + 17 * slots_of (new_form P 0) ≤ length d2.bytes
    size2 = let size : length d2.bytes ≡ length d1.bytes = ap length synced.bytes in omega (arith, size, wrote.size, can.ends)

    magic_is : stands_at d0.bytes 1 7 magic ≡ true → (t : ℕ) → t < 7 → slice_index d0.bytes (1 + t) ≡ slice_index can.file (1 + t)
    magic_is stands t lt =
        eqb-true _ _ (below_at 7 (λ i. slice_index d0.bytes (1 + i) == slice_index magic i) stands t lt)
        ∙ eqb-true _ _ (below_at 7 (λ j. slice_index magic j == slice_index (magic_and_version 2) j) refl t lt)
        ∙ sym (eqb-true _ _ (below_at 11 (λ i. slice_index can.file (1 + i) == slice_index (magic_and_version 2) i) can.made.version t (omega (arith, lt))))

    old_byte : (i : ℕ) → 1 ≤ i → i < start → slice_index d0.bytes i ≡ slice_index can.file i
    old_byte i ge lt = elim can.fill.head [
      | inl zeroed ↦ absurd (omega (arith, zeroed.0, ge, lt))
      | inr magical ↦ ap (λ (j : ℕ). slice_index d0.bytes j) (omega (arith, ge)) ∙ magic_is magical.1 (i - 1) (omega (arith, ge, lt, magical.0)) ∙ ap (λ (j : ℕ). slice_index can.file j) (omega (arith, ge))
    ]

    same2 : (i : ℕ) → 1 ≤ i → i < 64 + 17 * slots_of (new_form P 0) → slice_index d2.bytes i ≡ slice_index can.file i
    same2 i ge lt = ap (λ (xs : List ℕ). slice_index xs i) synced.bytes ∙ elim (cases_lt i start) [
      | inl less ↦ wrote.outside i (inl less) ∙ old_byte i ge less
      | inr more ↦ ap (λ (j : ℕ). slice_index d1.bytes j) (omega (arith, more)) ∙ wrote.inside (i - start) (omega (arith, more, lt, can.ends)) ∙ can.written_is (i - start) (omega (arith, more, lt, can.ends)) ∙ ap (λ (j : ℕ). slice_index can.file j) (omega (arith, more))
    ]

    made2 : IsMade P d2.bytes
    made2 = made_copied P can.file d2.bytes can.made size2 same2

    pub fill_synced : Starts P d2
    fill_synced image left = made_start P image (made_copied P d2.bytes image made2 (omega (arith, settled_length d2 image settled2 left, size2)) (λ i ge lt. settled_image d2 image settled2 left i (omega (arith, lt, size2))))

    pub gate_written : (d3 : DiskState) → MissedWrite 0 1 d2 d3 ⊎ (d3 ≡ d2) → Starts P d3
    gate_written d3 (inr is) image left = starts_again P d2 d3 is fill_synced image left
    gate_written d3 (inl missed) image left =
        let leaves = missed_image 0 1 d2 d3 image settled2 (omega (arith, size2)) missed left in
        made_start P image (made_copied P d2.bytes image made2 (omega (arith, leaves.size, size2)) (λ i ge lt. leaves.same i (omega (arith, lt, size2)) (inr (omega (arith, ge)))))

    module _ (d3 d4 : DiskState) (opened : Wrote 0 (165 ∷ []) d2 d3) (synced4 : Synced d3 d4) where
      pub settled4 : IsSettled d4
      settled4 = synced_settled d3 d4 synced4

      size4 : length d4.bytes ≡ length d2.bytes
      size4 = ap length synced4.bytes ∙ omega (arith, opened.size, size2)

      made4 : IsMade P d4.bytes
      made4 = made_copied P d2.bytes d4.bytes made2 (omega (arith, size4, size2)) (λ i ge lt. ap (λ (xs : List ℕ). slice_index xs i) synced4.bytes ∙ opened.outside i (inr (omega (arith, ge))))

      pub made_last : Records P no_entry d4.bytes
      made_last = made_journal P d4.bytes made4
          (ap (λ (xs : List ℕ). slice_index xs 0) synced4.bytes ∙ opened.inside 0 (omega arith))

      pub made_new : IsNew P d4
      made_new = record { settled = settled4; records = made_last; form = made_form P d4.bytes made4; gates = made4.gates }

      pub made_starts : Starts P d4
      made_starts image left = inr (all_settled P no_entry d4 image settled4 made_last left)

-- a file of no byte or one, and its first byte made 0
module _ (P : Label) (d0 : DiskState) (settled : IsSettled d0) (short : length d0.bytes ≤ 1) where
  pub short_starts : Starts P d0
  short_starts image left = inl (fresh_short image (omega (arith, settled_length d0 image settled left, short)))

  pub zeroed : (d1 : DiskState) → MissedWrite 0 1 d0 d1 ⊎ (d1 ≡ d0) → Starts P d1
  zeroed d1 (inr is) image left = starts_again P d0 d1 is short_starts image left
  zeroed d1 (inl missed) image left = inl (fresh_short image (omega (arith, left.no_longer, missed.no_longer, short)))

  module _ (d1 d2 : DiskState) (wrote : Wrote 0 (0 ∷ []) d0 d1) (synced : Synced d1 d2) where
    pub zero_settled : IsSettled d2
    zero_settled = synced_settled d1 d2 synced

    pub zero_fill : CanFill d2.bytes 1
    zero_fill = record {
      kept = omega arith;
      within = let size : length d2.bytes ≡ length d1.bytes = ap length synced.bytes in omega (arith, size, wrote.size);
      head = inl (refl, ap (λ (xs : List ℕ). slice_index xs 0) synced.bytes ∙ wrote.inside 0 (omega arith));
    }

    pub zero_synced : Starts P d2
    zero_synced image left = inl (kept_fresh d2.bytes image 1 zero_fill (omega (arith, settled_length d2 image zero_settled left, zero_fill.within)) (λ i lt. settled_image d2 image zero_settled left i (omega (arith, lt, zero_fill.within))))
