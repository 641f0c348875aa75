-- What the images record after each call of the append of a group.
use Rattle.std.proofs.Common.{◌≡◌, ◌⊎◌, inl, inr, ℕ, ◌+◌, ◌-◌, ◌*◌, ◌<◌, ◌≤◌, true, false, List, length, refl, sym, ◌∙◌, ap, subst, arith}
use Rattle.std.specs.Prelude.{◌==◌, ◌&&◌, ◌||◌, Bool, slice_index}
use Rattle.std.proofs.lemmas.Bool.{cases_lt, both_ways, eq-eqb}
use Rattle.disk_model.specs.Disk.{DiskState, IsCrashImage, IsSettled, Wrote, MissedWrite, Synced}
use Rattle.journal_steps.proofs.Images.{settled_image, settled_length, missed_image, synced_settled}
use Rattle.flash_plan.specs.declared.outcome.Entry.{Entry}
use Rattle.journal_model.specs.Records.{Label, Form, slots_of, end_of, gate_at, body_at, is_open, body_of}
use Rattle.journal_steps.specs.Append.{is_entry, and_some, HasSome, AddsSome, CanAppendGroup, HasAddedGroup}
use Rattle.journal_steps.proofs.Slots.{none_below}
use Rattle.journal_steps.proofs.Same.{Agrees, some_same}
use Rattle.journal_steps.proofs.Settled.{itself}
use Rattle.journal_steps.proofs.Group.{and_open, IsGroup, IsRun, group_more, same_records, same_form, retold, or_none, long_in}

pub adds_again : (P : Label) (R : Entry → Bool) (at : ℕ → Entry) (m : ℕ) (before now : DiskState) → now ≡ before → AddsSome P R at m before → AddsSome P R at m now
adds_again P R at m before now is each image left = each image (subst (λ d. IsCrashImage d image) is left)

module _ (P : Label) (F : Form) (R : Entry → Bool) (d0 : DiskState) (k : ℕ) (at : ℕ → Entry) (m : ℕ) (bodies gates : List ℕ) (can : CanAppendGroup P F R d0 k at m bodies gates) where
  abbrev old : List ℕ
  old = d0.bytes

  long : end_of F ≤ length old
  long = long_in P F R old can.form can.holds

  group : IsGroup P F R old k at m
  group = record { within = can.within; form = can.form; holds = can.holds; closed = can.closed; named = can.named; fresh = can.fresh; differ = can.differ; prepared = can.prepared }

  -- all but the gates and bodies of the run is as before
  record IsAround (image : List ℕ) : Type 0 where
    pub size : length image ≡ length old
    pub same : (i : ℕ) → i < length old → (i < gate_at F k) ⊎ (gate_at F k + m ≤ i) → (i < body_at F k) ⊎ (body_at F k + 16 * m ≤ i) → slice_index image i ≡ slice_index old i

  front : (image : List ℕ) → IsAround image → (i : ℕ) → i < F.at + 64 → slice_index image i ≡ slice_index old i
  front image around i lt = around.same i (omega (arith, long, lt)) (inl (omega (arith, lt))) (inl (omega (arith, lt)))

  others : (image : List ℕ) → IsAround image → (j : ℕ) → j < slots_of F → (j < k) ⊎ (k + m ≤ j) → Agrees F old image j
  others image around j lt side = record {
    gate = ap (λ (b : ℕ). b == 165) (around.same (gate_at F j) (omega (arith, long, lt)) (elim side [ inl less ↦ inl (omega (arith, less)) | inr more ↦ inr (omega (arith, more)) ]) (inl (omega (arith, lt))));
    body = λ is t tlt. around.same (body_at F j + t) (omega (arith, long, lt, tlt)) (inr (omega (arith, can.within))) (elim side [ inl less ↦ inl (omega (arith, less, tlt)) | inr more ↦ inr (omega (arith, more)) ]);
  }

  -- with the gates of the run closed, the same is recorded
  shut_some : (image : List ℕ) → IsAround image → ((j : ℕ) → j < m → is_open F image (k + j) ≡ false) → HasSome P R at m image
  shut_some image around shut = record {
    picked = λ j. false;
    records = retold P R (and_some R (λ j. false) at m) image (λ x. sym ((λ i. R x || none_below m (λ j. false && is_entry (at j) x) (λ j lt. refl) i) ∙ or_none (R x)))
        (same_records P F R old image can.form can.holds around.size (front image around) all);
  }
    where
      inside : (j i : ℕ) → j ≡ k + i → i < m → Agrees F old image j
      inside j i is lt = subst (λ (n : ℕ). Agrees F old image n) (sym is) (record { gate = shut i lt ∙ sym (can.closed i lt); body = λ opened. absurd (both_ways _ (can.closed i lt) opened) })

      all : (j : ℕ) → j < slots_of F → Agrees F old image j
      all j lt = elim (cases_lt j k) [
        | inl less ↦ others image around j lt (inl less)
        | inr ge ↦ elim (cases_lt j (k + m)) [
          | inl within ↦ inside j (j - k) (omega (arith, ge)) (omega (arith, ge, within))
          | inr past ↦ others image around j lt (inr past)
        ]
      ]

  shut_old : (image : List ℕ) → ((i : ℕ) → i < length old → (i < body_at F k) ⊎ (body_at F k + 16 * m ≤ i) → slice_index image i ≡ slice_index old i) → (j : ℕ) → j < m → is_open F image (k + j) ≡ false
  shut_old image same j lt = ap (λ (b : ℕ). b == 165) (same (gate_at F (k + j)) (omega (arith, long, can.within, lt)) (inl (omega (arith, can.within, lt)))) ∙ can.closed j lt

  unchanged : (image : List ℕ) → length image ≡ length old → ((i : ℕ) → i < length old → (i < body_at F k) ⊎ (body_at F k + 16 * m ≤ i) → slice_index image i ≡ slice_index old i) → HasSome P R at m image
  unchanged image size same = shut_some image (record { size = size; same = λ i lt _ side. same i lt side }) (shut_old image same)

  pub group_start : AddsSome P R at m d0
  group_start image left = unchanged image (settled_length d0 image can.settled left) (λ i lt side. settled_image d0 image can.settled left i lt)

  pub bodies_written : (d1 : DiskState) → MissedWrite (body_at F k) (length bodies) d0 d1 ⊎ (d1 ≡ d0) → AddsSome P R at m d1
  bodies_written d1 (inr is) image left = adds_again P R at m d0 d1 is group_start image left
  bodies_written d1 (inl missed) image left =
      let leaves = missed_image (body_at F k) (16 * m) d0 d1 image can.settled (omega (arith, long, can.within)) (subst (λ (n : ℕ). MissedWrite (body_at F k) n d0 d1) can.bodies_size missed) left in
      unchanged image leaves.size leaves.same

  module _ (d1 d2 : DiskState) (wrote : Wrote (body_at F k) bodies d0 d1) (synced : Synced d1 d2) where
    settled2 : IsSettled d2
    settled2 = synced_settled d1 d2 synced

    size2 : length d2.bytes ≡ length old
    size2 = ap length synced.bytes ∙ omega (arith, wrote.size, long, can.within, can.bodies_size)

    same2 : (i : ℕ) → (i < body_at F k) ⊎ (body_at F k + 16 * m ≤ i) → slice_index d2.bytes i ≡ slice_index old i
    same2 i side = ap (λ (xs : List ℕ). slice_index xs i) synced.bytes ∙ wrote.outside i (subst (λ (n : ℕ). (i < body_at F k) ⊎ (body_at F k + n ≤ i)) (sym can.bodies_size) side)

    body2 : (j t : ℕ) → j < m → t < 16 → slice_index d2.bytes (body_at F (k + j) + t) ≡ slice_index (body_of (at j)) t
    body2 j t lt tlt = ap (λ (xs : List ℕ). slice_index xs (body_at F (k + j) + t)) synced.bytes ∙ ap (λ (i : ℕ). slice_index d1.bytes i) (omega arith) ∙ wrote.inside (16 * j + t) (omega (arith, can.bodies_size, lt, tlt)) ∙ can.spelt j t lt tlt

    pub bodies_synced : AddsSome P R at m d2
    bodies_synced image left = unchanged image (settled_length d2 image settled2 left ∙ size2) (λ i lt side. settled_image d2 image settled2 left i (omega (arith, lt, size2)) ∙ same2 i side)

    -- an image that differs from d2 at the gates of the run alone
    by_gates : (image : List ℕ) → length image ≡ length d2.bytes → ((i : ℕ) → i < length d2.bytes → (i < gate_at F k) ⊎ (gate_at F k + m ≤ i) → slice_index image i ≡ slice_index d2.bytes i) → IsRun F old image k at m
    by_gates image size same = record {
      size = size ∙ size2;
      front = front image around;
      others = others image around;
      bodies = λ j t lt tlt. same (body_at F (k + j) + t) (omega (arith, size2, long, can.within, lt, tlt)) (inr (omega (arith, can.within))) ∙ body2 j t lt tlt;
    }
      where
        around : IsAround image
        around = record { size = size ∙ size2; same = λ i lt o side. same i (omega (arith, lt, size2)) o ∙ same2 i side }

    some_of : (image : List ℕ) → IsRun F old image k at m → HasSome P R at m image
    some_of image run = record { picked = λ j. is_open F image (k + j); records = group_more P F R old k at m group image run }

    pub gates_written : (d3 : DiskState) → MissedWrite (gate_at F k) (length gates) d2 d3 ⊎ (d3 ≡ d2) → AddsSome P R at m d3
    gates_written d3 (inr is) image left = adds_again P R at m d2 d3 is bodies_synced image left
    gates_written d3 (inl missed) image left =
        let leaves = missed_image (gate_at F k) m d2 d3 image settled2 (omega (arith, long, size2, can.within)) (subst (λ (n : ℕ). MissedWrite (gate_at F k) n d2 d3) can.gates_size missed) left in
        some_of image (by_gates image leaves.size leaves.same)

    module _ (d3 d4 : DiskState) (opened : Wrote (gate_at F k) gates d2 d3) (synced4 : Synced d3 d4) where
      settled4 : IsSettled d4
      settled4 = synced_settled d3 d4 synced4

      size4 : length d4.bytes ≡ length d2.bytes
      size4 = ap length synced4.bytes ∙ omega (arith, opened.size, size2, long, can.within, can.gates_size)

      reads : (image : List ℕ) → IsCrashImage d4 image → (i : ℕ) → i < length d2.bytes → (i < gate_at F k) ⊎ (gate_at F k + m ≤ i) → slice_index image i ≡ slice_index d2.bytes i
      reads image left i lt side = settled_image d4 image settled4 left i (omega (arith, lt, size4)) ∙ ap (λ (xs : List ℕ). slice_index xs i) synced4.bytes ∙ opened.outside i (subst (λ (n : ℕ). (i < gate_at F k) ⊎ (gate_at F k + n ≤ i)) (sym can.gates_size) side)

      gate : (image : List ℕ) → IsCrashImage d4 image → (j : ℕ) → j < m → is_open F image (k + j) ≡ true
      gate image left j lt = eq-eqb _ _ (settled_image d4 image settled4 left (gate_at F (k + j)) (omega (arith, size4, size2, long, can.within, lt)) ∙ ap (λ (xs : List ℕ). slice_index xs (gate_at F (k + j))) synced4.bytes ∙ ap (λ (i : ℕ). slice_index d3.bytes i) (omega arith) ∙ opened.inside j (omega (arith, lt, can.gates_size)) ∙ can.opens j lt)

      pub gates_synced : AddsSome P R at m d4
      gates_synced image left = some_of image (by_gates image (settled_length d4 image settled4 left ∙ size4) (reads image left))

      pub group_added : HasAddedGroup P F R old k at m d4
      group_added = record {
        settled = settled4;
        holds = retold P (and_open F R d4.bytes k at m) (and_some R (λ j. true) at m) d4.bytes (λ x i. R x || some_same m (λ j. is_open F d4.bytes (k + j) && is_entry (at j) x) (λ j. true && is_entry (at j) x) (λ j lt i2. gate d4.bytes here j lt i2 && is_entry (at j) x) i)
            (group_more P F R old k at m group d4.bytes run);
        form = same_form P F R old d4.bytes can.form can.holds run.size run.front;
        opened = gate d4.bytes here;
        others = λ j lt side. (run.others j lt side).gate;
      }
        where
          here : IsCrashImage d4 d4.bytes
          here = itself d4 settled4

          run : IsRun F old d4.bytes k at m
          run = by_gates d4.bytes (settled_length d4 d4.bytes settled4 here ∙ size4) (reads d4.bytes here)
