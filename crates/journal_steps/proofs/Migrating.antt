-- The images after each call of a migration.
use Rattle.std.proofs.Common.{◌≡◌, ◌⊎◌, inl, inr, ℕ, ◌+◌, ◌*◌, ◌<◌, ◌≤◌, true, false, List, [], ◌∷◌, ◌++◌, length, get_or, slice_index, refl, sym, ◌∙◌, ap, subst, arith, lit<}
use Rattle.std.specs.Prelude.{◌==◌, Bool, not, ◌&&◌, ◌||◌, nat_le, replicate, if◌then◌else◌}
use Rattle.std.proofs.lemmas.Bool.{cases_eq, cases_lt, and_parts, and_from, or_cases, both_ways, le-leb, eq-eqb, eqb-true, ne_eqb}
use Rattle.disk_model.specs.Disk.{DiskState, IsCrashImage, IsSettled, Wrote, MissedWrite, Synced}
use Rattle.flash_plan.specs.declared.outcome.Entry.{Entry}
use Rattle.journal_model.specs.Records.{Label, Form, total, slots_of, end_of, old_form, new_form, behind, form_of, is_new, is_migrated, gate_at, body_at, magic_and_version, is_header, is_new_header, is_headed, says_digest, says_slots, counts, has_second, is_filled, is_journal, is_open, has}
use Rattle.journal_steps.specs.Append.{Records}
use Rattle.journal_steps.specs.Read.{IsFront, limit_of}
use Rattle.journal_steps.specs.Move.{AllRecord, IsOld, IsSecond, CanMove, HasMoved}
use Rattle.journal_steps.proofs.Images.{settled_image, settled_length, synced_settled, missed_image, missed_below}
use Rattle.journal_steps.proofs.Made.{headed_long, new_version}
use Rattle.journal_steps.proofs.Same.{Agrees, filled_same, has_same, header_same, new_header_same, digest_same, slots_same, filled_of, long_of}
use Rattle.journal_steps.proofs.Slots.{below_at}
use Rattle.journal_steps.proofs.Settled.{all_settled}
use Rattle.journal_steps.proofs.Wider.{Moved, has_moved, filled_moved, named_wider, get_wider}
use Rattle.std.proofs.lemmas.List.{get_or_past}

pub records_again : (P : Label) (R : Entry → Bool) (before now : DiskState) → now ≡ before → AllRecord P R before → AllRecord P R now
records_again P R before now is each image left = each image (subst (λ d. IsCrashImage d image) is left)

-- what stands in front of a version 1 file, but for byte 63
record IsFirst (P : Label) (image : List ℕ) : Type 0 where
  long : 64 ≤ length image
  header : is_header image 0 1 ≡ true
  digest : says_digest P image 0 ≡ true
  count : says_slots image 0 (slots_of (old_form P)) ≡ true

-- byte 8 of a header is its version
version_of : (image : List ℕ) (v : ℕ) → is_header image 0 v ≡ true → slice_index image 8 ≡ slice_index (magic_and_version v) 7
version_of image v is = eqb-true _ _ (below_at 11 (λ i. slice_index image (1 + i) == slice_index (magic_and_version v) i) (and_parts _ _ (and_parts _ _ is).0).1 7 (lit< tt))

old_version : (image : List ℕ) → is_header image 0 1 ≡ true → is_new image ≡ false
old_version image is = ne_eqb _ _ (λ two. omega (arith, two, version_of image 1 is))

pub old_form_of : (P : Label) (image : List ℕ) → IsOld image → form_of P image ≡ old_form P
old_form_of P image old = λ i. if old.version i then new_form P 0 else (if old.stays i then new_form P (behind P) else old_form P)

first_of : (P : Label) (image : List ℕ) → is_journal P image ≡ true → is_new image ≡ false → IsFirst P image
first_of P image journal old =
    let parts = and_parts _ _ journal in
    let front = and_parts _ _ parts.0 in
    let standing = and_parts _ _ parts.1 in
    let counted = and_parts _ _ standing.0 in
    record {
      long = headed_long image front.0;
      header = elim (or_cases (is_header image 0 1) (is_new_header image 0) (and_parts _ _ front.0).1) [
        | inl one ↦ one
        | inr two ↦ absurd (both_ways _ old (new_version image (and_parts _ _ (and_parts _ _ (and_parts _ _ two).0).0).1))
      ];
      digest = front.1;
      count = (λ i. says_slots image 0 (if sym old i then slots_of (new_form P 0) else slots_of (old_form P))) ∙ counted.0;
    }

or_first : (x y : Bool) → x ≡ true → (x || y) ≡ true
or_first x y is = rw is refl

module _ (P : Label) (image : List ℕ) (first : IsFirst P image) where
  is_old : is_new image ≡ false
  is_old = old_version image first.header

  headed : is_headed image ≡ true
  headed = and_from _ _ (le-leb 64 (length image) first.long) (or_first _ _ first.header)

  counted : counts P image ≡ true
  counted = (λ i. says_slots image 0 (if is_old i then slots_of (new_form P 0) else slots_of (old_form P))) ∙ first.count

  -- a file that is not migrated
  old_journal : (slice_index image 63 ≡ 165 → ⊥) → is_filled (old_form P) image ≡ true → is_journal P image ≡ true
  old_journal other filled = and_from _ _ (and_from _ _ headed first.digest) (and_from _ _ (and_from _ _ counted second) filled_there)
    where
      stays : is_migrated image ≡ false
      stays = (λ i. not (is_old i) && slice_index image 63 == 165) ∙ ne_eqb _ _ other

      second : has_second P image ≡ true
      second = λ i. not (stays i) || (is_new_header image (behind P) && says_digest P image (behind P) && says_slots image (behind P) (slots_of (new_form P 0)))

      filled_there : is_filled (form_of P image) image ≡ true
      filled_there = (λ i. is_filled (old_form_of P image (record { version = is_old; stays = stays }) i) image) ∙ filled

  -- one that is
  module _ (last : slice_index image 63 ≡ 165) where
    migrated : is_migrated image ≡ true
    migrated = (λ i. not (is_old i) && slice_index image 63 == 165) ∙ eq-eqb _ _ last

    moved_form : form_of P image ≡ new_form P (behind P)
    moved_form = λ i. if is_old i then new_form P 0 else (if migrated i then new_form P (behind P) else old_form P)

    moved_journal : is_new_header image (behind P) ≡ true → says_digest P image (behind P) ≡ true → says_slots image (behind P) (slots_of (new_form P 0)) ≡ true → is_filled (new_form P (behind P)) image ≡ true → is_journal P image ≡ true
    moved_journal header digest count filled = and_from _ _ (and_from _ _ headed first.digest) (and_from _ _ (and_from _ _ counted second) ((λ i. is_filled (moved_form i) image) ∙ filled))
      where
        second : has_second P image ≡ true
        second = (λ i. not (migrated i) || (header i && digest i && count i))

module _ (P : Label) (R : Entry → Bool) (d0 : DiskState) (at : ℕ) (second : List ℕ) (can : CanMove P R d0 at second) where
  abbrev old : List ℕ
  old = d0.bytes

  abbrev E : ℕ
  E = behind P

  form : form_of P old ≡ old_form P
  form = old_form_of P old can.old

  long : E ≤ length old
  long = subst (λ (F : Form). end_of F ≤ length old) form (long_of P old can.holds.journal)

  filled : is_filled (old_form P) old ≡ true
  filled = (λ i. is_filled (sym form i) old) ∙ filled_of P old can.holds.journal

  entries : (x : Entry) → has (old_form P) old x ≡ R x
  entries x = (λ i. has (sym form i) old x) ∙ can.holds.entries x

  last_stays : slice_index old 63 ≡ 165 → ⊥
  last_stays is = both_ways _ can.old.stays ((λ i. not (can.old.version i) && slice_index old 63 == 165) ∙ eq-eqb _ _ is)

  -- below the second journal all is as before, but for byte 63
  record IsSame (image : List ℕ) : Type 0 where
    size : E ≤ length image
    below : (i : ℕ) → i < E → (i ≡ 63 → ⊥) → slice_index image i ≡ slice_index old i

  module _ (image : List ℕ) (same : IsSame image) where
    front : (i : ℕ) → i < 63 → slice_index image (0 + i) ≡ slice_index old (0 + i)
    front i lt = same.below (0 + i) (omega (arith, lt)) (λ is. omega (arith, is, lt))

    first : IsFirst P image
    first = let there = first_of P old can.holds.journal can.old.version in record {
      long = omega (arith, same.size);
      header = header_same P old image 0 0 front 1 ∙ there.header;
      digest = digest_same P old image 0 0 front ∙ there.digest;
      count = slots_same P old image 0 0 front (slots_of (old_form P)) ∙ there.count;
    }

    all : (k : ℕ) → k < slots_of (old_form P) → Agrees (old_form P) old image k
    all k lt = record {
      gate = ap (λ (x : ℕ). x == 165) (same.below (gate_at (old_form P) k) (omega (arith, lt)) (λ is. omega (arith, is)));
      body = λ is t tlt. same.below (body_at (old_form P) k + t) (omega (arith, lt, tlt)) (λ is. omega (arith, is));
    }

    -- a file whose byte 63 is not A5 records what it did
    old_records : (slice_index image 63 ≡ 165 → ⊥) → Records P R image
    old_records other = record {
      journal = old_journal P image first other (filled_same (old_form P) old image all (λ i. enough i) ∙ filled);
      entries = λ x. (λ i. has (form_there i) image x) ∙ has_same (old_form P) old image all x ∙ entries x;
    }
      where
        enough : nat_le (end_of (old_form P)) (length image) ≡ nat_le (end_of (old_form P)) (length old)
        enough = le-leb (end_of (old_form P)) (length image) same.size ∙ sym (le-leb (end_of (old_form P)) (length old) long)

        stays : is_migrated image ≡ false
        stays = (λ i. not (is_old P image first i) && slice_index image 63 == 165) ∙ ne_eqb _ _ other

        form_there : form_of P image ≡ old_form P
        form_there = old_form_of P image (record { version = is_old P image first; stays = stays })

    -- behind it stands the second journal
    module _ (behind_it : (i : ℕ) → i < 64 + 17 * slots_of (new_form P 0) → slice_index image (E + i) ≡ slice_index second i) (enough : limit_of P ≤ length image) (last : slice_index image 63 ≡ 165) where
      at_second : (i : ℕ) → i < 63 → slice_index image (E + i) ≡ slice_index second (0 + i)
      at_second i lt = behind_it i (omega (arith, lt)) ∙ ap (λ (j : ℕ). slice_index second j) (omega arith)

      moved : Moved (old_form P) (new_form P E) old image
      moved = record {
        gate = λ j lt. ap (λ (x : ℕ). x == 165) (behind_it (64 + j) (omega (arith, lt)) ∙ can.written.gates j lt ∙ ap (λ (i : ℕ). slice_index old i) (omega arith));
        body = λ j t lt tlt. ap (λ (i : ℕ). slice_index image i) (omega arith) ∙ behind_it (64 + slots_of (new_form P 0) + (16 * j + t)) (omega (arith, lt, tlt))
            ∙ can.written.bodies (16 * j + t) (omega (arith, lt, tlt)) ∙ ap (λ (i : ℕ). slice_index old i) (omega arith);
        closed = λ j le lt. ne_eqb _ _ (λ is. omega (arith, is, behind_it (64 + j) (omega (arith, lt)) ∙ can.written.closed j le lt));
      }

      moved_records : Records P R image
      moved_records = record {
        journal = moved_journal P image first last
            (new_header_same P second image 0 E at_second (behind_it 63 (omega arith) ∙ ap (λ (j : ℕ). slice_index second j) (omega arith)) ∙ can.written.header)
            (digest_same P second image 0 E at_second ∙ can.written.digest)
            (slots_same P second image 0 E at_second (slots_of (new_form P 0)) ∙ can.written.count)
            (filled_moved (old_form P) (new_form P E) old image moved (total P.segments) (omega arith) refl (named_wider P E) enough filled);
        entries = λ x. (λ i. has (moved_form P image first last i) image x) ∙ has_moved (old_form P) (new_form P E) old image moved (total P.segments) (omega arith) x ∙ entries x;
      }

  pub move_starts : AllRecord P R d0
  move_starts image left = all_settled P R d0 image can.settled can.holds left

  pub second_written : (d1 : DiskState) → MissedWrite at (length second) d0 d1 ⊎ (d1 ≡ d0) → AllRecord P R d1
  second_written d1 (inr is) image left = records_again P R d0 d1 is move_starts image left
  second_written d1 (inl missed) image left =
      let below = missed_below E (length second) d0 d1 image can.settled (subst (λ (k : ℕ). MissedWrite k (length second) d0 d1) can.place missed) left in
      old_records image (record { size = omega (arith, below.no_shorter, long); below = λ i lt ne. below.same i (omega (arith, lt, long)) lt })
      (λ is. last_stays (sym (below.same 63 (omega (arith, long)) (omega arith)) ∙ is))

  module _ (d1 d2 : DiskState) (wrote_at : Wrote at second d0 d1) (synced : Synced d1 d2) where
    wrote : Wrote E second d0 d1
    wrote = subst (λ (k : ℕ). Wrote k second d0 d1) can.place wrote_at

    settled2 : IsSettled d2
    settled2 = synced_settled d1 d2 synced

    size2 : limit_of P ≤ length d2.bytes
    size2 = let size : length d2.bytes ≡ length d1.bytes = ap length synced.bytes in omega (arith, size, wrote.size, can.written.size)

    below2 : (i : ℕ) → i < E → slice_index d2.bytes i ≡ slice_index old i
    below2 i lt = ap (λ (xs : List ℕ). slice_index xs i) synced.bytes ∙ wrote.outside i (inl lt)

    behind2 : (i : ℕ) → i < 64 + 17 * slots_of (new_form P 0) → slice_index d2.bytes (E + i) ≡ slice_index second i
    behind2 i lt = ap (λ (xs : List ℕ). slice_index xs (E + i)) synced.bytes ∙ wrote.inside i (omega (arith, lt, can.written.size))

    -- an image that differs from d2 at byte 63 alone
    by_last : (image : List ℕ) → length image ≡ length d2.bytes → ((i : ℕ) → i < length d2.bytes → (i ≡ 63 → ⊥) → slice_index image i ≡ slice_index d2.bytes i) → Records P R image
    by_last image size same = elim (cases_eq (slice_index image 63) 165) [
      | inr other ↦ old_records image around other
      | inl last ↦ moved_records image around behind_it (omega (arith, size, size2)) last
    ]
      where
        around : IsSame image
        around = record { size = omega (arith, size, size2); below = λ i lt ne. same i (omega (arith, lt, size2)) ne ∙ below2 i lt }

        behind_it : (i : ℕ) → i < 64 + 17 * slots_of (new_form P 0) → slice_index image (E + i) ≡ slice_index second i
        behind_it i lt = same (E + i) (omega (arith, lt, size2)) (λ is. omega (arith, is)) ∙ behind2 i lt

    pub second_synced : AllRecord P R d2
    second_synced image left = by_last image (settled_length d2 image settled2 left) (λ i lt ne. settled_image d2 image settled2 left i lt)

    pub last_written : (d3 : DiskState) → MissedWrite 63 1 d2 d3 ⊎ (d3 ≡ d2) → AllRecord P R d3
    last_written d3 (inr is) image left = records_again P R d2 d3 is second_synced image left
    last_written d3 (inl missed) image left =
        let leaves = missed_image 63 1 d2 d3 image settled2 (omega (arith, size2)) missed left in
        by_last image leaves.size (λ i lt ne. leaves.same i lt (side i 63 ne))
      where
        side : (a b : ℕ) → (a ≡ b → ⊥) → (a < b) ⊎ (b + 1 ≤ a)
        side a b ne = grind (arith, ne)

    module _ (d3 d4 : DiskState) (opened : Wrote 63 (165 ∷ []) d2 d3) (synced4 : Synced d3 d4) where
      settled4 : IsSettled d4
      settled4 = synced_settled d3 d4 synced4

      size4 : length d4.bytes ≡ length d2.bytes
      size4 = ap length synced4.bytes ∙ omega (arith, opened.size, size2)

      side : (a b : ℕ) → (a ≡ b → ⊥) → (a < b) ⊎ (b + 1 ≤ a)
      side a b ne = grind (arith, ne)

      same4 : (i : ℕ) → (i ≡ 63 → ⊥) → slice_index d4.bytes i ≡ slice_index d2.bytes i
      same4 i ne = ap (λ (xs : List ℕ). slice_index xs i) synced4.bytes ∙ opened.outside i (side i 63 ne)

      last4 : slice_index d4.bytes 63 ≡ 165
      last4 = ap (λ (xs : List ℕ). slice_index xs 63) synced4.bytes ∙ ap (λ (i : ℕ). slice_index d3.bytes i) (omega arith) ∙ opened.inside 0 (omega arith)

      around4 : IsSame d4.bytes
      around4 = record { size = omega (arith, size4, size2); below = λ i lt ne. same4 i ne ∙ below2 i lt }

      behind4 : (i : ℕ) → i < 64 + 17 * slots_of (new_form P 0) → slice_index d4.bytes (E + i) ≡ slice_index second i
      behind4 i lt = same4 (E + i) (λ is. omega (arith, is)) ∙ behind2 i lt

      holds4 : Records P R d4.bytes
      holds4 = moved_records d4.bytes around4 behind4 (omega (arith, size4, size2)) last4

      pub last_synced : AllRecord P R d4
      last_synced image left = all_settled P R d4 image settled4 holds4 left

      slots4 : Moved (old_form P) (new_form P E) old d4.bytes
      slots4 = moved d4.bytes around4 behind4 (omega (arith, size4, size2)) last4

      pub has_moved_on : HasMoved P R old d4
      has_moved_on = record {
        settled = settled4;
        holds = holds4;
        form = moved_form P d4.bytes (first d4.bytes around4) last4;
        same = slots4.gate;
        closed = slots4.closed;
      }

-- the gates of the wider table
pub gates_moved : (P : Label) (R : Entry → Bool) (old : List ℕ) (disk : DiskState) (gates : List Bool) → HasMoved P R old disk → length gates ≡ slots_of (old_form P)
    → ((j : ℕ) → j < slots_of (old_form P) → is_open (old_form P) old j ≡ get_or gates j false)
    → (j : ℕ) → j < slots_of (new_form P 0) → is_open (new_form P (behind P)) disk.bytes j ≡ get_or (gates ++ replicate (total P.segments) false) j false
gates_moved P R old disk gates moved size was j lt = elim (cases_lt j (slots_of (old_form P))) [
  | inl within ↦ moved.same j within ∙ was j within ∙ sym (get_wider gates (total P.segments) j)
  | inr past ↦ moved.closed j past lt ∙ sym (get_wider gates (total P.segments) j ∙ get_or_past gates j false (omega (arith, past, size)))
]

-- what is made from the first bytes of a file is made for the file
pub second_front : (P : Label) (image front second : List ℕ) → IsFront (limit_of P) image front → IsSecond P front second → IsSecond P image second
second_front P image front second is made = record {
  size = made.size;
  header = made.header;
  digest = made.digest;
  count = made.count;
  gates = λ j lt. made.gates j lt ∙ is.same (64 + j) (omega (arith, lt));
  closed = made.closed;
  bodies = λ i lt. made.bodies i lt ∙ is.same (64 + slots_of (old_form P) + i) (omega (arith, lt));
}
