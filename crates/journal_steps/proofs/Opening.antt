-- What the images are while a journal is opened.
use Rattle.std.proofs.Common.{◌≡◌, ◌⊎◌, inl, inr, ℕ, ◌+◌, ◌<◌, ◌≤◌, true, false, List, length, refl, sym, ◌∙◌, ap, subst, arith}
use Rattle.std.specs.Prelude.{◌==◌, ◌&&◌, ◌||◌, Bool, nat_le, slice_index}
use Rattle.std.proofs.lemmas.Bool.{and_left}
use Rattle.std.proofs.lemmas.List.{get_or_past}
use Rattle.disk_model.specs.Disk.{DiskState, IsCrashImage, IsSettled, Synced}
use Rattle.journal_steps.proofs.Images.{settled_image, settled_length, synced_settled}
use Rattle.flash_plan.specs.declared.outcome.Entry.{Entry}
use Rattle.journal_model.specs.Records.{Label, form_of, gate_at, body_at, is_fresh, is_journal, records}
use Rattle.journal_steps.specs.Append.{Records}
use Rattle.journal_steps.specs.Make.{Starts, can_open, AllFollow}
use Rattle.journal_steps.specs.Move.{AllRecord}
use Rattle.journal_steps.proofs.Same.{Copies, heads_before, fresh_same, journal_same, records_same}
use Rattle.journal_steps.proofs.Made.{fresh_no_journal}

-- an image of the same bytes
module _ (P : Label) (base image : List ℕ) (size : length image ≡ length base) (same : (i : ℕ) → slice_index image i ≡ slice_index base i) where
  copies : Copies P base image
  copies = record {
    heads = heads_before P base image (form_of P base) refl size (λ i lt. same i);
    all = λ k lt. record { gate = ap (λ (x : ℕ). x == 165) (same (gate_at (form_of P base) k)); body = λ is t tlt. same (body_at (form_of P base) k + t) };
  }

  pub copy_fresh : is_fresh image ≡ is_fresh base
  copy_fresh = fresh_same P base image (λ i lt. same i) (λ i. nat_le (size i) 1) (λ i. nat_le 8 (size i))

  pub copy_records : (e : Entry) → records P image e ≡ records P base e
  copy_records = records_same P base image copies

  pub copy_opens : can_open P image ≡ can_open P base
  copy_opens = λ i. copy_fresh i || journal_same P base image copies i

-- before anything is done
pub follows_itself : (P : Label) (disk : DiskState) → AllFollow P disk disk
follows_itself P disk image left = record { before = image; left = left; entries = λ e. refl; opens = λ is. is }

pub follows_again : (P : Label) (old before now : DiskState) → now ≡ before → AllFollow P old before → AllFollow P old now
follows_again P old before now is each image left = each image (subst (λ d. IsCrashImage d image) is left)

-- an image of a settled disk has its bytes, and nothing past its end
pub settled_same : (disk : DiskState) (image : List ℕ) → IsSettled disk → IsCrashImage disk image → (i : ℕ) → slice_index image i ≡ slice_index disk.bytes i
settled_same disk image settled left i = elim (order i (length disk.bytes)) [
  | inl lt ↦ settled_image disk image settled left i lt
  | inr ge ↦ get_or_past image i 0 (omega (arith, settled_length disk image settled left, ge)) ∙ sym (get_or_past disk.bytes i 0 ge)
]
  where
    order : (a b : ℕ) → (a < b) ⊎ (b ≤ a)
    order a b = grind arith

-- each image of a settled fresh file is fresh
pub fresh_starts : (P : Label) (disk : DiskState) → IsSettled disk → is_fresh disk.bytes ≡ true → Starts P disk
fresh_starts P disk settled fresh image left = inl (copy_fresh P disk.bytes image (settled_length disk image settled left) (settled_same disk image settled left) ∙ fresh)

-- what follows an image that follows
pub follows_on : (P : Label) (old mid now : DiskState) → AllFollow P old mid → AllFollow P mid now → AllFollow P old now
follows_on P old mid now first then image left =
    let there = then image left in
    let before = first there.before there.left in
    record {
      before = before.before;
      left = before.left;
      entries = λ e. there.entries e ∙ before.entries e;
      opens = λ is. there.opens (before.opens is);
    }

-- each image of a settled disk has the bytes that a read gave before
pub follows_synced : (P : Label) (old new : DiskState) → IsCrashImage old old.bytes → Synced old new → AllFollow P old new
follows_synced P old new readable synced image left =
    let settled = synced_settled old new synced in
    let size2 : length image ≡ length old.bytes = settled_length new image settled left ∙ ap length synced.bytes in
    let same : (i : ℕ) → slice_index image i ≡ slice_index old.bytes i = λ i. settled_same new image settled left i ∙ ap (λ (xs : List ℕ). slice_index xs i) synced.bytes in
    record {
      before = old.bytes;
      left = readable;
      entries = copy_records P old.bytes image size2 same;
      opens = λ is. copy_opens P old.bytes image size2 same ∙ is;
    }

-- each image of a file on its way records nothing, as the fresh one did
pub follows_start : (P : Label) (old disk : DiskState) → IsCrashImage old old.bytes → is_fresh old.bytes ≡ true → Starts P disk → AllFollow P old disk
follows_start P old disk readable fresh starts image left = record {
  before = old.bytes;
  left = readable;
  entries = λ e. elim (starts image left) [
    | inl still ↦ and_left _ _ (fresh_no_journal P image still) ∙ sym (and_left _ _ (fresh_no_journal P old.bytes fresh))
    | inr made ↦ (λ i. made.journal i && made.entries e i) ∙ sym (and_left _ _ (fresh_no_journal P old.bytes fresh))
  ];
  opens = λ is. elim (starts image left) [
    | inl still ↦ (λ i. still i || is_journal P image)
    | inr made ↦ (λ i. is_fresh image || made.journal i) ∙ or_true (is_fresh image)
  ];
}
  where
    or_true : (b : Bool) → (b || true) ≡ true
    or_true true = refl
    or_true false = refl

-- what a journal with these entries records
pub records_of : (P : Label) (R : Entry → Bool) (image : List ℕ) → Records P R image → (e : Entry) → R e ≡ records P image e
records_of P R image holds e = sym ((λ i. holds.journal i && holds.entries e i))

or_second : (b c : Bool) → c ≡ true → (b || c) ≡ true
or_second true c is = refl
or_second false c is = is

-- each image of a file records what a read gave before
pub follows_records : (P : Label) (R : Entry → Bool) (old disk : DiskState) → IsCrashImage old old.bytes → Records P R old.bytes → AllRecord P R disk → AllFollow P old disk
follows_records P R old disk readable holds each image left = record {
  before = old.bytes;
  left = readable;
  entries = λ e. sym (records_of P R image (each image left) e) ∙ records_of P R old.bytes holds e;
  opens = λ is. or_second (is_fresh image) _ (each image left).journal;
}
