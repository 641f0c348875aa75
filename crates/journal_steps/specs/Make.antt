-- How a file is made.
use Rattle.std.specs.Prelude.{◌≡◌, ◌⊎◌, ℕ, ◌+◌, ◌*◌, ◌<◌, ◌≤◌, Bool, true, false, ◌||◌, List, length, slice_index, replicate}
use Rattle.disk_model.specs.Disk.{DiskState, IsCrashImage, IsSettled}
use Rattle.flash_plan.specs.declared.outcome.Entry.{Entry}
use Rattle.journal_model.specs.Records.{Label, slots_of, new_form, magic, magic_and_version, stands_at, says_digest, says_slots, is_fresh, is_journal, form_of, records}
use Rattle.journal_steps.specs.Append.{Records}

abbrev pub no_entry : Entry → Bool
no_entry e = false

-- a file on its way: fresh, or a journal of this plan with no entry
abbrev pub IsStart : Label → List ℕ → Type 0
IsStart P image = (is_fresh image ≡ true) ⊎ Records P no_entry image

abbrev pub Starts : Label → DiskState → Type 0
Starts P disk = (image : List ℕ) → IsCrashImage disk image → IsStart P image

-- all but byte 0 is as in a new journal
pub record IsMade (P : Label) (image : List ℕ) : Type 0 where
  pub size : 64 + 17 * slots_of (new_form P 0) ≤ length image
  pub version : stands_at image 1 11 (magic_and_version 2) ≡ true
  pub count : says_slots image 0 (slots_of (new_form P 0)) ≡ true
  pub digest : says_digest P image 0 ≡ true
  pub zeros : stands_at image 48 15 (replicate 15 0) ≡ true
  pub last : slice_index image 63 ≡ 0
  pub gates : (k : ℕ) → k < slots_of (new_form P 0) → slice_index image (64 + k) ≡ 0

-- the next opening takes the image
abbrev pub can_open : Label → List ℕ → Bool
can_open P image = is_fresh image || is_journal P image

-- the image has the entries of some image that a crash of the old disk leaves, and can be opened if that one can
pub record Follows (P : Label) (old : DiskState) (image : List ℕ) : Type 0 where
  pub before : List ℕ
  pub left : IsCrashImage old before
  pub entries : (e : Entry) → records P image e ≡ records P before e
  pub opens : can_open P before ≡ true → can_open P image ≡ true

abbrev pub AllFollow : Label → DiskState → DiskState → Type 0
AllFollow P old disk = (image : List ℕ) → IsCrashImage disk image → Follows P old image

-- the file may be filled from this place: byte 0 is 0, or a closed gate before the magic
pub record CanFill (bytes : List ℕ) (start : ℕ) : Type 0 where
  pub kept : 1 ≤ start
  pub within : start ≤ length bytes
  pub head : (start ≡ 1) × (slice_index bytes 0 ≡ 0) ⊎ (start ≡ 8) × (stands_at bytes 1 7 magic ≡ true)
      × (slice_index bytes 0 ≡ 165 → ⊥)

-- a settled file that may be filled with the bytes of a new journal from this place
pub record CanMake (P : Label) (disk : DiskState) (start : ℕ) (written : List ℕ) : Type 0 where
  pub settled : IsSettled disk
  pub fill : CanFill disk.bytes start
  pub file : List ℕ
  pub made : IsMade P file
  pub ends : start + length written ≡ 64 + 17 * slots_of (new_form P 0)
  pub written_is : (k : ℕ) → k < length written → slice_index written k ≡ slice_index file (start + k)

-- a settled file that is fresh, and the bytes of a new journal
pub record CanStart (P : Label) (disk : DiskState) (file : List ℕ) : Type 0 where
  pub settled : IsSettled disk
  pub fresh : is_fresh disk.bytes ≡ true
  pub made : IsMade P file
  pub size : length file ≡ 64 + 17 * slots_of (new_form P 0)

-- the file is made
pub record IsNew (P : Label) (disk : DiskState) : Type 0 where
  pub settled : IsSettled disk
  pub records : Records P no_entry disk.bytes
  pub form : form_of P disk.bytes ≡ new_form P 0
  pub gates : (k : ℕ) → k < slots_of (new_form P 0) → slice_index disk.bytes (64 + k) ≡ 0
