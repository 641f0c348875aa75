-- How a version 1 file is migrated: a version 2 journal is written behind it, and then its byte 63.
use Rattle.std.specs.Prelude.{◌≡◌, ℕ, ◌+◌, ◌*◌, ◌<◌, ◌≤◌, Bool, true, false, List, ◌++◌, length, slice_index, replicate}
use Rattle.disk_model.specs.Disk.{DiskState, IsCrashImage, IsSettled}
use Rattle.flash_plan.specs.declared.outcome.Entry.{Entry}
use Rattle.journal_model.specs.Records.{Label, total, slots_of, old_form, new_form, behind, form_of, is_new, is_migrated, is_new_header, says_digest, says_slots, is_open}
use Rattle.journal_steps.specs.Append.{Records}
use Rattle.journal_steps.specs.File.{head_bytes}

-- each image is a journal of this plan with these entries
abbrev pub AllRecord : Label → (Entry → Bool) → DiskState → Type 0
AllRecord P R disk = (image : List ℕ) → IsCrashImage disk image → Records P R image

-- a version 1 file that is not migrated
pub record IsOld (image : List ℕ) : Type 0 where
  pub version : is_new image ≡ false
  pub stays : is_migrated image ≡ false

-- a version 2 journal with an open header, the gates and bodies of a version 1 file in its first slots, and closed slots behind them
pub record IsSecond (P : Label) (old second : List ℕ) : Type 0 where
  pub size : length second ≡ 64 + 17 * slots_of (new_form P 0)
  pub header : is_new_header second 0 ≡ true
  pub digest : says_digest P second 0 ≡ true
  pub count : says_slots second 0 (slots_of (new_form P 0)) ≡ true
  pub gates : (j : ℕ) → j < slots_of (old_form P) → slice_index second (64 + j) ≡ slice_index old (64 + j)
  pub closed : (j : ℕ) → slots_of (old_form P) ≤ j → j < slots_of (new_form P 0)
      → slice_index second (64 + j) ≡ 0
  pub bodies : (i : ℕ) → i < 16 * slots_of (old_form P)
      → slice_index second (64 + slots_of (new_form P 0) + i) ≡ slice_index old
      (64 + slots_of (old_form P) + i)

-- the bytes of such a journal, from the gates and the bodies of the old one
abbrev pub second_bytes : Label → List ℕ → List ℕ → List ℕ
second_bytes P gates bodies = head_bytes P 165 ++ replicate 16 0 ++ gates ++ replicate (total P.segments) 0
    ++ bodies ++ replicate (16 * total P.segments) 0

-- a settled version 1 file, and what is to be written behind it, at this place
pub record CanMove (P : Label) (R : Entry → Bool) (disk : DiskState) (at : ℕ) (second : List ℕ) : Type 0 where
  pub place : at ≡ behind P
  pub settled : IsSettled disk
  pub holds : Records P R disk.bytes
  pub old : IsOld disk.bytes
  pub written : IsSecond P disk.bytes second

-- the file is migrated: the slots are those of the version 1 journal, and closed ones behind them
pub record HasMoved (P : Label) (R : Entry → Bool) (old : List ℕ) (disk : DiskState) : Type 0 where
  pub settled : IsSettled disk
  pub holds : Records P R disk.bytes
  pub form : form_of P disk.bytes ≡ new_form P (behind P)
  pub same : (j : ℕ) → j < slots_of (old_form P)
      → is_open (new_form P (behind P)) disk.bytes j ≡ is_open (old_form P) old j
  pub closed : (j : ℕ) → slots_of (old_form P) ≤ j → j < slots_of (new_form P 0)
      → is_open (new_form P (behind P)) disk.bytes j ≡ false
