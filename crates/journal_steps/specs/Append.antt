-- What an append does to the records of the images.
use Rattle.std.specs.Prelude.{◌≡◌, ◌⊎◌, ℕ, ◌+◌, ◌*◌, ◌<◌, ◌≤◌, Bool, true, false, ◌||◌, ◌&&◌, ◌==◌, List, length, slice_index}
use Rattle.disk_model.specs.Disk.{DiskState, IsCrashImage, IsSettled}
use Rattle.flash_plan.specs.declared.outcome.Entry.{Entry}
use Rattle.flash_plan.specs.declared.outcome.Entry.TheVariants.{Begun, Marked, Complete}
use Rattle.flash_plan.specs.Outcomes.{same_entry, with_entry}
use Rattle.flash_base.specs.Numbers.{each_below, some_below}
use Rattle.journal_model.specs.Records.{Label, Form, slots_of, names, body_of, has, is_journal, is_open, form_of}
use Rattle.journal_steps.specs.Read.{is_among}

-- the two entries have one spelling
abbrev pub is_entry : Entry → Entry → Bool
is_entry e x = each_below 16 (λ j. slice_index (body_of e) j == slice_index (body_of x) j)

-- what an entry needs that stands before it
abbrev pub IsPrepared : (Entry → Bool) → Entry → Type 0
IsPrepared R (Begun u) = Unit {0}
IsPrepared R (Marked u s) = R (Begun u) ≡ true
IsPrepared R (Complete u) = R (Begun u) ≡ true

-- the image is a journal of this plan with the entries R
pub record Records (P : Label) (R : Entry → Bool) (image : List ℕ) : Type 0 where
  pub journal : is_journal P image ≡ true
  pub entries : (x : Entry) → has (form_of P image) image x ≡ R x

-- with one entry more, told by spellings
abbrev pub and_entry : (Entry → Bool) → Entry → Entry → Bool
and_entry R e x = R x || is_entry e x

-- with the entries of a list
abbrev pub with_entries : List Entry → (Entry → Bool) → Entry → Bool
with_entries es R x = is_among es x || R x

-- each image has the entries, or the entry too
abbrev pub AddsAtMost : Label → (Entry → Bool) → Entry → DiskState → Type 0
AddsAtMost P R e disk = (image : List ℕ) → IsCrashImage disk image → Records P R image
    ⊎ Records P (with_entry e R) image

-- the image has all the entries, and no others but some of the list
pub record HasSomeOf (P : Label) (R : Entry → Bool) (es : List Entry) (image : List ℕ) : Type 0 where
  pub now : Entry → Bool
  pub records : Records P now image
  pub keeps : (e : Entry) → R e ≡ true → now e ≡ true
  pub adds : (e : Entry) → now e ≡ true → (R e ≡ true) ⊎ (is_among es e ≡ true)

abbrev pub AddsSomeOf : Label → (Entry → Bool) → List Entry → DiskState → Type 0
AddsSomeOf P R es disk = (image : List ℕ) → IsCrashImage disk image → HasSomeOf P R es image

-- with those of m entries that are picked
abbrev pub and_some : (Entry → Bool) → (ℕ → Bool) → (ℕ → Entry) → ℕ → Entry → Bool
and_some R picked at m x = R x || some_below m (λ j. picked j && is_entry (at j) x)

-- the image has the entries, and some of the group
pub record HasSome (P : Label) (R : Entry → Bool) (at : ℕ → Entry) (m : ℕ) (image : List ℕ) : Type 0 where
  pub picked : ℕ → Bool
  pub records : Records P (and_some R picked at m) image

abbrev pub AddsSome : Label → (Entry → Bool) → (ℕ → Entry) → ℕ → DiskState → Type 0
AddsSome P R at m disk = (image : List ℕ) → IsCrashImage disk image → HasSome P R at m image

-- a settled journal in the form F with m closed slots from k on, and m entries that it lacks
pub record CanAppendGroup (P : Label) (F : Form) (R : Entry → Bool) (disk : DiskState) (k : ℕ)
    (at : ℕ → Entry) (m : ℕ) (bodies gates : List ℕ) : Type 0 where
  pub settled : IsSettled disk
  pub holds : Records P R disk.bytes
  pub form : form_of P disk.bytes ≡ F
  pub within : k + m ≤ slots_of F
  pub closed : (j : ℕ) → j < m → is_open F disk.bytes (k + j) ≡ false
  pub named : (j : ℕ) → j < m → names F (at j) ≡ true
  pub fresh : (j : ℕ) → j < m → R (at j) ≡ false
  pub differ : (i j : ℕ) → i < j → j < m → is_entry (at i) (at j) ≡ false
  pub prepared : (j : ℕ) → j < m → IsPrepared R (at j)
  pub bodies_size : length bodies ≡ 16 * m
  pub spelt : (j t : ℕ) → j < m → t < 16 → slice_index bodies (16 * j + t) ≡ slice_index (body_of (at j)) t
  pub gates_size : length gates ≡ m
  pub opens : (j : ℕ) → j < m → slice_index gates j ≡ 165

-- the disk is settled, and has all of the group
pub record HasAddedGroup (P : Label) (F : Form) (R : Entry → Bool) (old : List ℕ) (k : ℕ) (at : ℕ → Entry)
    (m : ℕ) (disk : DiskState) : Type 0 where
  pub settled : IsSettled disk
  pub holds : Records P (and_some R (λ j. true) at m) disk.bytes
  pub form : form_of P disk.bytes ≡ F
  pub opened : (j : ℕ) → j < m → is_open F disk.bytes (k + j) ≡ true
  pub others : (j : ℕ) → j < slots_of F → (j < k) ⊎ (k + m ≤ j) → is_open F disk.bytes j ≡ is_open F old j
