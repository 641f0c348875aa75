-- A settled disk, and what its images record.
use Rattle.std.proofs.Common.{◌≡◌, ℕ, ◌+◌, ◌<◌, ◌≤◌, List, length, slice_index, refl, ◌∙◌, ap, arith}
use Rattle.std.specs.Prelude.{◌==◌, Bool}
use Rattle.disk_model.specs.Disk.{DiskState, IsCrashImage, IsSettled}
use Rattle.journal_steps.proofs.Images.{settled_image, settled_length}
use Rattle.flash_plan.specs.declared.outcome.Entry.{Entry}
use Rattle.flash_plan.specs.declared.outcome.Entry.TheVariants.{Begun, Marked, Complete}
use Rattle.journal_model.specs.Records.{Label, form_of, end_of, body_of, gate_at, body_at}
use Rattle.journal_steps.specs.Append.{Records}
use Rattle.journal_steps.proofs.Same.{Copies, heads_before, long_of, journal_same, entries_same}

pub body_size : (e : Entry) → length (body_of e) ≡ 16
body_size (Begun u) = refl
body_size (Marked u s) = refl
body_size (Complete u) = refl

-- what a read gives is an image of a settled disk
pub itself : (disk : DiskState) → IsSettled disk → IsCrashImage disk disk.bytes
itself disk settled = record { no_shorter = omega (arith, settled.synced); no_longer = omega arith; same = λ i lt o. refl }

-- what agrees with a journal at its headers and open slots has its entries
pub records_by : (P : Label) (R : Entry → Bool) (base image : List ℕ) → Copies P base image → Records P R base → Records P R image
records_by P R base image copies holds = record {
  journal = journal_same P base image copies ∙ holds.journal;
  entries = λ x. entries_same P base image copies x ∙ holds.entries x;
}

-- two lists of one length with the same bytes record the same
pub records_copied : (P : Label) (R : Entry → Bool) (base image : List ℕ) → length image ≡ length base → ((i : ℕ) → i < length base → slice_index image i ≡ slice_index base i) → Records P R base → Records P R image
records_copied P R base image size same holds = records_by P R base image (record {
  heads = heads_before P base image (form_of P base) refl size (λ i lt. same i (omega (arith, lt, long)));
  all = λ j lt. record {
    gate = ap (λ (x : ℕ). x == 165) (same (gate_at (form_of P base) j) (omega (arith, long, lt)));
    body = λ is t tlt. same (body_at (form_of P base) j + t) (omega (arith, long, lt, tlt));
  };
}) holds
  where
    long : end_of (form_of P base) ≤ length base
    long = long_of P base holds.journal

-- each image of a settled disk records what a read gives
pub all_settled : (P : Label) (R : Entry → Bool) (disk : DiskState) (image : List ℕ) → IsSettled disk → Records P R disk.bytes → IsCrashImage disk image → Records P R image
all_settled P R disk image settled holds left = records_copied P R disk.bytes image (settled_length disk image settled left) (settled_image disk image settled left) holds
