-- What the images of a disk hold, by what was done to it since it was settled.
use Rattle.std.proofs.Common.{◌≡◌, ◌⊎◌, inl, inr, ℕ, ◌+◌, ◌<◌, ◌≤◌, List, [], ◌∷◌, length, slice_index, sym, ◌∙◌, subst, arith}
use Rattle.disk_model.specs.Disk.{DiskState, IsListed, IsCrashImage, IsSettled, Wrote, MissedWrite, Synced}

-- an image of a settled disk has its bytes
pub settled_image : (disk : DiskState) (image : List ℕ) → IsSettled disk → IsCrashImage disk image → (i : ℕ) → i < length disk.bytes → slice_index image i ≡ slice_index disk.bytes i
settled_image disk image settled left i lt =
    left.same i (omega (arith, settled.synced, lt)) (λ listed. subst (λ rs. IsListed rs i) settled.ranges listed)

pub settled_length : (disk : DiskState) (image : List ℕ) → IsSettled disk → IsCrashImage disk image → length image ≡ length disk.bytes
settled_length disk image settled left = omega (arith, settled.synced, left.no_shorter, left.no_longer)

not_in_one : (at n i : ℕ) → (i < at) ⊎ (at + n ≤ i) → IsListed ((at, n) ∷ []) i → ⊥
not_in_one at n i (inl lt) (inl r) = omega (arith, lt, r.0)
not_in_one at n i (inr ge) (inl r) = omega (arith, ge, r.1)
not_in_one at n i o (inr none) = none

-- an image after one write, done or missed, inside a settled disk: the old bytes outside the range
pub record LeavesOutside (at n : ℕ) (old : DiskState) (image : List ℕ) : Type 0 where
  pub size : length image ≡ length old.bytes
  pub same : (i : ℕ) → i < length old.bytes → (i < at) ⊎ (at + n ≤ i) → slice_index image i ≡ slice_index old.bytes i

pub missed_image : (at n : ℕ) (old new : DiskState) (image : List ℕ) → IsSettled old → at + n ≤ length old.bytes → MissedWrite at n old new → IsCrashImage new image → LeavesOutside at n old image
missed_image at n old new image settled fits missed left = record {
  size = omega (arith, settled.synced, left.no_shorter, left.no_longer, missed.synced, missed.no_longer, fits);
  same = λ i lt o.
      left.same i (omega (arith, settled.synced, missed.synced, lt))
      (λ listed. not_in_one at n i o (subst (λ rs. IsListed ((at, n) ∷ rs) i) settled.ranges (subst (λ rs. IsListed rs i) missed.ranges listed)))
      ∙ missed.outside i o;
}

-- a write that was done is one that may have been missed
pub wrote_missed : (at : ℕ) (written : List ℕ) (old new : DiskState) → Wrote at written old new → MissedWrite at (length written) old new
wrote_missed at written old new wrote = record {
  outside = wrote.outside;
  no_shorter = omega (arith, wrote.size);
  no_longer = omega (arith, wrote.size);
  ranges = wrote.ranges;
  synced = wrote.synced;
}

pub synced_settled : (old new : DiskState) → Synced old new → IsSettled new
synced_settled old new done = record {
  ranges = done.ranges;
  synced = done.synced ∙ (λ i. length (sym done.bytes i));
}

-- a sync takes no image away that a crash may leave after it
pub synced_image : (old new : DiskState) (image : List ℕ) → Synced old new → IsCrashImage old old.bytes → IsCrashImage new image → IsCrashImage old image
synced_image old new image done readable left =
    let settled = synced_settled old new done in
    let size : length new.bytes ≡ length old.bytes = (λ i. length (done.bytes i)) in
    record {
      no_shorter = omega (arith, settled_length new image settled left, size, readable.no_shorter);
      no_longer = omega (arith, settled_length new image settled left, size);
      same = λ i lt out. settled_image new image settled left i (omega (arith, lt, readable.no_shorter, size)) ∙ (λ j. slice_index (done.bytes j) i);
    }

-- an image after a write, done or missed, that may lengthen a settled disk: the old bytes below the range
pub record LeavesBelow (at : ℕ) (old : DiskState) (image : List ℕ) : Type 0 where
  pub no_shorter : length old.bytes ≤ length image
  pub same : (i : ℕ) → i < length old.bytes → i < at → slice_index image i ≡ slice_index old.bytes i

pub missed_below : (at n : ℕ) (old new : DiskState) (image : List ℕ) → IsSettled old → MissedWrite at n old new → IsCrashImage new image → LeavesBelow at old image
missed_below at n old new image settled missed left = record {
  no_shorter = omega (arith, settled.synced, left.no_shorter, missed.synced);
  same = λ i lt below.
      left.same i (omega (arith, settled.synced, missed.synced, lt))
      (λ listed. not_in_one at n i (inl below) (subst (λ rs. IsListed ((at, n) ∷ rs) i) settled.ranges (subst (λ rs. IsListed rs i) missed.ranges listed)))
      ∙ missed.outside i (inl below);
}
