-- What a picture of a disk in memory shows behind each call.
use Rattle.std.proofs.Common.{◌≡◌, ◌⊎◌, inl, inr, ℕ, zero, suc, ◌+◌, ◌<◌, ◌≤◌, true, List, [], ◌∷◌, ◌++◌, length, get_or, take, refl, sym, ◌∙◌, ap, subst, arith}
use Rattle.std.specs.Prelude.{◌&&◌, slice_index}
use Rattle.std.proofs.Math.Seq.{take-suc}
use Rattle.std.proofs.lemmas.Bool.{and_parts, leb-true, cases_lt}
use Rattle.std.proofs.lemmas.List.{get_or_past}
use Rattle.disk_model.specs.Disk.{DiskState, IsListed, IsCrashImage, Wrote as IsWritten}
use Rattle.disk_model.specs.declared.device.Pick.{Pick}
use Rattle.disk_model.specs.declared.device.Pick.TheVariants.{Old, New, Junk}
use Rattle.mem_disk.specs.declared.crash.Picture.{Picture}
use Rattle.mem_disk.specs.declared.record.Done.{Done}
use Rattle.mem_disk.specs.declared.record.Done.TheVariants.{Kept, Wrote, Missed, Synced}
use Rattle.mem_disk.specs.Crashed.{HasJunk, IsPicked, IsFilled, Shows, IsBehind, wrote_state, missed_state}
use Rattle.mem_disk.specs.Laws.{after_formed}
use Rattle.mem_disk.specs.Replay.{start, after, replay, spliced, is_within, are_within, synced_after, synced_bytes}
use Rattle.mem_disk.proofs.Calls.{put}
use Rattle.mem_disk.proofs.Replays.{replay-append, synced-append}

-- whether a place lies in a range
in_range : (at n i : ℕ) → ((at ≤ i) × (i < at + n)) ⊎ ((i < at) ⊎ (at + n ≤ i))
in_range at n i = elim (cases_lt i at) [
  | inl before ↦ inr (inl before)
  | inr from ↦ elim (cases_lt i (at + n)) [ inl within ↦ inl (from, within) | inr past ↦ inr (inr past) ]
]

pub junk_wrote : (b : ℕ) (d : DiskState) (at : ℕ) (text image new : List ℕ) → at ≤ length d.bytes → HasJunk b d image → IsFilled image (length (spliced d.bytes at text)) at (length text) b new → HasJunk b (wrote_state d at text) new
junk_wrote b d at text image new le junk fill = record {
  size = fill.size_is;
  listed = λ i lt there. elim (in_range at (length text) i) [
    | inl inside ↦ fill.inside i (omega (arith, lt, fill.size_is)) inside.0 inside.1
    | inr out ↦ elim there [
      | inl inside ↦ fill.inside i (omega (arith, lt, fill.size_is)) inside.0 inside.1
      | inr before ↦
          let short : i < length image = before_end i (omega (arith, lt, fill.size_is)) out in
          fill.outside i short (omega (arith, lt, fill.size_is)) out ∙ junk.listed i short before
    ]
  ];
  others = λ i not_there. elim (in_range at (length text) i) [
    | inl inside ↦ absurd (not_there (inl inside))
    | inr out ↦ elim (cases_lt i (length new)) [
      | inl lt ↦
          let short : i < length image = before_end i (omega (arith, lt, fill.size_is)) out in
          fill.outside i short (omega (arith, lt, fill.size_is)) out ∙ junk.others i (λ before. not_there (inr before)) ∙ sym (wrote.outside i out)
      | inr past ↦ get_or_past new i 0 past ∙ sym (get_or_past (spliced d.bytes at text) i 0 (omega (arith, past, fill.size_is)))
    ]
  ];
}
  where
    wrote : IsWritten at text d (wrote_state d at text)
    wrote = put d at text le

    before_end : (i : ℕ) → i < length (spliced d.bytes at text) → (i < at) ⊎ (at + length text ≤ i) → i < length image
    before_end i lt (inl before) = omega (arith, before, le, junk.size)
    before_end i lt (inr past) = omega (arith, lt, past, wrote.size, junk.size)

pub junk_missed : (b : ℕ) (d : DiskState) (at n : ℕ) (image new : List ℕ) → HasJunk b d image → IsFilled image (length image) at n b new → HasJunk b (missed_state d at n) new
junk_missed b d at n image new junk fill = record {
  size = fill.size_is ∙ junk.size;
  listed = λ i lt there. elim (in_range at n i) [
    | inl inside ↦ fill.inside i (omega (arith, lt, fill.size_is)) inside.0 inside.1
    | inr out ↦ elim there [
      | inl inside ↦ fill.inside i (omega (arith, lt, fill.size_is)) inside.0 inside.1
      | inr before ↦ fill.outside i (omega (arith, lt, fill.size_is)) (omega (arith, lt, fill.size_is)) out ∙ junk.listed i (omega (arith, lt, fill.size_is)) before
    ]
  ];
  others = λ i not_there. elim (in_range at n i) [
    | inl inside ↦ absurd (not_there (inl inside))
    | inr out ↦ elim (cases_lt i (length new)) [
      | inl lt ↦ fill.outside i (omega (arith, lt, fill.size_is)) (omega (arith, lt, fill.size_is)) out ∙ junk.others i (λ before. not_there (inr before))
      | inr past ↦ get_or_past new i 0 past ∙ sym (get_or_past d.bytes i 0 (omega (arith, past, fill.size_is, junk.size)))
    ]
  ];
}

pub junk_synced : (b : ℕ) (d : DiskState) (image : List ℕ) → image ≡ d.bytes → HasJunk b (after d Synced) image
junk_synced b d image is = record { size = ap length is; listed = λ i lt there. absurd there; others = λ i out. ap (λ (xs : List ℕ). slice_index xs i) is }

-- the bytes at the last sync are what a crash may leave
pub record FitsDisk (d : DiskState) (old : List ℕ) : Type 0 where
  pub size : length old ≡ d.synced
  pub formed : d.synced ≤ length d.bytes
  pub same : (i : ℕ) → i < d.synced → ¬ IsListed d.ranges i → slice_index old i ≡ slice_index d.bytes i

fits_after : (d : DiskState) (old : List ℕ) (done : Done) → is_within (length d.bytes) done ≡ true → FitsDisk d old → FitsDisk (after d done) (synced_after d old done)
fits_after d old Kept within fits = fits
fits_after d old (Wrote at v) within fits = record {
  size = fits.size;
  formed = after_formed d (Wrote at v) fits.formed;
  same = λ i lt not_there. elim (in_range at (length v.items) i) [
    | inl inside ↦ absurd (not_there (inl inside))
    | inr out ↦ fits.same i lt (λ before. not_there (inr before)) ∙ sym ((put d at v.items (leb-true at (length d.bytes) within)).outside i out)
  ];
}
fits_after d old (Missed at n) within fits = record { size = fits.size; formed = fits.formed; same = λ i lt not_there. fits.same i lt (λ before. not_there (inr before)) }
fits_after d old Synced within fits = record { size = refl; formed = omega arith; same = λ i lt out. refl }

pub fits_replay : (d : DiskState) (old : List ℕ) (calls : List Done) → are_within d calls ≡ true → FitsDisk d old → FitsDisk (replay d calls) (synced_bytes d old calls)
fits_replay d old [] within fits = fits
fits_replay d old (done ∷ more) within fits =
    let parts = and_parts _ _ within in
    fits_replay (after d done) (synced_after d old done) more parts.1 (fits_after d old done parts.0 fits)

pub within_take : (d : DiskState) (m : ℕ) (calls : List Done) → are_within d calls ≡ true → are_within d (take m calls) ≡ true
within_take d zero calls within = refl
within_take d (suc m) [] within = refl
within_take d (suc m) (done ∷ more) within =
    let parts = and_parts _ _ within in
    (λ i. parts.0 i && within_take (after d done) m more parts.1 i)

pub within_at : (d : DiskState) (calls : List Done) (i : ℕ) (e : Done) → i < length calls → are_within d calls ≡ true → is_within (length (replay d (take i calls)).bytes) (get_or calls i e) ≡ true
within_at d [] i e lt within = absurd (omega (arith, lt))
within_at d (done ∷ more) zero e lt within = (and_parts _ _ within).0
within_at d (done ∷ more) (suc i) e lt within = within_at (after d done) more i e (omega (arith, lt)) (and_parts _ _ within).1

-- the image of each pick is one that a crash may leave
pub picked_image : (pick : Pick) (d : DiskState) (synced image : List ℕ) → FitsDisk d synced → IsPicked pick d synced image → IsCrashImage d image
picked_image Old d synced image fits is = subst (λ (xs : List ℕ). IsCrashImage d xs) (sym is) (record { no_shorter = omega (arith, fits.size); no_longer = omega (arith, fits.size, fits.formed); same = fits.same })
picked_image New d synced image fits is = subst (λ (xs : List ℕ). IsCrashImage d xs) (sym is) (record { no_shorter = fits.formed; no_longer = omega arith; same = λ i lt out. refl })
picked_image (Junk b) d synced image fits junk = record { no_shorter = omega (arith, junk.size, fits.formed); no_longer = omega (arith, junk.size); same = λ i lt out. junk.others i out }

-- what the picture shows at the start, and behind one call more of the record
abbrev pub ShowsUpTo : Pick → List ℕ → List Done → ℕ → Picture → Type 0
ShowsUpTo pick first calls k p = Shows pick (replay (start first) (take k calls)) (synced_bytes (start first) first (take k calls)) p

pub shows_start : (pick : Pick) (first : List ℕ) (p : Picture) → p.bytes.items ≡ first → p.image.items ≡ first → Shows pick (start first) first p
shows_start Old first p bytes image = record { bytes = bytes; image = image }
shows_start New first p bytes image = record { bytes = bytes; image = image }
shows_start (Junk b) first p bytes image = record { bytes = bytes; image = record { size = ap length image; listed = λ i lt there. absurd there; others = λ i out. ap (λ (xs : List ℕ). slice_index xs i) image } }

pub shows_more : (pick : Pick) (first : List ℕ) (calls : List Done) (k : ℕ) (done : Done) (p new : Picture) → k < length calls → done ≡ get_or calls k done → ShowsUpTo pick first calls k p → IsBehind done pick p new → ShowsUpTo pick first calls (suc k) new
shows_more pick first calls k done p new lt is shows behind =
    let longer : take (suc k) calls ≡ take k calls ++ done ∷ [] = take-suc calls k done lt ∙ (λ i. take k calls ++ (sym is i) ∷ []) in
    subst (λ (cs : List Done). Shows pick (replay (start first) cs) (synced_bytes (start first) first cs) new) (sym longer)
    (subst (λ (d : DiskState). Shows pick d (synced_bytes (start first) first (take k calls ++ done ∷ [])) new) (sym (replay-append (start first) (take k calls) done))
    (subst (λ (xs : List ℕ). Shows pick (after (replay (start first) (take k calls)) done) xs new) (sym (synced-append (start first) first (take k calls) done))
    (behind (replay (start first) (take k calls)) (synced_bytes (start first) first (take k calls)) shows)))

-- the image is filled up to place k
pub record FilledUpTo (old : List ℕ) (size at n byte k : ℕ) (v : List ℕ) : Type 0 where
  pub size_is : length v ≡ size
  pub inside : (i : ℕ) → i < size → at ≤ i → i < at + n → slice_index v i ≡ byte
  pub outside : (i : ℕ) → i < k → i < length old → i < size → (i < at) ⊎ (at + n ≤ i) → slice_index v i ≡ slice_index old i

-- behind a write, by the pick
pub wrote_old : (d : DiskState) (at : ℕ) (text synced : List ℕ) (p new : Picture) → Shows Old d synced p → new.bytes.items ≡ spliced p.bytes.items at text → new.image.items ≡ p.image.items → Shows Old (wrote_state d at text) synced new
wrote_old d at text synced p new shows bytes image = record { bytes = bytes ∙ (λ i. spliced (shows.bytes i) at text); image = image ∙ shows.image }

pub wrote_new : (d : DiskState) (at : ℕ) (text synced : List ℕ) (p new : Picture) → Shows New d synced p → new.bytes.items ≡ spliced p.bytes.items at text → new.image.items ≡ new.bytes.items → Shows New (wrote_state d at text) synced new
wrote_new d at text synced p new shows bytes image = let all = bytes ∙ (λ i. spliced (shows.bytes i) at text) in record { bytes = all; image = image ∙ all }

pub wrote_junk : (b : ℕ) (d : DiskState) (at : ℕ) (text synced : List ℕ) (p new : Picture) → at ≤ length p.bytes.items → Shows (Junk b) d synced p → new.bytes.items ≡ spliced p.bytes.items at text → IsFilled p.image.items (length new.bytes.items) at (length text) b new.image.items
    → Shows (Junk b) (wrote_state d at text) synced new
wrote_junk b d at text synced p new le shows bytes fill =
    let all : new.bytes.items ≡ spliced d.bytes at text = bytes ∙ (λ i. spliced (shows.bytes i) at text) in
    record {
      bytes = all;
      image = junk_wrote b d at text p.image.items new.image.items (subst (λ (xs : List ℕ). at ≤ length xs) shows.bytes le) shows.image
          (subst (λ (xs : List ℕ). IsFilled p.image.items (length xs) at (length text) b new.image.items) all fill);
    }

-- what the picture shows behind the last call is an image of that disk
pub image_at : (pick : Pick) (first : List ℕ) (calls : List Done) (k call : ℕ) (p : Picture) (image : List ℕ) → are_within (start first) calls ≡ true → ShowsUpTo pick first calls k p → take k calls ≡ take call calls → image ≡ p.image.items
    → IsCrashImage (replay (start first) (take call calls)) image
image_at pick first calls k call p image within shows same is = subst (λ (cs : List Done). IsCrashImage (replay (start first) cs) image) same
    (picked_image pick (replay (start first) (take k calls)) (synced_bytes (start first) first (take k calls)) image
    (fits_replay (start first) first (take k calls) (within_take (start first) k calls within) (record { size = refl; formed = omega arith; same = λ i lt out. refl }))
    (subst (λ (xs : List ℕ). IsPicked pick (replay (start first) (take k calls)) (synced_bytes (start first) first (take k calls)) xs) (sym is) shows.image))
