-- A write of one byte worked out: a file of three bytes, whose first becomes A5, and a file that grows.
use Rattle.std.specs.Prelude.{ℕ, List, [], ◌∷◌, length}
use Rattle.disk_model.specs.Disk.{DiskState, IsCrashImage, Wrote, MissedWrite, Synced}

abbrev pub settled_with : List ℕ → DiskState
settled_with bytes = record { bytes = bytes; ranges = []; synced = length bytes }

-- 00 44 58, and the same with A5 in front, which is not synced
abbrev pub before : DiskState
before = settled_with (0 ∷ 68 ∷ 88 ∷ [])

abbrev pub torn : DiskState
torn = record { bytes = 165 ∷ 68 ∷ 88 ∷ []; ranges = (0, 1) ∷ []; synced = 3 }

-- 4F, and behind it two bytes that are not synced
abbrev pub grown : DiskState
grown = record { bytes = 79 ∷ 1 ∷ 2 ∷ []; ranges = (1, 2) ∷ []; synced = 1 }

pub record AreImagesWorked : Type 0 where
  pub wrote : Wrote 0 (165 ∷ []) before torn
  -- a crash leaves the old byte, the new one or another, and nothing else changes
  pub old_byte : IsCrashImage torn (0 ∷ 68 ∷ 88 ∷ [])
  pub new_byte : IsCrashImage torn (165 ∷ 68 ∷ 88 ∷ [])
  pub junk_byte : IsCrashImage torn (90 ∷ 68 ∷ 88 ∷ [])
  pub next_byte : ¬ IsCrashImage torn (165 ∷ 69 ∷ 88 ∷ [])
  pub cut_short : ¬ IsCrashImage torn (165 ∷ 68 ∷ [])
  -- a failed write leaves the same images, and a sync the new bytes alone
  pub missed : MissedWrite 0 1 before (record torn { bytes = 90 ∷ 68 ∷ 88 ∷ [] })
  pub synced : Synced torn (settled_with (165 ∷ 68 ∷ 88 ∷ []))
  pub new_alone : ¬ IsCrashImage (settled_with (165 ∷ 68 ∷ 88 ∷ [])) (0 ∷ 68 ∷ 88 ∷ [])
  -- of a file that grew a crash leaves any part, with any bytes
  pub grew : Wrote 1 (1 ∷ 2 ∷ []) (settled_with (79 ∷ [])) grown
  pub none_of_it : IsCrashImage grown (79 ∷ [])
  pub part_of_it : IsCrashImage grown (79 ∷ 9 ∷ [])
  pub not_its_front : ¬ IsCrashImage grown (78 ∷ 1 ∷ 2 ∷ [])
