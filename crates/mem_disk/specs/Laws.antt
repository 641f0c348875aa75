-- Laws of a disk in memory.
use Rattle.std.proofs.Common.{ℕ, ◌+◌, ◌≤◌, List, [], ◌∷◌, ◌++◌, length, take, drop, refl, arith, length-append, length-take, length-drop}
use Rattle.disk_model.specs.Disk.{DiskState, IsCrashImage}
use Rattle.mem_disk.specs.declared.record.Done.{Done}
use Rattle.mem_disk.specs.declared.record.Done.TheVariants.{Kept, Wrote, Missed, Synced}
use Rattle.mem_disk.specs.declared.disk.MemDisk.{MemDisk}
use Rattle.mem_disk.specs.Replay.{start, after, replay}
use Rattle.mem_disk.specs.Disks.{history_of}

pub after_formed : (d : DiskState) (done : Done) → d.synced ≤ length d.bytes
    → (after d done).synced ≤ length (after d done).bytes
after_formed d Kept le = le
after_formed d (Wrote at v) le =
    omega (
      arith,
      le,
      length-append (take at d.bytes ++ v.items)
          (drop (at + length v.items) d.bytes),
      length-append
          (take at d.bytes) v.items,
      length-take at d.bytes,
      length-drop (at + length v.items) d.bytes,
    )
after_formed d (Missed at n) le = le
after_formed d Synced le = omega arith

pub replay_formed : (d : DiskState) (calls : List Done) → d.synced ≤ length d.bytes
    → (replay d calls).synced ≤ length (replay d calls).bytes
replay_formed d [] le = le
replay_formed d (done ∷ calls) le = replay_formed (after d done) calls (after_formed d done le)

pub readable_of : (s : MemDisk) (m : ℕ)
    → IsCrashImage ((history_of s).disk_at m) ((history_of s).disk_at m).bytes
readable_of s m = record {
  no_shorter = replay_formed (start s.first.items) (take m s.calls.items) (omega arith);
  no_longer = omega arith;
  same = λ i lt out. refl;
}
