use Rattle.std.proofs.Common.{◌≡◌, ◌-◌, length, drop}
use Rattle.mem_disk.specs.Made.{said_bytes}
use Rattle.mem_disk.proofs.record.seen.Given as goal

abbrev pub invariant-loop-i : goal.invariant-loop-i
invariant-loop-i l = said_bytes l.chain ≡ drop (length l.bytes - l.i) l.bytes
