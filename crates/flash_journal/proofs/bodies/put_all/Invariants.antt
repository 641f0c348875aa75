use Rattle.std.proofs.Common.{◌≡◌, ◌*◌, ◌≤◌, length, take}
use Rattle.flash_journal.specs.Bodies.{bodies_of}
use Rattle.flash_journal.proofs.bodies.put_all.Given as goal

abbrev pub invariant-loop-i : goal.invariant-loop-i
invariant-loop-i l = record { room : 16 * length l.entries ≤ length l.bytes; filled : take (16 * l.i) l.bytes ≡ bodies_of (take l.i l.entries) }
