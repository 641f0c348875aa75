use Rattle.std.proofs.Common.{take}
use Rattle.flash_journal.specs.Noted.{AreNoted}
use Rattle.flash_journal.proofs.journal.Journal.note_all.Given as goal

abbrev pub invariant-loop-i : goal.invariant-loop-i
invariant-loop-i l = AreNoted l.initial.self l.self l.slot (take l.i l.entries)
