use Rattle.flash_journal.specs.Layouts.{layout_form}
use Rattle.flash_journal.specs.Seen.{HasSlotsUpTo}
use Rattle.flash_journal.proofs.tables.read_slots.Given as goal

abbrev pub invariant-loop-slot : goal.invariant-loop-slot
invariant-loop-slot l = HasSlotsUpTo (layout_form l.layout) l.bytes l.slot l.tables
