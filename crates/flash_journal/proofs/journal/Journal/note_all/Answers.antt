use Rattle.flash_journal.proofs.Notes.{note_next, noted_more}
use Rattle.flash_journal.proofs.journal.Journal.note_all.Goals as goal

pub note-requires : goal.note-requires
note-requires c = note_next c.args.self.now c.loop-i.self c.args.slot c.args.entries.now c.loop-i.i c.requires.room c.requires.entries c.loop-i-test.true c.loop-i.invariant

pub loop-i-preserved : goal.loop-i-preserved
loop-i-preserved c = noted_more c.args.self.now c.loop-i.self c.note.new.self c.args.slot c.args.entries.now c.loop-i.i c.requires.room c.requires.entries c.loop-i-test.true c.loop-i.invariant c.note.ensures
