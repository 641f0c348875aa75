use Rattle.flash_bay.proofs.Calls.{end_keeps, end_may, end_room, within_plan}
use Rattle.flash_journal.specs.Kept.{room_of}
use Rattle.flash_bay.proofs.bay.Bay.end.Goals as goal

pub note-requires-clause-allowed : goal.note-requires-clause-allowed
note-requires-clause-allowed g c =
    end_may c.args.self.now c.self.inside.run c.self.inside.first.value c.self.inside.shop (room_of c.self.inside.journal) c.args.unit c.args.why c.ending-outcome.result c.self.view_is c.is_due.ensures c.requires.may c.ending-outcome.ensures

pub note-requires-clause-room : goal.note-requires-clause-room
note-requires-clause-room g c =
    end_room c.args.self.now c.self.inside.run c.self.inside.first.value c.self.inside.shop (room_of c.self.inside.journal) c.args.unit c.args.why c.ending-outcome.result c.self.view_is c.is_kept.ensures c.is_due.ensures c.requires.may (within_plan c.args.plan.now c.args.self.now.run.plan c.args.unit c.requires.plan c.requires.within)

pub invariant_of-self : goal.invariant_of-self
invariant_of-self g c =
    end_keeps g.S.Shop.tells_disk g.S.Shop.tells_vehicle c.self.inside.run c.note.new.self c.args.unit c.ending-outcome.result (g.S.Shop.history c.self.inside.first.value) (g.S.Shop.history c.self.inside.shop) c.self.inside.journal c.note.ensures c.self.invariant
