use Rattle.std.proofs.Common.{refl}
use Rattle.flash_bay.proofs.Completing.{complete_fails, complete_in, complete_keeps, complete_room, fail_may, fail_room, on_disk}
use Rattle.flash_journal.specs.Kept.{room_of}
use Rattle.flash_bay.proofs.bay.Bay.complete.Goals as goal

pub append_group-requires-clause-kept : goal.append_group-requires-clause-kept
append_group-requires-clause-kept g c = on_disk c.self.inside.run c.args.unit c.is_kept.ensures c.is_due.ensures (complete_in c.args.self.now c.self.inside.run c.self.inside.first.value c.self.inside.shop (room_of c.self.inside.journal) c.args.unit c.self.view_is c.requires.due) g.S.Shop.tells_disk g.S.Shop.tells_vehicle (g.S.Shop.history c.self.inside.first.value) (g.S.Shop.history c.self.inside.shop) c.self.inside.journal c.self.invariant

pub note-requires-clause-room : goal.note-requires-clause-room
note-requires-clause-room g c = complete_room c.self.inside.run c.args.unit c.is_kept.ensures c.is_due.ensures (complete_in c.args.self.now c.self.inside.run c.self.inside.first.value c.self.inside.shop (room_of c.self.inside.journal) c.args.unit c.self.view_is c.requires.due)

pub invariant_of-self : goal.invariant_of-self
invariant_of-self g c =
    complete_keeps c.self.inside.run c.args.unit c.is_kept.ensures c.is_due.ensures (complete_in c.args.self.now c.self.inside.run c.self.inside.first.value c.self.inside.shop (room_of c.self.inside.journal) c.args.unit c.self.view_is c.requires.due) g.S.Shop.tells_disk g.S.Shop.tells_vehicle (g.S.Shop.history c.self.inside.first.value) (g.S.Shop.history c.self.inside.shop) c.self.inside.journal c.self.invariant
    (g.S.Shop.history c.append_group.new.shop) c.append_group.new.self (g.met.S.Shop.readable c.self.inside.shop (g.S.Shop.history c.self.inside.shop).moment) c.append_group.ensures.any_moment c.append_group.ensures.later
    c.note.new.self _ _ c.in-Ok.ensures.count c.in-Ok.ensures.some c.in-Ok.ensures.ok c.in-Ok.ensures.kept c.note.ensures

pub note-requires-in-Err-clause-allowed : goal.note-requires-in-Err-clause-allowed
note-requires-in-Err-clause-allowed g c = fail_may c.self.inside.run c.args.unit c.is_kept.ensures c.is_due.ensures (complete_in c.args.self.now c.self.inside.run c.self.inside.first.value c.self.inside.shop (room_of c.self.inside.journal) c.args.unit c.self.view_is c.requires.due)

pub note-requires-in-Err-clause-room : goal.note-requires-in-Err-clause-room
note-requires-in-Err-clause-room g c = fail_room c.self.inside.run c.args.unit c.is_kept.ensures c.is_due.ensures (complete_in c.args.self.now c.self.inside.run c.self.inside.first.value c.self.inside.shop (room_of c.self.inside.journal) c.args.unit c.self.view_is c.requires.due)

pub invariant_of-self-in-Err : goal.invariant_of-self-in-Err
invariant_of-self-in-Err g c =
    complete_fails c.self.inside.run c.args.unit c.is_kept.ensures c.is_due.ensures (complete_in c.args.self.now c.self.inside.run c.self.inside.first.value c.self.inside.shop (room_of c.self.inside.journal) c.args.unit c.self.view_is c.requires.due) g.S.Shop.tells_disk g.S.Shop.tells_vehicle (g.S.Shop.history c.self.inside.first.value) (g.S.Shop.history c.self.inside.shop) c.self.inside.journal c.self.invariant
    (g.S.Shop.history c.append_group.new.shop) c.append_group.new.self (g.met.S.Shop.readable c.self.inside.shop (g.S.Shop.history c.self.inside.shop).moment) c.append_group.ensures.any_moment c.append_group.ensures.later
    c.note-in-Err.new.self c.in-Err.ensures.err (c.in-Err.ensures.fault refl) c.note-in-Err.ensures
