use Rattle.std.proofs.Common.{◌≡◌, sym, ◌∙◌, rules}
use Rattle.bay_core.specs.declared.event.Event.TheVariants.{Sent}
use Rattle.flash_journal.specs.Kept.{room_of}
use Rattle.flash_bay.proofs.Links.{may_roomed, note_room, noted_is}
use Rattle.flash_bay.proofs.Sends.{due_in, fed_send, linked_send, may_send, ready_in, send_is, send_keeps}
use Rattle.flash_run.specs.Need.{need_of}
use Rattle.flash_run.specs.declared.need.Need.TheVariants as need
use Rattle.flash_bay.proofs.bay.Bay.send_ready.Goals as goal

pub spot-here-requires-clause-fed : goal.spot-here-requires-clause-fed
spot-here-requires-clause-fed g c =
    let due : need_of c.self.inside.run c.args.unit ≡ need.Send = due_in c.args.self.now c.self.inside.run c.self.inside.first.value c.self.inside.shop (room_of c.self.inside.journal) c.args.unit c.self.view_is c.requires.due in
    fed_send c.self.inside.run c.args.unit c.is_due.ensures due

pub number-place-requires-clause-fed : goal.number-place-requires-clause-fed
number-place-requires-clause-fed g c =
    let due : need_of c.self.inside.run c.args.unit ≡ need.Send = due_in c.args.self.now c.self.inside.run c.self.inside.first.value c.self.inside.shop (room_of c.self.inside.journal) c.args.unit c.self.view_is c.requires.due in
    fed_send c.self.inside.run c.args.unit c.is_due.ensures due

pub deliver-lost-requires-clause-linked : goal.deliver-lost-requires-clause-linked
deliver-lost-requires-clause-linked g c =
    let due : need_of c.self.inside.run c.args.unit ≡ need.Send = due_in c.args.self.now c.self.inside.run c.self.inside.first.value c.self.inside.shop (room_of c.self.inside.journal) c.args.unit c.self.view_is c.requires.due in
    linked_send c.self.inside.run c.args.unit c.is_due.ensures due g.S.Shop.tells_disk g.S.Shop.tells_vehicle (g.S.Shop.history c.self.inside.first.value) (g.S.Shop.history c.self.inside.shop) c.self.inside.journal c.self.invariant

pub note-requires-clause-allowed : goal.note-requires-clause-allowed
note-requires-clause-allowed g c =
    let due : need_of c.self.inside.run c.args.unit ≡ need.Send = due_in c.args.self.now c.self.inside.run c.self.inside.first.value c.self.inside.shop (room_of c.self.inside.journal) c.args.unit c.self.view_is c.requires.due in
    may_roomed c.self.inside.run c.reserve.new.self (Sent c.args.unit c.number-place.result c.deliver-lost.result) c.in_ok-reserve.ensures.ok
    (may_send c.self.inside.run c.args.unit c.is_due.ensures due c.number-place.result c.deliver-lost.result c.number-place.ensures)

pub note-requires-clause-room : goal.note-requires-clause-room
note-requires-clause-room g c =
    note_room c.self.inside.run c.reserve.new.self (Sent c.args.unit c.number-place.result c.deliver-lost.result) c.in_ok-reserve.ensures.ok c.in_ok-reserve.ensures.spare

pub invariant_of-self-2 : goal.invariant_of-self-2
invariant_of-self-2 g c =
    let due : need_of c.self.inside.run c.args.unit ≡ need.Send = due_in c.args.self.now c.self.inside.run c.self.inside.first.value c.self.inside.shop (room_of c.self.inside.journal) c.args.unit c.self.view_is c.requires.due in
    let same : c.spot.result ≡ c.spot-here.result = search rules in
    send_keeps g.S.Shop.tells_disk g.S.Shop.tells_vehicle c.self.inside.run c.note.new.self c.args.unit c.number-place.result c.deliver-lost.result (g.S.Shop.history c.self.inside.first.value) (g.S.Shop.history c.self.inside.shop) (g.S.Shop.history c.deliver-lost.new.shop) c.self.inside.journal c.args.ready.now c.spot-here.result c.frame.result.now
    c.is_kept.ensures c.is_due.ensures due (g.met.S.Shop.bounded c.self.inside.shop) c.number-place.ensures
    (ready_in c.args.self.now c.self.inside.run c.self.inside.first.value c.self.inside.shop (room_of c.self.inside.journal) c.args.unit c.args.ready.now c.self.view_is c.requires.ready)
    (sym c.spot.ensures ∙ same) c.spot-here.ensures c.frame.ensures.is c.deliver-lost.ensures
    (noted_is c.self.inside.run c.reserve.new.self c.note.new.self (Sent c.args.unit c.number-place.result c.deliver-lost.result) c.in_ok-reserve.ensures.ok c.note.ensures) c.self.invariant

pub returns-clause-ok : goal.returns-clause-ok
returns-clause-ok g c =
    let due : need_of c.self.inside.run c.args.unit ≡ need.Send = due_in c.args.self.now c.self.inside.run c.self.inside.first.value c.self.inside.shop (room_of c.self.inside.journal) c.args.unit c.self.view_is c.requires.due in
    let same : c.spot.result ≡ c.spot-here.result = search rules in
    send_is g.S.Shop.tells_vehicle g.S.Shop.history c.args.self.now c.self.inside.run c.note.new.self c.self.inside.first.value c.self.inside.shop c.deliver-lost.new.shop (room_of c.self.inside.journal) c.args.unit c.number-place.result c.deliver-lost.result c.said.result c.args.ready.now c.spot-here.result c.frame.result.now
    c.self.view_is c.is_due.ensures due c.number-place.ensures
    (ready_in c.args.self.now c.self.inside.run c.self.inside.first.value c.self.inside.shop (room_of c.self.inside.journal) c.args.unit c.args.ready.now c.self.view_is c.requires.ready)
    (sym c.spot.ensures ∙ same) c.spot-here.ensures c.frame.ensures.is c.deliver-lost.ensures
    (noted_is c.self.inside.run c.reserve.new.self c.note.new.self (Sent c.args.unit c.number-place.result c.deliver-lost.result) c.in_ok-reserve.ensures.ok c.note.ensures) c.said.ensures
