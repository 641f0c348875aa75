use Rattle.std.proofs.Common.{◌≡◌, inr, ◌+◌, ◌-◌, false}
use Rattle.bay_replay.specs.Bytes.{brings_bytes}
use Rattle.flash_bay.proofs.Collects.{collect_in, collects_is, fed_collect, fits_heard, hears_looks, inbox_in, linked_collect, look_keeps, looked_is, may_collect, never_kept}
use Rattle.flash_bay.proofs.Links.{starved_keeps, starves_as, stray_keeps}
use Rattle.flash_bay.proofs.Tends.{brings_of, if_err, room_back, starved_is, starving_is, stray_of}
use Rattle.flash_journal.specs.Kept.{room_of}
use Rattle.flash_run.specs.Need.{need_of}
use Rattle.flash_run.specs.declared.need.Need.TheVariants as need
use Rattle.flash_bay.proofs.bay.Bay.look.Goals as goal

pub waiting-waiting-requires-clause-fed : goal.waiting-waiting-requires-clause-fed
waiting-waiting-requires-clause-fed g c =
    let due : need_of c.self.inside.run c.args.unit ≡ need.Collect = collect_in c.args.self.now c.self.inside.run c.self.inside.first.value c.self.inside.shop (room_of c.self.inside.journal) c.args.unit c.self.view_is c.requires.due in
    fed_collect c.self.inside.run c.args.unit c.is_due.ensures due

pub hear-requires : goal.hear-requires
hear-requires g c =
    let due : need_of c.self.inside.run c.args.unit ≡ need.Collect = collect_in c.args.self.now c.self.inside.run c.self.inside.first.value c.self.inside.shop (room_of c.self.inside.journal) c.args.unit c.self.view_is c.requires.due in
    linked_collect c.self.inside.run c.args.unit c.is_due.ensures due g.S.Shop.tells_disk g.S.Shop.tells_vehicle (g.S.Shop.history c.self.inside.first.value) (g.S.Shop.history c.self.inside.shop) c.self.inside.journal c.self.invariant

pub invariant_of-self : goal.invariant_of-self
invariant_of-self g c =
    let due : need_of c.self.inside.run c.args.unit ≡ need.Collect = collect_in c.args.self.now c.self.inside.run c.self.inside.first.value c.self.inside.shop (room_of c.self.inside.journal) c.args.unit c.self.view_is c.requires.due in
    starved_keeps g.S.Shop.tells_disk g.S.Shop.tells_vehicle c.self.inside.run c.make_room.new.run (g.S.Shop.history c.self.inside.first.value) (g.S.Shop.history c.self.inside.shop) c.self.inside.journal (fed_collect c.self.inside.run c.args.unit c.is_due.ensures due) c.in_err-make_room.ensures.wants c.self.invariant

pub invariant_of-self-in-Err : goal.invariant_of-self-in-Err
invariant_of-self-in-Err g c =
    let due : need_of c.self.inside.run c.args.unit ≡ need.Collect = collect_in c.args.self.now c.self.inside.run c.self.inside.first.value c.self.inside.shop (room_of c.self.inside.journal) c.args.unit c.self.view_is c.requires.due in
    stray_keeps g.S.Shop.tells_disk g.S.Shop.tells_vehicle c.self.inside.run c.starve.new.self (c.self.inside.run.room + 1) (g.S.Shop.history c.self.inside.first.value) (g.S.Shop.history c.self.inside.shop) (g.S.Shop.history c.hear.new.shop) c.self.inside.journal c.is_kept.ensures (fed_collect c.self.inside.run c.args.unit c.is_due.ensures due) (g.met.S.Shop.bounded c.self.inside.shop)
    c.in-Err.ensures.stray (starved_is c.self.inside.run c.make_room.new.run c.starve.new.self c.in_ok-make_room.ensures.ok c.starve.ensures) c.self.invariant

pub invariant_of-self-in_err-note_collected : goal.invariant_of-self-in_err-note_collected
invariant_of-self-in_err-note_collected g c =
    let due : need_of c.self.inside.run c.args.unit ≡ need.Collect = collect_in c.args.self.now c.self.inside.run c.self.inside.first.value c.self.inside.shop (room_of c.self.inside.journal) c.args.unit c.self.view_is c.requires.due in
    stray_keeps g.S.Shop.tells_disk g.S.Shop.tells_vehicle c.self.inside.run c.note_collected.new.run (c.self.inside.run.room + 1 - 1) (g.S.Shop.history c.self.inside.first.value) (g.S.Shop.history c.self.inside.shop) (g.S.Shop.history c.hear.new.shop) c.self.inside.journal c.is_kept.ensures (fed_collect c.self.inside.run c.args.unit c.is_due.ensures due) (g.met.S.Shop.bounded c.self.inside.shop)
    (stray_of g.S.Shop.tells_vehicle (g.S.Shop.history c.self.inside.shop) (g.S.Shop.history c.hear.new.shop) c.in-Ok.heard (brings_of (brings_bytes c.in-Ok.heard) c.in_err-note_collected.ensures.free) c.in-Ok.ensures.heard) (starving_is c.self.inside.run c.make_room.new.run c.note_collected.new.run c.in_ok-make_room.ensures.ok c.in_err-note_collected.ensures.wants) c.self.invariant

pub returns-in_err-note_collected-clause-memory : goal.returns-in_err-note_collected-clause-memory
returns-in_err-note_collected-clause-memory g c =
    if_err c.from_residual-in_err-note_collected.result _ (
    starves_as g.S.Shop.tells_vehicle g.S.Shop.history c.args.self.now c.self.inside.run c.note_collected.new.run c.self.inside.first.value c.self.inside.shop c.hear.new.shop (room_of c.self.inside.journal) (c.self.inside.run.room + 1 - 1) c.self.view_is
    (starving_is c.self.inside.run c.make_room.new.run c.note_collected.new.run c.in_ok-make_room.ensures.ok c.in_err-note_collected.ensures.wants) (room_back c.self.inside.run.room) (inr (stray_of g.S.Shop.tells_vehicle (g.S.Shop.history c.self.inside.shop) (g.S.Shop.history c.hear.new.shop) c.in-Ok.heard (brings_of (brings_bytes c.in-Ok.heard) c.in_err-note_collected.ensures.free) c.in-Ok.ensures.heard)))

pub invariant_of-self-2 : goal.invariant_of-self-2
invariant_of-self-2 g c =
    let due : need_of c.self.inside.run c.args.unit ≡ need.Collect = collect_in c.args.self.now c.self.inside.run c.self.inside.first.value c.self.inside.shop (room_of c.self.inside.journal) c.args.unit c.self.view_is c.requires.due in
    look_keeps g.S.Shop.tells_disk g.S.Shop.tells_vehicle c.self.inside.run c.make_room.new.run c.note_collected.new.run c.args.unit c.in-Ok.heard (g.S.Shop.history c.self.inside.first.value) (g.S.Shop.history c.self.inside.shop) (g.S.Shop.history c.hear.new.shop) c.self.inside.journal c.is_kept.ensures c.is_due.ensures due (g.met.S.Shop.bounded c.self.inside.shop)
    (inbox_in c.args.self.now c.self.inside.run c.self.inside.first.value c.self.inside.shop (room_of c.self.inside.journal) c.args.unit false c.self.view_is c.requires.empty) c.in-Ok.ensures.heard c.in_ok-make_room.ensures.ok c.in_ok-note_collected.ensures.ok c.self.invariant

pub returns-clause-ok : goal.returns-clause-ok
returns-clause-ok g c =
    let due : need_of c.self.inside.run c.args.unit ≡ need.Collect = collect_in c.args.self.now c.self.inside.run c.self.inside.first.value c.self.inside.shop (room_of c.self.inside.journal) c.args.unit c.self.view_is c.requires.due in
    collects_is g.S.Shop.tells_vehicle g.S.Shop.history c.args.self.now c.self.inside.run c.make_room.new.run c.note_collected.new.run c.self.inside.first.value c.self.inside.shop c.hear.new.shop (room_of c.self.inside.journal) c.args.unit c.in-Ok.heard c.collected.result c.self.view_is
    (may_collect c.self.inside.run c.args.unit c.is_due.ensures due c.in-Ok.heard (fits_heard g.S.Shop.tells_vehicle (g.S.Shop.history c.self.inside.shop) (g.S.Shop.history c.hear.new.shop) c.in-Ok.heard _ c.in-Ok.ensures.heard (inbox_in c.args.self.now c.self.inside.run c.self.inside.first.value c.self.inside.shop (room_of c.self.inside.journal) c.args.unit false c.self.view_is c.requires.empty))) c.in_ok-make_room.ensures.ok c.in_ok-note_collected.ensures.ok
    (hears_looks g.S.Shop.tells_vehicle g.S.Shop.history c.in-Ok.heard c.self.inside.shop c.hear.new.shop c.in-Ok.ensures.heard)
    (looked_is c.self.inside.run c.make_room.new.run c.note_collected.new.run c.args.unit c.in-Ok.heard c.losses-before.result c.is_quiet-quiet.result c.waiting-waiting.result c.collected.result c.is_due.ensures due
    (never_kept g.S.Shop.tells_vehicle (g.S.Shop.history c.self.inside.shop) (g.S.Shop.history c.hear.new.shop) c.in-Ok.heard c.in-Ok.ensures.heard) c.in_ok-make_room.ensures.ok c.in_ok-note_collected.ensures.ok c.losses-before.ensures c.is_quiet-quiet.ensures c.waiting-waiting.ensures c.collected.ensures)
