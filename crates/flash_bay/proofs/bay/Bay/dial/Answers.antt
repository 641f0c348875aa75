use Rattle.std.proofs.Common.{◌≡◌, true}
use Rattle.bay_core.specs.declared.event.Tend.TheVariants.{Dialed}
use Rattle.flash_bay.proofs.Links.{starved_keeps, tended_keeps, tending_fed, tends_is}
use Rattle.flash_bay.proofs.Tends.{dial_may, phase_in, tending_in}
use Rattle.flash_bay.specs.Receiving.{is_tending}
use Rattle.flash_journal.specs.Kept.{room_of}
use Rattle.run_model.specs.Link as phase
use Rattle.flash_bay.proofs.bay.Bay.dial.Goals as goal

pub invariant_of-self : goal.invariant_of-self
invariant_of-self g c =
    let due : is_tending c.self.inside.run ≡ true = tending_in c.args.self.now c.self.inside.run c.self.inside.first.value c.self.inside.shop (room_of c.self.inside.journal) c.self.view_is c.requires.due in
    starved_keeps g.S.Shop.tells_disk g.S.Shop.tells_vehicle c.self.inside.run c.make_room.new.run (g.S.Shop.history c.self.inside.first.value) (g.S.Shop.history c.self.inside.shop) c.self.inside.journal (tending_fed c.self.inside.run due).0 c.in_err-make_room.ensures.wants c.self.invariant

pub invariant_of-self-2 : goal.invariant_of-self-2
invariant_of-self-2 g c =
    let due : is_tending c.self.inside.run ≡ true = tending_in c.args.self.now c.self.inside.run c.self.inside.first.value c.self.inside.shop (room_of c.self.inside.journal) c.self.view_is c.requires.due in
    tended_keeps g.S.Shop.tells_disk g.S.Shop.tells_vehicle c.self.inside.run (g.S.Shop.history c.self.inside.first.value) (g.S.Shop.history c.self.inside.shop) (g.S.Shop.history c.redial-lost.new.shop) c.self.inside.journal c.is_kept.ensures due (g.met.S.Shop.bounded c.self.inside.shop) c.self.invariant
    c.make_room.new.run c.note.new.self (Dialed c.redial-lost.result) (dial_may c.self.inside.run c.redial-lost.result due (phase_in c.args.self.now c.self.inside.run c.self.inside.first.value c.self.inside.shop (room_of c.self.inside.journal) phase.Down c.self.view_is c.requires.phase)) c.redial-lost.ensures c.in_ok-make_room.ensures.ok c.note.ensures

pub returns-clause-ok : goal.returns-clause-ok
returns-clause-ok g c =
    let due : is_tending c.self.inside.run ≡ true = tending_in c.args.self.now c.self.inside.run c.self.inside.first.value c.self.inside.shop (room_of c.self.inside.journal) c.self.view_is c.requires.due in
    tends_is g.S.Shop.tells_vehicle g.S.Shop.history c.args.self.now c.self.inside.run c.make_room.new.run c.note.new.self c.self.inside.first.value c.self.inside.shop c.redial-lost.new.shop (room_of c.self.inside.journal) (Dialed c.redial-lost.result) c.losses-before.result c.tended.result c.self.view_is
    (dial_may c.self.inside.run c.redial-lost.result due (phase_in c.args.self.now c.self.inside.run c.self.inside.first.value c.self.inside.shop (room_of c.self.inside.journal) phase.Down c.self.view_is c.requires.phase)) c.in_ok-make_room.ensures.ok c.note.ensures c.redial-lost.ensures c.losses-before.ensures c.tended.ensures
