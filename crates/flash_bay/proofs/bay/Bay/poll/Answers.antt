use Rattle.std.proofs.Common.{◌≡◌, inr, ◌+◌, ◌-◌, true}
use Rattle.bay_core.specs.declared.event.Tend.TheVariants.{Polled}
use Rattle.bay_replay.specs.Bytes.{brings_bytes}
use Rattle.flash_bay.proofs.Links.{starved_keeps, starves_as, stray_keeps, tended_keeps, tending_fed}
use Rattle.flash_bay.proofs.Tends.{brings_of, if_err, phase_in, poll_may, room_back, starved_is, starving_is, stray_of, tending_in}
use Rattle.flash_bay.specs.Receiving.{is_tending}
use Rattle.flash_journal.specs.Kept.{room_of}
use Rattle.run_model.specs.Link as phase
use Rattle.flash_bay.proofs.bay.Bay.poll.Goals as goal

pub invariant_of-self : goal.invariant_of-self
invariant_of-self g c =
    let due : is_tending c.self.inside.run ≡ true = tending_in c.args.self.now c.self.inside.run c.self.inside.first.value c.self.inside.shop (room_of c.self.inside.journal) c.self.view_is c.requires.due in
    starved_keeps g.S.Shop.tells_disk g.S.Shop.tells_vehicle c.self.inside.run c.make_room.new.run (g.S.Shop.history c.self.inside.first.value) (g.S.Shop.history c.self.inside.shop) c.self.inside.journal (tending_fed c.self.inside.run due).0 c.in_err-make_room.ensures.wants c.self.invariant

pub invariant_of-self-in-Err : goal.invariant_of-self-in-Err
invariant_of-self-in-Err g c =
    let due : is_tending c.self.inside.run ≡ true = tending_in c.args.self.now c.self.inside.run c.self.inside.first.value c.self.inside.shop (room_of c.self.inside.journal) c.self.view_is c.requires.due in
    stray_keeps g.S.Shop.tells_disk g.S.Shop.tells_vehicle c.self.inside.run c.starve.new.self (c.self.inside.run.room + 1) (g.S.Shop.history c.self.inside.first.value) (g.S.Shop.history c.self.inside.shop) (g.S.Shop.history c.hear.new.shop) c.self.inside.journal c.is_kept.ensures (tending_fed c.self.inside.run due).0 (g.met.S.Shop.bounded c.self.inside.shop)
    c.in-Err.ensures.stray (starved_is c.self.inside.run c.make_room.new.run c.starve.new.self c.in_ok-make_room.ensures.ok c.starve.ensures) c.self.invariant

pub invariant_of-self-in_err-note_polled : goal.invariant_of-self-in_err-note_polled
invariant_of-self-in_err-note_polled g c =
    let due : is_tending c.self.inside.run ≡ true = tending_in c.args.self.now c.self.inside.run c.self.inside.first.value c.self.inside.shop (room_of c.self.inside.journal) c.self.view_is c.requires.due in
    stray_keeps g.S.Shop.tells_disk g.S.Shop.tells_vehicle c.self.inside.run c.note_polled.new.run (c.self.inside.run.room + 1 - 1) (g.S.Shop.history c.self.inside.first.value) (g.S.Shop.history c.self.inside.shop) (g.S.Shop.history c.hear.new.shop) c.self.inside.journal c.is_kept.ensures (tending_fed c.self.inside.run due).0 (g.met.S.Shop.bounded c.self.inside.shop)
    (stray_of g.S.Shop.tells_vehicle (g.S.Shop.history c.self.inside.shop) (g.S.Shop.history c.hear.new.shop) c.in-Ok.heard (brings_of (brings_bytes c.in-Ok.heard) c.in_err-note_polled.ensures.free) c.in-Ok.ensures.heard) (starving_is c.self.inside.run c.make_room.new.run c.note_polled.new.run c.in_ok-make_room.ensures.ok c.in_err-note_polled.ensures.wants) c.self.invariant

pub returns-in_err-note_polled-clause-memory : goal.returns-in_err-note_polled-clause-memory
returns-in_err-note_polled-clause-memory g c =
    if_err c.from_residual-in_err-note_polled.result _ (
    starves_as g.S.Shop.tells_vehicle g.S.Shop.history c.args.self.now c.self.inside.run c.note_polled.new.run c.self.inside.first.value c.self.inside.shop c.hear.new.shop (room_of c.self.inside.journal) (c.self.inside.run.room + 1 - 1) c.self.view_is
    (starving_is c.self.inside.run c.make_room.new.run c.note_polled.new.run c.in_ok-make_room.ensures.ok c.in_err-note_polled.ensures.wants) (room_back c.self.inside.run.room) (inr (stray_of g.S.Shop.tells_vehicle (g.S.Shop.history c.self.inside.shop) (g.S.Shop.history c.hear.new.shop) c.in-Ok.heard (brings_of (brings_bytes c.in-Ok.heard) c.in_err-note_polled.ensures.free) c.in-Ok.ensures.heard)))

pub invariant_of-self-2 : goal.invariant_of-self-2
invariant_of-self-2 g c =
    let due : is_tending c.self.inside.run ≡ true = tending_in c.args.self.now c.self.inside.run c.self.inside.first.value c.self.inside.shop (room_of c.self.inside.journal) c.self.view_is c.requires.due in
    tended_keeps g.S.Shop.tells_disk g.S.Shop.tells_vehicle c.self.inside.run (g.S.Shop.history c.self.inside.first.value) (g.S.Shop.history c.self.inside.shop) (g.S.Shop.history c.hear.new.shop) c.self.inside.journal c.is_kept.ensures due (g.met.S.Shop.bounded c.self.inside.shop) c.self.invariant
    c.make_room.new.run c.note_polled.new.run (Polled c.in-Ok.heard) (poll_may g.S.Shop.tells_vehicle (g.S.Shop.history c.self.inside.shop) (g.S.Shop.history c.hear.new.shop) c.self.inside.run c.in-Ok.heard c.in-Ok.ensures.heard due (phase_in c.args.self.now c.self.inside.run c.self.inside.first.value c.self.inside.shop (room_of c.self.inside.journal) phase.Asked c.self.view_is c.requires.phase)) c.in-Ok.ensures.heard c.in_ok-make_room.ensures.ok c.in_ok-note_polled.ensures.ok
