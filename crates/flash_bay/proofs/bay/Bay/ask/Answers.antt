use Rattle.std.proofs.Common.{◌≡◌, true, ap}
use Rattle.bay_core.specs.declared.event.Tend.TheVariants.{Asked}
use Rattle.doip_frame.specs.Frame.{activate_bytes}
use Rattle.flash_bay.proofs.Links.{starved_keeps, tended_keeps, tending_fed, tends_is}
use Rattle.flash_bay.proofs.Tends.{ask_may, frame_is, phase_in, sent_as_due, tending_in}
use Rattle.flash_bay.specs.Receiving.{is_tending}
use Rattle.flash_journal.specs.Kept.{room_of}
use Rattle.flash_plan.specs.declared.unit.LinkRules.{LinkRules}
use Rattle.run_model.specs.Link as phase
use Rattle.flash_bay.proofs.bay.Bay.ask.Goals as goal

pub invariant_of-self : goal.invariant_of-self
invariant_of-self g c =
    let due : is_tending c.self.inside.run ≡ true = tending_in c.args.self.now c.self.inside.run c.self.inside.first.value c.self.inside.shop (room_of c.self.inside.journal) c.self.view_is c.requires.due in
    starved_keeps g.S.Shop.tells_disk g.S.Shop.tells_vehicle c.self.inside.run c.make_ready.new.run (g.S.Shop.history c.self.inside.first.value) (g.S.Shop.history c.self.inside.shop) c.self.inside.journal (tending_fed c.self.inside.run due).0 c.in_err-frame.ensures.wants c.self.invariant

pub invariant_of-self-2 : goal.invariant_of-self-2
invariant_of-self-2 g c =
    let due : is_tending c.self.inside.run ≡ true = tending_in c.args.self.now c.self.inside.run c.self.inside.first.value c.self.inside.shop (room_of c.self.inside.journal) c.self.view_is c.requires.due in
    tended_keeps g.S.Shop.tells_disk g.S.Shop.tells_vehicle c.self.inside.run (g.S.Shop.history c.self.inside.first.value) (g.S.Shop.history c.self.inside.shop) (g.S.Shop.history c.deliver-lost.new.shop) c.self.inside.journal c.is_kept.ensures due (g.met.S.Shop.bounded c.self.inside.shop) c.self.invariant
    c.make_ready.new.run c.note.new.self (Asked c.deliver-lost.result) (ask_may c.self.inside.run c.deliver-lost.result due (phase_in c.args.self.now c.self.inside.run c.self.inside.first.value c.self.inside.shop (room_of c.self.inside.journal) phase.Dialed c.self.view_is c.requires.phase)) (sent_as_due g.S.Shop.tells_vehicle (g.S.Shop.history c.self.inside.shop) (g.S.Shop.history c.deliver-lost.new.shop) c.deliver-lost.result c.as_slice.result.now c.in_ok-frame.frame (activate_bytes c.rules.result.tester) (activate_bytes c.self.inside.run.rules.tester) c.as_slice.ensures (frame_is c.activation-made.result c.in_ok-frame.frame (activate_bytes c.rules.result.tester) c.in_ok-frame.ensures.frame c.activation-made.ensures).are (ap (λ (k : LinkRules). activate_bytes k.tester) c.rules.ensures) c.deliver-lost.ensures) c.in_ok-frame.ensures.ok c.note.ensures

pub returns-clause-ok : goal.returns-clause-ok
returns-clause-ok g c =
    let due : is_tending c.self.inside.run ≡ true = tending_in c.args.self.now c.self.inside.run c.self.inside.first.value c.self.inside.shop (room_of c.self.inside.journal) c.self.view_is c.requires.due in
    tends_is g.S.Shop.tells_vehicle g.S.Shop.history c.args.self.now c.self.inside.run c.make_ready.new.run c.note.new.self c.self.inside.first.value c.self.inside.shop c.deliver-lost.new.shop (room_of c.self.inside.journal) (Asked c.deliver-lost.result) c.losses-before.result c.tended.result c.self.view_is
    (ask_may c.self.inside.run c.deliver-lost.result due (phase_in c.args.self.now c.self.inside.run c.self.inside.first.value c.self.inside.shop (room_of c.self.inside.journal) phase.Dialed c.self.view_is c.requires.phase)) c.in_ok-frame.ensures.ok c.note.ensures (sent_as_due g.S.Shop.tells_vehicle (g.S.Shop.history c.self.inside.shop) (g.S.Shop.history c.deliver-lost.new.shop) c.deliver-lost.result c.as_slice.result.now c.in_ok-frame.frame (activate_bytes c.rules.result.tester) (activate_bytes c.self.inside.run.rules.tester) c.as_slice.ensures (frame_is c.activation-made.result c.in_ok-frame.frame (activate_bytes c.rules.result.tester) c.in_ok-frame.ensures.frame c.activation-made.ensures).are (ap (λ (k : LinkRules). activate_bytes k.tester) c.rules.ensures) c.deliver-lost.ensures) c.losses-before.ensures c.tended.ensures
