use Rattle.std.proofs.Common.{◌≡◌, refl, true}
use Rattle.bay_core.specs.declared.event.Heard.TheVariants as heard
use Rattle.flash_bay.proofs.Collects.{collect_in, collects_is, fed_collect, inbox_in, may_collect, word_is, word_keeps}
use Rattle.flash_bay.proofs.Links.{starved_keeps}
use Rattle.flash_bay.specs.declared.answers.Collected.TheVariants.{Heard}
use Rattle.flash_journal.specs.Kept.{room_of}
use Rattle.flash_run.specs.Need.{need_of}
use Rattle.flash_run.specs.Run.{core_of_run}
use Rattle.flash_run.specs.declared.need.Need.TheVariants as need
use Rattle.flash_bay.proofs.bay.Bay.take_word.Goals as goal

pub make_room-requires-clause-fed : goal.make_room-requires-clause-fed
make_room-requires-clause-fed g c =
    let due : need_of c.self.inside.run c.args.unit ≡ need.Collect = collect_in c.args.self.now c.self.inside.run c.self.inside.first.value c.self.inside.shop (room_of c.self.inside.journal) c.args.unit c.self.view_is c.requires.due in
    fed_collect c.self.inside.run c.args.unit c.is_due.ensures due

pub invariant_of-self : goal.invariant_of-self
invariant_of-self g c =
    let due : need_of c.self.inside.run c.args.unit ≡ need.Collect = collect_in c.args.self.now c.self.inside.run c.self.inside.first.value c.self.inside.shop (room_of c.self.inside.journal) c.args.unit c.self.view_is c.requires.due in
    starved_keeps g.S.Shop.tells_disk g.S.Shop.tells_vehicle c.self.inside.run c.make_room.new.run (g.S.Shop.history c.self.inside.first.value) (g.S.Shop.history c.self.inside.shop) c.self.inside.journal (fed_collect c.self.inside.run c.args.unit c.is_due.ensures due) c.in_err-make_room.ensures.wants c.self.invariant

pub invariant_of-self-2 : goal.invariant_of-self-2
invariant_of-self-2 g c =
    word_keeps g.S.Shop.tells_disk g.S.Shop.tells_vehicle c.self.inside.run c.make_room.new.run c.note.new.self c.args.unit (g.S.Shop.history c.self.inside.first.value) (g.S.Shop.history c.self.inside.shop) c.self.inside.journal c.in_ok-make_room.ensures.ok c.note.ensures c.self.invariant

pub returns-clause-ok : goal.returns-clause-ok
returns-clause-ok g c =
    let due : need_of c.self.inside.run c.args.unit ≡ need.Collect = collect_in c.args.self.now c.self.inside.run c.self.inside.first.value c.self.inside.shop (room_of c.self.inside.journal) c.args.unit c.self.view_is c.requires.due in
    collects_is g.S.Shop.tells_vehicle g.S.Shop.history c.args.self.now c.self.inside.run c.make_room.new.run c.note.new.self c.self.inside.first.value c.self.inside.shop c.self.inside.shop (room_of c.self.inside.journal) c.args.unit heard.Kept Heard c.self.view_is
    (may_collect c.self.inside.run c.args.unit c.is_due.ensures due heard.Kept (inbox_in c.args.self.now c.self.inside.run c.self.inside.first.value c.self.inside.shop (room_of c.self.inside.journal) c.args.unit true c.self.view_is c.requires.word)) c.in_ok-make_room.ensures.ok c.note.ensures refl (word_is c.self.inside.run.rules c.self.inside.run.plan c.args.unit (core_of_run c.self.inside.run).link)
