use Rattle.std.proofs.Common.{◌≡◌}
use Rattle.flash_journal.specs.Kept.{room_of}
use Rattle.flash_bay.proofs.Sends.{asks_send, due_in, fed_send, plan_here, spot_here}
use Rattle.flash_run.specs.Need.{need_of}
use Rattle.flash_run.specs.declared.need.Need.TheVariants as need
use Rattle.flash_bay.proofs.bay.Bay.spot.Goals as goal

pub spot-requires-clause-fed : goal.spot-requires-clause-fed
spot-requires-clause-fed g c =
    let due : need_of c.self.inside.run c.args.unit ≡ need.Send = due_in c.args.self.now c.self.inside.run c.self.inside.first.value c.self.inside.shop (room_of c.self.inside.journal) c.args.unit c.self.view_is c.requires.due in
    fed_send c.self.inside.run c.args.unit c.is_due.ensures due

pub returns-clause-is : goal.returns-clause-is
returns-clause-is g c =
    spot_here c.args.self.now c.self.inside.run c.self.inside.first.value c.self.inside.shop (room_of c.self.inside.journal) c.args.unit c.spot.result c.self.view_is c.spot.ensures.is

pub returns-clause-asks : goal.returns-clause-asks
returns-clause-asks g c =
    let due : need_of c.self.inside.run c.args.unit ≡ need.Send = due_in c.args.self.now c.self.inside.run c.self.inside.first.value c.self.inside.shop (room_of c.self.inside.journal) c.args.unit c.self.view_is c.requires.due in
    asks_send c.self.inside.run c.args.unit c.is_due.ensures due c.args.plan.now c.spot.result
    (plan_here c.args.self.now c.self.inside.run c.self.inside.first.value c.self.inside.shop (room_of c.self.inside.journal) c.args.plan.now c.self.view_is c.requires.plan) c.spot.ensures
