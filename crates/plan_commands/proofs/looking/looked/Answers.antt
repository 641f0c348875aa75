use Rattle.plan_commands.proofs.Journals.{looked_so}
use Rattle.plan_commands.proofs.looking.looked.Goals as goal

pub returns-clause-is : goal.returns-clause-is
returns-clause-is g c =
    looked_so g.S.Shop.tells_disk (g.S.Shop.history c.args.shop.now) (g.S.Shop.history c.look-given.new.shop) c.args.plan.now c.look-given.result c.shown.result
    c.look-given.ensures.answer c.look-given.ensures.read c.look-given.ensures.cause c.shown.ensures

pub returns-clause-reads : goal.returns-clause-reads
returns-clause-reads g c = record { same = c.look-given.ensures.same; disk = c.look-given.ensures.disk; later = c.look-given.ensures.later }
