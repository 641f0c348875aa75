use Rattle.flash_journal.specs.Kept.{room_of}
use Rattle.flash_bay.proofs.Calls.{says_of}
use Rattle.flash_bay.proofs.bay.Bay.says.Goals as goal

pub returns : goal.returns
returns g c =
    says_of g.S.Shop.tells_disk g.S.Shop.tells_vehicle g.S.Shop.history c.args.self.now c.self.inside.run c.self.inside.first.value c.self.inside.shop (room_of c.self.inside.journal) c.self.inside.journal
    c.self.view_is c.is_kept.ensures c.self.invariant
