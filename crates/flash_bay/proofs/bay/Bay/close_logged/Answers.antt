use Rattle.flash_bay.proofs.Closes.{closes, over_in}
use Rattle.flash_journal.specs.Kept.{room_of}
use Rattle.flash_bay.proofs.bay.Bay.close_logged.Goals as goal

pub finish-requires-clause-over : goal.finish-requires-clause-over
finish-requires-clause-over g c = over_in c.args.self c.self.inside.run c.self.inside.first.value c.self.inside.shop (room_of c.self.inside.journal) c.self.view_is c.requires.open c.requires.claimed

pub returns : goal.returns
returns g c =
    closes g.S.Shop.tells_disk g.S.Shop.tells_vehicle g.S.Shop.history c.args.self c.self.inside.run c.finish.new.self c.self.inside.first.value c.self.inside.shop (room_of c.self.inside.journal) c.self.inside.journal c.into_log-board.result.0 c.into_log-board.result.1
    c.self.view_is c.finish.ensures.finishes c.finish.ensures.ended c.is_kept.ensures c.into_log-board.ensures.board c.into_log-board.ensures.log c.self.invariant
