use Rattle.flash_workers.proofs.Steps.{worked_logged}
use Rattle.flash_workers.proofs.together.work_told.Goals as goal

pub returns : goal.returns
returns g c =
    worked_logged g.S.Shop.tells_disk g.S.Shop.tells_vehicle g.S.Shop.history c.args.bay c.in_turns-bay.result c.finish.new.bay c.close_logged.result.0 c.close_logged.result.1 c.close_logged.result.2
    c.in_turns-bay.ensures c.finish.ensures.grows c.close_logged.ensures
