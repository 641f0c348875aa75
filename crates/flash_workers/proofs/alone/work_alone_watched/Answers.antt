use Rattle.flash_workers.proofs.Steps.{worked}
use Rattle.flash_workers.proofs.alone.work_alone_watched.Goals as goal

pub returns : goal.returns
returns g c = worked g.S.Shop.tells_disk g.S.Shop.tells_vehicle g.S.Shop.history c.args.bay c.finish.new.bay c.close.result.0 c.close.result.1 c.finish.ensures.grows c.close.ensures
