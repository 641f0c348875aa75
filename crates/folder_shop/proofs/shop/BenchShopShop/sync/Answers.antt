use Rattle.shop_model.specs.History.{Sync}
use Rattle.folder_shop.specs.Moments.{vehicle_of}
use Rattle.folder_shop.proofs.shop.BenchShopShop.sync.Goals as goal

pub returns-then-is_over-clause-call : goal.returns-then-is_over-clause-call
returns-then-is_over-clause-call g c = c.late_disk_call.ensures.call Sync (vehicle_of c.args.self.now.world)
