use Rattle.shop_model.specs.History.{WriteAt}
use Rattle.folder_shop.specs.Moments.{vehicle_of}
use Rattle.folder_shop.proofs.shop.BenchShopShop.write_at.Goals as goal

pub returns-then-is_over-clause-call : goal.returns-then-is_over-clause-call
returns-then-is_over-clause-call g c = c.late_disk_call.ensures.call (WriteAt c.args.at c.args.bytes.now) (vehicle_of c.args.self.now.world)
