use Rattle.std.proofs.Common.{length}
use Rattle.shop_model.specs.History.{ReadAt}
use Rattle.folder_shop.specs.Moments.{vehicle_of}
use Rattle.folder_shop.proofs.shop.BenchShopShop.read_at.Goals as goal

pub returns-then-is_over-clause-call : goal.returns-then-is_over-clause-call
returns-then-is_over-clause-call g c = c.late_disk_call.ensures.call (ReadAt c.args.at (length c.args.out.now)) (vehicle_of c.args.self.now.world)
