use Rattle.shop_model.specs.History.{Redial, Redialed}
use Rattle.folder_shop.specs.Moments.{vehicle_of}
use Rattle.folder_shop.proofs.Calling.{between, called}
use Rattle.folder_shop.proofs.shop.BenchShopShop.redial.Goals as goal

pub returns-then-is_over-clause-call : goal.returns-then-is_over-clause-call
returns-then-is_over-clause-call g c =
    c.late_link_call.ensures.call Redial (vehicle_of c.args.self.now.world)

pub returns-clause-call : goal.returns-clause-call
returns-clause-call g c =
    called Redial c.args.self.now.told c.keep-may.new.self.told c.link_call.new.self
    c.args.self.now.world c.of-world.result.value (vehicle_of c.redial-answer.new.world) c.link_call.result
    c.keep-may.ensures.told c.of-world.ensures
    (c.link_call.ensures.call (vehicle_of c.redial-answer.new.world))

pub returns-clause-vehicle : goal.returns-clause-vehicle
returns-clause-vehicle g c =
    between (λ a b r. Redialed a b r) c.args.self.now.told c.link_call.new.self
    c.args.self.now.world c.keep-may.new.self.world c.redial-answer.new.world c.redial-answer.result
    c.link_call.result c.keep-may.ensures.world c.link_call.ensures.same c.redial-answer.ensures.redialed
