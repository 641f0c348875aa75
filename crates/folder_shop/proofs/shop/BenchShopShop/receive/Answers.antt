use Rattle.shop_model.specs.History.{Receive, Received}
use Rattle.folder_shop.specs.Moments.{vehicle_of}
use Rattle.folder_shop.proofs.Calling.{between, called, late_received}
use Rattle.folder_shop.proofs.shop.BenchShopShop.receive.Goals as goal

pub returns-then-is_over-clause-call : goal.returns-then-is_over-clause-call
returns-then-is_over-clause-call g c =
    c.late_link_call.ensures.call Receive (vehicle_of c.args.self.now.world)

pub returns-then-is_over-clause-vehicle : goal.returns-then-is_over-clause-vehicle
returns-then-is_over-clause-vehicle g c =
    late_received c.args.out.now (Unit {0}) c.args.self.now.told c.late_link_call.new.self c.args.self.now.world
    c.late_link_call.result c.late_link_call.ensures.fails

pub returns-clause-call : goal.returns-clause-call
returns-clause-call g c =
    called Receive c.args.self.now.told c.keep_receive-may.new.self.told c.link_call.new.self
    c.args.self.now.world c.of-world.result.value (vehicle_of c.receive-answer.new.world) c.link_call.result
    c.keep_receive-may.ensures.told c.of-world.ensures
    (c.link_call.ensures.call (vehicle_of c.receive-answer.new.world))

pub returns-clause-vehicle : goal.returns-clause-vehicle
returns-clause-vehicle g c =
    between (λ a b r. Received c.receive-answer.new.out (Unit {0}) a b r) c.args.self.now.told
    c.link_call.new.self c.args.self.now.world c.keep_receive-may.new.self.world
    c.receive-answer.new.world c.receive-answer.result c.link_call.result
    c.keep_receive-may.ensures.world c.link_call.ensures.same c.receive-answer.ensures.received
