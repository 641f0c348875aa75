use Rattle.mem_disk.specs.Made.{said_bytes}
use Rattle.shop_model.specs.History.{Send, Sent}
use Rattle.folder_shop.specs.Moments.{vehicle_of}
use Rattle.folder_shop.proofs.Calling.{between, late_sent, sent_as}
use Rattle.folder_shop.proofs.shop.BenchShopShop.send.Goals as goal

pub returns-then-is_over-clause-call : goal.returns-then-is_over-clause-call
returns-then-is_over-clause-call g c =
    c.late_link_call.ensures.call (Send c.args.bytes.now) (vehicle_of c.args.self.now.world)

pub returns-then-is_over-clause-vehicle : goal.returns-then-is_over-clause-vehicle
returns-then-is_over-clause-vehicle g c =
    late_sent c.args.bytes.now c.args.self.now.told c.late_link_call.new.self c.args.self.now.world
    c.late_link_call.result c.nothing_sent.ensures c.late_link_call.ensures.fails

pub returns-clause-call : goal.returns-clause-call
returns-clause-call g c =
    sent_as (said_bytes c.seen.result) c.args.bytes.now c.args.self.now.told c.keep_send-may.new.self.told
    c.link_call.new.self c.args.self.now.world c.of-world.result.value (vehicle_of c.send-answer.new.world)
    c.link_call.result c.seen.ensures c.keep_send-may.ensures.told c.of-world.ensures
    (c.link_call.ensures.call (vehicle_of c.send-answer.new.world))

pub returns-clause-vehicle : goal.returns-clause-vehicle
returns-clause-vehicle g c =
    between (λ a b r. Sent c.args.bytes.now a b r) c.args.self.now.told c.link_call.new.self
    c.args.self.now.world c.keep_send-may.new.self.world c.send-answer.new.world c.send-answer.result
    c.link_call.result c.keep_send-may.ensures.world c.link_call.ensures.same c.send-answer.ensures.sent
