use Rattle.bench_shop.proofs.Calling.{disk_call, disk_fails, later_past}
use Rattle.bench_shop.proofs.shop.MemoryShopShop.len.Goals as goal

pub returns-clause-call : goal.returns-clause-call
returns-clause-call c = disk_call _ c.args.self.now.disk c.len.new.self c.args.self.now.bench _ c.args.self.now.last
    (later_past c.args.self.now.disk c.len.new.self c.args.self.now.bench c.args.self.now.last c.len.ensures.call.passes.moment) c.len.ensures.call

pub returns-clause-exact : goal.returns-clause-exact
returns-clause-exact c = disk_fails c.args.self.now.plan.disk c.args.self.now.disk c.len.new.self c.args.self.now.bench _
    c.args.self.now.listed c.len.ensures.exact
