use Rattle.std.proofs.Common.{◌∙◌, sym, subst}
use Rattle.flash_drill.proofs.Calm.{fed_calm, Stays}
use Rattle.flash_drill.proofs.Quiet.{link_quiet, on_ok}
use Rattle.shop_model.specs.History.{Send}
use Rattle.vehicle_world.specs.Worlds.{Simulated, world_of}
use Rattle.flash_drill.proofs.own.OwnShopShop.send.Goals as goal

pub invariant_of-self : goal.invariant_of-self
invariant_of-self c = record {
  plain = c.send.ensures.kept.plan ∙ c.args.self.now.plain;
  quiet = link_quiet (Send c.args.bytes.now) c.args.self.now.shop c.send.new.self c.send.result c.args.self.now.plain c.args.self.now.quiet
      c.send.ensures.call c.send.ensures.exact c.send.ensures.kept
      (λ ok. on_ok c.send.result _ ok c.send.ensures.counted)
      (λ ok e f. tt)
      (λ ok calm. subst (λ (x : Simulated). Stays (world_of c.args.self.now.shop.bench.world).state x.state)
      (sym (on_ok c.send.result _ ok c.send.ensures.does)) (fed_calm c.args.bytes.now (world_of c.args.self.now.shop.bench.world).state calm));
}
