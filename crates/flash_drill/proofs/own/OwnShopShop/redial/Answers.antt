use Rattle.std.proofs.Common.{◌∙◌, sym, subst}
use Rattle.flash_drill.proofs.Calm.{redialed_calm, Stays}
use Rattle.flash_drill.proofs.Quiet.{link_quiet, on_ok}
use Rattle.shop_model.specs.History.{Redial}
use Rattle.vehicle_world.specs.Worlds.{Simulated, world_of}
use Rattle.flash_drill.proofs.own.OwnShopShop.redial.Goals as goal

pub invariant_of-self : goal.invariant_of-self
invariant_of-self c = record {
  plain = c.redial.ensures.kept.plan ∙ c.args.self.now.plain;
  quiet = link_quiet Redial c.args.self.now.shop c.redial.new.self c.redial.result c.args.self.now.plain c.args.self.now.quiet
      c.redial.ensures.call c.redial.ensures.exact c.redial.ensures.kept
      (λ ok. on_ok c.redial.result _ ok c.redial.ensures.counted)
      (λ ok e f. tt)
      (λ ok calm. subst (λ (x : Simulated). Stays (world_of c.args.self.now.shop.bench.world).state x.state)
      (sym (on_ok c.redial.result _ ok c.redial.ensures.does)) (redialed_calm (world_of c.args.self.now.shop.bench.world).state calm));
}
