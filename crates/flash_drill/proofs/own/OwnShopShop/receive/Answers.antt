use Rattle.std.proofs.Common.{◌∙◌, length, sym, subst}
use Rattle.flash_drill.proofs.Calm.{polled_calm, Stays}
use Rattle.flash_drill.proofs.Quiet.{link_quiet, no_piece, on_ok, plain_receive, shown_receive}
use Rattle.shop_model.specs.History.{Receive}
use Rattle.vehicle_world.specs.Worlds.{Simulated, world_of}
use Rattle.flash_drill.proofs.own.OwnShopShop.receive.Goals as goal

pub invariant_of-self : goal.invariant_of-self
invariant_of-self c = record {
  plain = c.receive.ensures.kept.plan ∙ c.args.self.now.plain;
  quiet = link_quiet Receive c.args.self.now.shop c.receive.new.self c.receive.result c.args.self.now.plain c.args.self.now.quiet
      c.receive.ensures.call c.receive.ensures.exact c.receive.ensures.kept
      (plain_receive c.receive.new.out c.args.self.now.shop c.receive.new.self c.receive.result c.args.self.now.plain c.receive.ensures.garbled)
      (λ ok e f. shown_receive c.receive.new.out _ _ _ _ c.receive.result c.receive.ensures.vehicle e f)
      (λ ok calm. subst (λ (x : Simulated). Stays (world_of c.args.self.now.shop.bench.world).state x.state)
      (sym (on_ok c.receive.result _ ok (c.receive.ensures.does (no_piece c.args.self.now.shop c.args.self.now.plain)))) (polled_calm (length c.args.out.now) (world_of c.args.self.now.shop.bench.world).state calm));
}
