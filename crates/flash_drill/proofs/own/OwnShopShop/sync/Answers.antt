use Rattle.std.proofs.Common.{◌∙◌}
use Rattle.flash_drill.proofs.Quiet.{disk_quiet}
use Rattle.shop_model.specs.History.{Sync}
use Rattle.flash_drill.proofs.own.OwnShopShop.sync.Goals as goal

pub invariant_of-self : goal.invariant_of-self
invariant_of-self c = record {
  plain = c.sync.ensures.kept.plan.plan ∙ c.args.self.now.plain;
  quiet = disk_quiet Sync c.args.self.now.shop c.sync.new.self c.sync.result c.args.self.now.plain c.args.self.now.quiet
      c.sync.ensures.call c.sync.ensures.exact c.sync.ensures.kept c.sync.ensures.counted tt;
}
