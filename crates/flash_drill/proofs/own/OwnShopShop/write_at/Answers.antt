use Rattle.std.proofs.Common.{◌∙◌}
use Rattle.flash_drill.proofs.Quiet.{disk_quiet}
use Rattle.shop_model.specs.History.{WriteAt}
use Rattle.flash_drill.proofs.own.OwnShopShop.write_at.Goals as goal

pub invariant_of-self : goal.invariant_of-self
invariant_of-self c = record {
  plain = c.write_at.ensures.kept.plan.plan ∙ c.args.self.now.plain;
  quiet = disk_quiet (WriteAt c.args.at c.args.bytes.now) c.args.self.now.shop c.write_at.new.self c.write_at.result c.args.self.now.plain c.args.self.now.quiet
      c.write_at.ensures.call c.write_at.ensures.exact c.write_at.ensures.kept c.write_at.ensures.counted tt;
}
