use Rattle.std.proofs.Common.{◌∙◌, length}
use Rattle.flash_drill.proofs.Quiet.{disk_quiet}
use Rattle.shop_model.specs.History.{ReadAt}
use Rattle.flash_drill.proofs.own.OwnShopShop.read_at.Goals as goal

pub invariant_of-self : goal.invariant_of-self
invariant_of-self c = record {
  plain = c.read_at.ensures.kept.plan.plan ∙ c.args.self.now.plain;
  quiet = disk_quiet (ReadAt c.args.at (length c.args.out.now)) c.args.self.now.shop c.read_at.new.self c.read_at.result c.args.self.now.plain c.args.self.now.quiet
      c.read_at.ensures.call c.read_at.ensures.exact c.read_at.ensures.kept c.read_at.ensures.counted tt;
}
