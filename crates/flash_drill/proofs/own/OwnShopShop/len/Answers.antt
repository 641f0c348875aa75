use Rattle.std.proofs.Common.{◌∙◌}
use Rattle.flash_drill.proofs.Quiet.{disk_quiet}
use Rattle.shop_model.specs.History.{Len}
use Rattle.flash_drill.proofs.own.OwnShopShop.len.Goals as goal

pub invariant_of-self : goal.invariant_of-self
invariant_of-self c = record {
  plain = c.len.ensures.kept.plan.plan ∙ c.args.self.now.plain;
  quiet = disk_quiet Len c.args.self.now.shop c.len.new.self c.len.result c.args.self.now.plain c.args.self.now.quiet
      c.len.ensures.call c.len.ensures.exact c.len.ensures.kept c.len.ensures.counted tt;
}
