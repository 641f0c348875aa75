use Rattle.std.proofs.Common.{inl, subst}
use Rattle.flash_bay.specs.Opened.{IsOpened}
use Rattle.flash_plan.specs.declared.unit.LinkRules.{LinkRules}
use Rattle.flash_commands.proofs.Worked.{is_reported}
use Rattle.flash_commands.proofs.running.run_built.Goals as goal

pub returns-in-Ok-clause-ends : goal.returns-in-Ok-clause-ends
returns-in-Ok-clause-ends g c =
    let opened = subst (λ (r : LinkRules). IsOpened g.S.Shop.tells_disk g.S.Shop.history c.args.built.now.plan r c.args.shop c.in-Ok.bay) c.rules_of-rules.ensures c.in-Ok.ensures.ok in
    inl (is_reported g.S.Shop.tells_disk g.S.Shop.tells_vehicle g.S.Shop.history c.args.built.now c.args.shop c.work_watched-shop.result.0 c.in-Ok.bay c.work_watched-shop.result.1
    g.K.Sink.tells (g.K.Sink.history c.args.out.now) (g.K.Sink.history c.finish-status.new.out) c.finish-status.result opened c.work_watched-shop.ensures c.finish-status.ensures.printed)
