use Rattle.std.proofs.Common.{sym, ◌∙◌}
use Rattle.flash_run.proofs.Ends.{blocking_now, stopped_now, within_run}
use Rattle.flash_run.proofs.run.Run.end_now.Goals as goal

pub returns-then-is_stopped : goal.returns-then-is_stopped
returns-then-is_stopped c =
    stopped_now c.args.self.now c.args.unit c.stop_for.result (within_run c.args.self.now c.args.plan.now c.args.unit c.requires.plan c.requires.within) (sym c.lacks_outcome.ensures ∙ c.if-not-lacks_outcome.false) (sym c.is_stopped.ensures ∙ c.if-is_stopped.true) c.stop_for.ensures

pub returns : goal.returns
returns c =
    blocking_now c.args.self.now c.args.unit c.blocked.result (within_run c.args.self.now c.args.plan.now c.args.unit c.requires.plan c.requires.within) (sym c.lacks_outcome.ensures ∙ c.if-not-lacks_outcome.false) c.requires.over (sym c.is_stopped.ensures ∙ c.if-is_stopped.false) c.blocked.ensures
