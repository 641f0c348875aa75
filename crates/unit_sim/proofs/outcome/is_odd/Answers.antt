use Rattle.std.proofs.Common.{◌∙◌, sym, ap}
use Rattle.unit_sim.specs.Done.{is_strange}
use Rattle.unit_sim.proofs.Judging.{judged_as}
use Rattle.unit_sim.proofs.outcome.is_odd.Goals as goal

pub returns-in-Some : goal.returns-in-Some
returns-in-Some c = c.is_strange.ensures ∙ ap is_strange (sym (judged_as c.args.heard.bytes.now c.args.body.now _ _ _ c.requires.asked (sym c.awaited.ensures ∙ c.in-Some.is) c.judge.ensures.answer))
