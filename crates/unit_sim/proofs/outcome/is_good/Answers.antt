use Rattle.std.proofs.Common.{◌∙◌, sym, ap}
use Rattle.unit_model.specs.Step.{is_good}
use Rattle.unit_sim.proofs.Judging.{judged_as}
use Rattle.unit_sim.proofs.outcome.is_good.Goals as goal

pub returns-in-Some : goal.returns-in-Some
returns-in-Some c = λ r is. c.is_accepted.ensures ∙ ap is_good (sym (judged_as c.args.heard.bytes.now c.args.answer.now _ _ _ c.requires.asked (sym c.awaited.ensures ∙ c.in-Some.is) c.judge.ensures.answer))
