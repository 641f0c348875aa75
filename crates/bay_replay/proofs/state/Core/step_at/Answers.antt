use Rattle.std.proofs.Common.{◌≡◌, ◌+◌, ◌<◌, ◌≤◌, take, ap, arith}
use Rattle.std.specs.Prelude.{Bool}
use Rattle.barrier_board.specs.Board.{has_entry}
use Rattle.bay_core.specs.Core.{core_start}
use Rattle.bay_replay.specs.Held.{Told, Takes}
use Rattle.bay_replay.specs.Replays.{core_by, told_by, TakesAt}
use Rattle.bay_replay.proofs.Lists.{few_ticks, if_ok, takes_at}
use Rattle.bay_replay.proofs.state.Core.step_at.Goals as goal

pub step-requires : goal.step-requires
step-requires g c =
    let is : g.told ≡ told_by c.args.rules.now c.args.plan.now c.args.found.now (take c.args.i c.args.events.now) = c.requires.1.1.0 in
    let few : (core_by c.args.rules.now c.args.plan.now c.args.found.now (take c.args.i c.args.events.now)).link.ticks ≤ 0 + c.args.i =
    few_ticks c.args.rules.now c.args.plan.now c.args.events.now c.args.i (core_start c.args.plan.now (has_entry c.args.found.now)) in
    let same : g.told.core.link.ticks ≡ (core_by c.args.rules.now c.args.plan.now c.args.found.now (take c.args.i c.args.events.now)).link.ticks = ap (λ (t : Told). t.core.link.ticks) is in
    let low : c.args.i < 9223372036854775808 = c.requires.1.0 in
    (c.requires.1.1.1, (ap (λ (t : Told). t.rules) is, omega (arith, few, same, low)))

pub returns : goal.returns
returns g c =
    if_ok c.step.result (λ (ok : Bool). Takes c.args.plan.now c.at.result.now g.told c.args.self.now ok c.step.new.self)
    (λ (ok : Bool). TakesAt c.args.rules.now c.args.plan.now c.args.found.now c.args.events.now c.args.i ok c.step.new.self)
    (λ ok took. takes_at c.args.rules.now c.args.plan.now c.args.found.now c.args.events.now c.args.i c.at.result.now g.told c.args.self.now ok c.step.new.self c.requires.1.1.0 c.at.ensures took) c.step.ensures.takes
