use Rattle.std.proofs.Common.{◌<◌, length, arith}
use Rattle.flash_commands.proofs.Verdicts.{board_more}
use Rattle.flash_commands.proofs.outcomes.outcomes_of.Goals as goal

pub loop-unit-preserved : goal.loop-unit-preserved
loop-unit-preserved c =
    let within : c.loop-unit.unit < length c.args.board.now = omega (arith, c.loop-unit-test.true, c.units-unit-end.ensures, c.requires) in
    board_more c.args.board.now c.loop-unit.unit c.outcome.result c.given.result c.loop-unit.outcomes c.push.new.self within c.outcome.ensures c.given.ensures c.loop-unit.invariant c.in_ok-push.ensures.ok
