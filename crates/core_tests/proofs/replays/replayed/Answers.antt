use Rattle.std.proofs.Common.{◌≡◌, length, arith}
use Rattle.flash_plan.specs.Plan.{count_of}
use Rattle.core_tests.proofs.replays.replayed.Goals as goal

pub outcome-requires : goal.outcome-requires
outcome-requires c =
    let size : length c.board.result.now ≡ count_of c.args.plan.now = (c.board.ensures c.args.plan.now _ c.in-Ok.ensures.holds).size in
    omega (arith, size)
