use Rattle.std.proofs.Common.{◌<◌, ◌∙◌, arith, length}
use Rattle.vehicle_file.proofs.Inside.{passed, run_in}
use Rattle.vehicle_file.proofs.memory.left_from.Goals as goal

pub returns-in-Some : goal.returns-in-Some
returns-in-Some c =
    let lt : c.loop-region.region-index < length c.args.regions.now = omega arith in
    (c.in-Some.ensures.0, run_in c.args.regions.now c.loop-region.region-index _ c.args.at c.in-Some.n lt c.in-Some.ensures.1 c.in-Some.ensures.2)

pub loop-region-preserved : goal.loop-region-preserved
loop-region-preserved c =
    let lt : c.loop-region.region-index < length c.args.regions.now = omega arith in
    c.loop-region.invariant ∙ passed c.args.regions.now c.loop-region.region-index _ c.args.at lt c.in_default.ensures
