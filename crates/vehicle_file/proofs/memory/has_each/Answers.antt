use Rattle.std.proofs.Common.{◌≤◌, ◌∙◌, arith}
use Rattle.unit_model.specs.Regions.{filled}
use Rattle.vehicle_file.proofs.Inside.{fewer, stepped}
use Rattle.vehicle_file.proofs.memory.has_each.Goals as goal

pub loop-left-preserved : goal.loop-left-preserved
loop-left-preserved c =
    let few : c.min-n.result ≤ c.loop-left.left = omega arith in
    let less : c.min-n.result ≤ c.in-Some.n = omega arith in
    record {
      ends = omega (arith, few, c.loop-left.invariant.ends);
      same =
          stepped c.min-n.result c.loop-left.left c.loop-left.next (filled c.args.regions.now) few
          (fewer c.min-n.result c.in-Some.n c.loop-left.next (filled c.args.regions.now) less c.in-Some.ensures.1)
          ∙ c.loop-left.invariant.same;
    }
