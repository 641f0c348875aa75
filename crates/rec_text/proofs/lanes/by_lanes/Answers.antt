use Rattle.std.proofs.Common.{◌+◌, ◌∙◌, ◌≤◌, ap, refl, arith}
use Rattle.rec_text.specs.Digits.{bytes_of}
use Rattle.rec_text.proofs.Spelled.{behind_none, block_more, block_sum}
use Rattle.rec_text.proofs.lanes.by_lanes.Goals as goal

pub loop-k-init : goal.loop-k-init
loop-k-init c = record { spelled = behind_none (bytes_of c.args.digits.now); total = refl; small = omega arith; within = omega arith }

pub loop-k-preserved : goal.loop-k-preserved
loop-k-preserved c =
    let b = c.in-Some.ensures in
    let s : c.in-Some.sum ≤ 4080 = b.small in
    record {
      spelled = c.loop-k.invariant.spelled ∙ block_more c.args.digits.now c.loop-k.out c.block.new.out c.loop-k.k c.in-Some.sum (omega arith) b;
      total = ap (λ t. t + c.in-Some.sum) c.loop-k.invariant.total ∙ block_sum c.args.digits.now c.loop-k.out c.block.new.out c.loop-k.k c.in-Some.sum b;
      small = omega arith;
      within = omega arith;
    }
