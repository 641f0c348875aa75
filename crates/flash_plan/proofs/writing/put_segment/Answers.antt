use Rattle.flash_plan.proofs.Writes.{segment_pieces}
use Rattle.flash_plan.proofs.writing.put_segment.Goals as goal

pub returns : goal.returns
returns c = segment_pieces c.args.segment.now c.args.out.now c.put_segment_head.new.out c.extend.new.self c.as_slice.result.now c.in_ok-put_segment_head.ensures c.as_slice.ensures c.in_ok-extend.ensures.ok
