use Rattle.flash_plan.proofs.Writes.{head_pieces}
use Rattle.flash_plan.proofs.writing.put_segment_head.Goals as goal

pub returns : goal.returns
returns c = head_pieces c.args.segment.now c.args.out.now c.put_number.new.out c.put_number-2.new.out c.len.result c.in_ok-put_number.ensures c.len.ensures c.in_ok-put_number-2.ensures
