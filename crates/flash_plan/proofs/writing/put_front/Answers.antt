use Rattle.flash_plan.proofs.Writes.{front_pieces}
use Rattle.flash_plan.proofs.writing.put_front.Goals as goal

pub returns : goal.returns
returns c = front_pieces c.args.unit.now c.args.out.now c.put_head.new.out c.push.new.self c.put_idents.new.out c.push-2.new.self c.put_after.new.out c.put_number.new.out
    c.len.result c.len-2.result c.len-3.result
    c.in_ok-put_head.ensures c.len.ensures c.in_ok-push.ensures.ok c.in_ok-put_idents.ensures c.len-2.ensures c.in_ok-push-2.ensures.ok c.in_ok-put_after.ensures
    c.len-3.ensures c.in_ok-put_number.ensures
