use Rattle.std.proofs.Common.{◌-◌, length, sym, arith}
use Rattle.rec_text.proofs.Ends.{return_at_end, other_at_end}
use Rattle.rec_text.proofs.line.without_return.Goals as goal

pub returns-then-line-n-eq13 : goal.returns-then-line-n-eq13
returns-then-line-n-eq13 c = sym (return_at_end c.args.line.now (length c.args.line.now - 1) (omega arith) c.if-line-n-eq13.true)

pub returns : goal.returns
returns c = sym (other_at_end c.args.line.now (length c.args.line.now - 1) (omega arith) c.if-line-n-eq13.false)
