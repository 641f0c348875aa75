use Rattle.std.proofs.Common.{codes, decimal}
use Rattle.run_report.specs.Forms.{shown}
use Rattle.run_report.proofs.Texts.{three_pairs}
use Rattle.run_report.proofs.refusing.put_size.Goals as goal

pub returns : goal.returns
returns c = three_pairs c.args.out.now c.put_id.new.out c.put_number.new.out c.put_number-2.new.out
    (codes "binary size ") (shown c.args.id.now) (codes " ") (decimal c.args.said) (codes " ") (decimal c.args.seen)
    c.in_ok-put_id.ensures c.in_ok-put_number.ensures c.in_ok-put_number-2.ensures
