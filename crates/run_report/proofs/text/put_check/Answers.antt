use Rattle.run_report.proofs.Lines.{check_pieces}
use Rattle.run_report.proofs.text.put_check.Goals as goal

pub returns : goal.returns
returns c = check_pieces c.args.out.now c.put_named.new.out c.extend.new.self c.put_decimal.new.out c.extend-2.new.self c.put_two.new.out c.args.routine c.args.segment c.args.status
    c.in_ok-put_named.ensures c.in_ok-extend.ensures.ok c.in_ok-put_decimal.ensures c.in_ok-extend-2.ensures.ok c.in_ok-put_two.ensures
