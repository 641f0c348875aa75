use Rattle.rec_text.proofs.Digits.{both_digits}
use Rattle.rec_text.proofs.spelling.push_both.Goals as goal

pub returns : goal.returns
returns c = both_digits c.push_digits-2.new.text c.push_digits.new.text c.args.text.now c.args.head.now c.args.rest.now c.in_ok-push_digits.ensures c.in_ok-push_digits-2.ensures
