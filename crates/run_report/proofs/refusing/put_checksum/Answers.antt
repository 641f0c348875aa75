use Rattle.std.proofs.Common.{codes}
use Rattle.hex.specs.Hex.{encode_lower}
use Rattle.run_report.specs.Forms.{shown}
use Rattle.run_report.proofs.Texts.{three_pairs}
use Rattle.run_report.proofs.refusing.put_checksum.Goals as goal

pub returns : goal.returns
returns c = three_pairs c.args.out.now c.put_id.new.out c.put_digits.new.out c.put_digits-2.new.out
    (codes "checksum differs ") (shown c.args.name.now) (codes " ") (encode_lower c.args.said.now) (codes " ") (encode_lower c.args.got.now)
    c.in_ok-put_id.ensures c.in_ok-put_digits.ensures c.in_ok-put_digits-2.ensures
