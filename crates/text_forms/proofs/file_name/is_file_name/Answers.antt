use Rattle.std.proofs.Common.{rules, arith, ◌≡◌, true, length, nat_le}
use Rattle.std.proofs.lemmas.Bool.Decides.{nat_tests}
use Rattle.std.specs.List.{list_all}
use Rattle.text_forms.specs.FileNames.{may_follow, begins, file_name}
use Rattle.text_forms.proofs.file_name.is_file_name.Goals as goal

pub returns : goal.returns
returns c =
    let first : begins c.args.text.now ≡ true = search rules in
    let short : nat_le (length c.args.text.now) 128 ≡ true = grind (arith, nat_tests) in
    let rest : c.all_follow.result ≡ list_all may_follow c.args.text.now = search rules in
    rw (first, short) rest
