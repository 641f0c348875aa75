use Rattle.std.proofs.Common.{rules, lit<}
use Rattle.std.proofs.lemmas.Str.Pattern.{strip_prefix_char}
use Rattle.text_forms.proofs.Blanks.{front_decided}
use Rattle.text_forms.proofs.trim.after_blank.Goals as goal

pub returns-clause-value : goal.returns-clause-value
unfolding lib.Utf8.encode
returns-clause-value c =
    front_decided c.strip_prefix-4.result c.args.text.now c.in_default.ensures.cases c.in_default-strip_prefix.ensures.cases c.in_default-strip_prefix-2.ensures.cases
    (strip_prefix_char 13 c.args.text.now c.strip_prefix-4.result c.strip_prefix-4.ensures.cases (lit< tt))
