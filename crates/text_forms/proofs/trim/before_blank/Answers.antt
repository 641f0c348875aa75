use Rattle.std.proofs.Common.{rules, lit<}
use Rattle.std.proofs.lemmas.Str.Pattern.{strip_suffix_char}
use Rattle.text_forms.proofs.Blanks.{end_decided}
use Rattle.text_forms.proofs.trim.before_blank.Goals as goal

pub returns-clause-value : goal.returns-clause-value
unfolding lib.Utf8.encode
returns-clause-value c =
    end_decided c.strip_suffix-4.result c.args.text.now c.in_default.ensures.cases c.in_default-strip_suffix.ensures.cases c.in_default-strip_suffix-2.ensures.cases
    (strip_suffix_char 13 c.args.text.now c.strip_suffix-4.result c.strip_suffix-4.ensures.cases (lit< tt))
