use Rattle.std.proofs.Common.{◌∙◌}
use Rattle.hex_rec.proofs.Records.{colon_record, none_spelled, few_spelled}
use Rattle.hex_rec.proofs.line.record.Goals as goal

pub returns-in_default-parse-clause-bytes : goal.returns-in_default-parse-clause-bytes
returns-in_default-parse-clause-bytes c =
    colon_record c.args.n c.in-Some.colon.now c.in-Some.digits.now c.args.line.now c.in-Some.ensures.cases.0 c.if-colon-ne58.false
    ∙ none_spelled c.args.n c.in-Some.digits.now c.in_default-parse.ensures

pub returns-then-size-lt5-clause-bytes : goal.returns-then-size-lt5-clause-bytes
returns-then-size-lt5-clause-bytes c =
    colon_record c.args.n c.in-Some.colon.now c.in-Some.digits.now c.args.line.now c.in-Some.ensures.cases.0 c.if-colon-ne58.false
    ∙ few_spelled c.args.n c.in-Some.digits.now c.in-Some-parse.size c.in-Some-parse.ensures.3 c.if-size-lt5.true
