use Rattle.std.proofs.Common.{◌≡◌, decimal, sym, rules, arith}
use Rattle.flash_words.proofs.Spelt.{missed, number_back}
use Rattle.flash_words.proofs.forms.number.Goals as goal

pub returns-in_default : goal.returns-in_default
returns-in_default c =
    sym (missed c.args.low c.args.high c.args.word.now c.parse.result c.ranges.high.fits c.parse.ensures.value.0 (λ n l h is read. cc (c.in_default.is)))

pub returns-then-n-low : goal.returns-then-n-low
returns-then-n-low c =
    sym (missed c.args.low c.args.high c.args.word.now c.parse.result c.ranges.high.fits c.parse.ensures.value.0
    (λ n l h is read. let same : c.in-Ok.n ≡ n = cc (c.in-Ok.is, read) in omega (arith, same, l, c.if-n-low.true)))

pub returns-then-n-high : goal.returns-then-n-high
returns-then-n-high c =
    sym (missed c.args.low c.args.high c.args.word.now c.parse.result c.ranges.high.fits c.parse.ensures.value.0
    (λ n l h is read. let same : c.in-Ok.n ≡ n = cc (c.in-Ok.is, read) in omega (arith, same, h, c.if-n-high.true)))

pub returns-then-ne : goal.returns-then-ne
returns-then-ne c =
    sym (missed c.args.low c.args.high c.args.word.now c.parse.result c.ranges.high.fits c.parse.ensures.value.0
    (λ n l h is read.
    let same : c.in-Ok.n ≡ n = cc (c.in-Ok.is, read) in
    let text : c.format.result.now ≡ c.args.word.now = cc (same, is, c.format.ensures.text) in
    search rules))

pub returns : goal.returns
returns c =
    let text : c.args.word.now ≡ decimal c.in-Ok.n = search rules in
    sym (rw text (number_back c.args.low c.args.high c.in-Ok.n c.if-n-low.false c.if-n-high.false (omega arith)))
