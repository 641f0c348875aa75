use Rattle.std.proofs.Common.{◌∙◌, arith}
use Rattle.std.proofs.lemmas.Grind.{common_steps}
use Rattle.rec_text.proofs.Spelled.{spelled_more, length-bytes_of}
use Rattle.rec_text.proofs.line.parse.Goals as goal

pub loop-k-init : goal.loop-k-init
loop-k-init c = record { spelled = c.by_lanes-done.ensures.spelled; total = c.by_lanes-done.ensures.total; small = c.by_lanes-done.ensures.small }

pub loop-k-preserved : goal.loop-k-preserved
loop-k-preserved c = record {
  spelled = c.loop-k.invariant.spelled ∙ spelled_more c.args.digits.now c.loop-k.out c.loop-k.k c.in-Some.byte (omega arith) (omega arith) c.in-Some.ensures;
  total = grind (arith, common_steps);
  small = omega arith;
}

pub returns-then-digits-ne0 : goal.returns-then-digits-ne0
returns-then-digits-ne0 c = λ bs e. let l = length-bytes_of c.args.digits.now bs e in absurd (c.if-digits-ne0.true (omega arith))

pub returns-then-size-gt-SPELLED : goal.returns-then-size-gt-SPELLED
returns-then-size-gt-SPELLED c = λ bs e. let l = length-bytes_of c.args.digits.now bs e in omega arith
