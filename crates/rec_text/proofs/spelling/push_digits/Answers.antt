use Rattle.std.proofs.Common.{◌++◌, ◌∷◌, [], ◌∙◌, ap}
use Rattle.rec_text.proofs.Digits.{one_more}
use Rattle.rec_text.proofs.spelling.push_digits.Goals as goal

pub loop-b-preserved : goal.loop-b-preserved
loop-b-preserved c =
    one_more c.push-in-loop-b.new.self c.args.text.now c.args.bytes.now c.loop-b.b-index c.spelled.result c.spelled-in-loop-b.result c.loop-b-test.true c.spelled.ensures c.spelled-in-loop-b.ensures
    (c.in_ok-push-2.ensures.ok ∙ ap (λ t. t ++ (c.spelled-in-loop-b.result ∷ [])) (c.in_ok-push.ensures.ok ∙ ap (λ t. t ++ (c.spelled.result ∷ [])) c.loop-b.invariant))
