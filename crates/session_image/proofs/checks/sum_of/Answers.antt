use Rattle.std.proofs.Common.{◌≡◌, ◌∙◌, ◌+◌, ◌%◌, ◌++◌, ℕ, List, ap, arith, sum}
use Rattle.std.proofs.lemmas.List.Sums.{sum_by-append}
use Rattle.session_image.specs.Checks.{check_bytes}
use Rattle.session_image.proofs.Laid.{check_parts}
use Rattle.session_image.proofs.checks.sum_of.Goals as goal

pub loop-done-preserved : goal.loop-done-preserved
loop-done-preserved c =
    let i = c.loop-done.invariant in
    let ps = c.args.pieces.now in
    let done : ℕ = c.loop-done.done in
    let n : ℕ = c.min-n.result in
    let old : List ℕ = check_bytes ps c.args.fill c.args.from done in
    let part : List ℕ = check_bytes ps c.args.fill (c.args.from + done) n in
    let more : check_bytes ps c.args.fill c.args.from (done + n) ≡ old ++ part = check_parts ps c.args.fill c.args.from done n in
    let all : sum (old ++ part) ≡ sum old + sum part = sum_by-append (λ x. x) old part in
    let fed : c.as_slice.result.now ≡ part = c.as_slice.ensures.value ∙ c.in_ok-part.ensures in
    let same : sum c.as_slice.result.now ≡ sum part = ap sum fed in
    let total : sum (check_bytes ps c.args.fill c.args.from (done + n)) ≡ sum (old ++ part) = ap sum more in
    let step : c.sum_with-all.result ≡ (c.loop-done.all + sum c.as_slice.result.now) % 65536 = c.sum_with-all.ensures in
    let was : c.loop-done.all ≡ sum old % 65536 = i.summed in
    record { within = omega (arith, c.min-n.ensures, c.loop-done-test.true); step = i.step; summed = omega arith }
