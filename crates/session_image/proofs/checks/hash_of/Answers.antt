use Rattle.std.proofs.Common.{◌≡◌, ◌∙◌, ◌+◌, ◌++◌, ℕ, List, ap, arith, sym, subst}
use Rattle.sha2.specs.Hashers.{Holds256}
use Rattle.session_image.specs.Checks.{check_bytes}
use Rattle.session_image.proofs.Laid.{check_parts}
use Rattle.session_image.proofs.checks.hash_of.Goals as goal

pub loop-done-preserved : goal.loop-done-preserved
loop-done-preserved c =
    let i = c.loop-done.invariant in
    let ps = c.args.pieces.now in
    let done : ℕ = c.loop-done.done in
    let n : ℕ = c.min-n.result in
    let old : List ℕ = check_bytes ps c.args.fill c.args.from done in
    let part : List ℕ = check_bytes ps c.args.fill (c.args.from + done) n in
    let fed : c.as_slice.result.now ≡ part = c.as_slice.ensures.value ∙ c.in_ok-part.ensures in
    record {
      within = omega (arith, c.min-n.ensures, c.loop-done-test.true);
      step = i.step;
      fed = subst (λ (m : List ℕ). Holds256 c.update.new.self m) (ap (λ (l : List ℕ). old ++ l) fed ∙ sym (check_parts ps c.args.fill c.args.from done n)) (c.update.ensures old i.fed);
    }
