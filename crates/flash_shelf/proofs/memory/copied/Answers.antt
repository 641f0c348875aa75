use Rattle.std.proofs.Common.{◌≡◌, ◌∙◌, List, ℕ, refl, arith}
use Rattle.flash_shelf.proofs.Copies.{copy_more}
use Rattle.flash_shelf.proofs.memory.copied.Goals as goal

same_pair : (x : List ℕ × List ℕ) (a b : List ℕ) → a ≡ x.0 → b ≡ x.1 → (a, b) ≡ x
same_pair x a b e f = rw (e, f) refl

pub loop-i-preserved : goal.loop-i-preserved
loop-i-preserved c = copy_more c.args.files.now c.loop-i.copy c.push.new.self c.loop-i.i c.at-pair.result.now (c.in_ok-name.name, c.in_ok-bytes.bytes)
    (omega (arith, c.loop-i-test.true, c.len-i-end.ensures)) c.at-pair.ensures c.loop-i.invariant
    (same_pair c.at-pair.result.now c.in_ok-name.name c.in_ok-bytes.bytes (c.in_ok-name.ensures ∙ c.as_str.ensures) (c.in_ok-bytes.ensures ∙ c.as_slice.ensures))
    c.in_ok-push.ensures.ok
