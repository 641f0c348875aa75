use Rattle.std.proofs.Common.{◌≡◌, ◌∙◌, ◌-◌, ◌<◌, ℕ, List, length, drop, get_or, Some, subst, arith}
use Rattle.std.proofs.lemmas.List.{take_rest}
use Rattle.rec_text.specs.Digits.{bytes_of}
use Rattle.srec_rec.proofs.Records.{begins, none_spelled}
use Rattle.srec_rec.proofs.line.record.Goals as goal

pub returns-in_default-clause-bytes : goal.returns-in_default-clause-bytes
returns-in_default-clause-bytes c =
    begins c.args.n c.args.line.now (omega arith) c.if-line-ne83.false c.if-line-lt48.false
    ∙ none_spelled c.args.n (get_or c.args.line.now 1 0 - 48) (drop 2 c.args.line.now)
    (subst (λ d. (bs : List ℕ) → bytes_of d ≡ Some bs → 260 < length bs) (take_rest c.args.line.now 2) c.in_default.ensures)
