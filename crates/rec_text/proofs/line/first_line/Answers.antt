use Rattle.std.proofs.Common.{◌+◌, [], ◌∷◌, drop, take, get_or, sym, ap, ◌∙◌, arith, eqb-true}
use Rattle.rec_text.specs.Lines.{lines}
use Rattle.rec_text.proofs.Ends.{lines_past, lines_at, lines_none}
use Rattle.rec_text.proofs.line.first_line.Goals as goal

pub returns-in-Some-clause-lines : goal.returns-in-Some-clause-lines
returns-in-Some-clause-lines c =
    let text = c.args.text.now in
    let i = c.in-Some.i in
    let found = c.in-Some.ensures in
    lines_past [] text i (omega arith) found.0.before
    ∙ lines_at (take i text) text i (omega arith) (eqb-true (get_or text i 0) 10 found.1)
    ∙ ap (λ l. l ∷ lines (drop (i + 1) text)) (sym c.without_return.ensures)

pub returns-in-None-clause-lines : goal.returns-in-None-clause-lines
returns-in-None-clause-lines c = lines_none c.args.text.now c.requires c.in-None.ensures
