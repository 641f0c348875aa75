use Rattle.std.proofs.Common.{◌∙◌, List, false, Result, Ok, Err, ap, inr, refl}
use Rattle.std.specs.Prelude.{if◌then◌else◌}
use Rattle.std.specs.FinMap.{empty}
use Rattle.std.proofs.lemmas.Result.{err_from_is_err_and}
use Rattle.span_store.specs.ByteMap.{ByteMap}
use Rattle.rec_text.specs.Lines.{lines}
use Rattle.rec_text.specs.declared.fault.RecFault.{RecFault}
use Rattle.rec_text.specs.declared.fault.RecFault.TheVariants.{NoEnd}
use Rattle.rec_text.proofs.Folds.{stopped, went}
use Rattle.srec_rec.specs.Reading.{step, read_from}
use Rattle.srec_rec.specs.declared.reading.State.{State}
use Rattle.srec_rec.proofs.reading.read.Goals as goal

abbrev finish : State → Result ByteMap RecFault
finish s = if s.ended then Ok s.spans else Err NoEnd

abbrev start : State
start = record { count = 0; ended = false; spans = empty }

pub returns-in_err-read_lines : goal.returns-in_err-read_lines
returns-in_err-read_lines c =
    let p = err_from_is_err_and c.from_residual.result c.from_residual.ensures.1 in
    stopped step finish read_from (λ s n. refl) (λ s n line more. refl) (lines c.args.text.now) start 0 c.in_err-read_lines.field-0.0 c.from_residual.result (rw c.new.ensures at c.in_err-read_lines.ensures.steps) (p.1 ∙ ap Err p.2)

pub returns-then-state : goal.returns-then-state
returns-then-state c =
    went step finish read_from (λ s n. refl) (λ s n line more. refl) (lines c.args.text.now) start 0 c.read_lines.new.reader c.finish.result (rw c.new.ensures at c.in_ok-read_lines.ensures.steps) (rw c.if-state.true c.finish.ensures)

pub returns-else-state : goal.returns-else-state
returns-else-state c =
    went step finish read_from (λ s n. refl) (λ s n line more. refl) (lines c.args.text.now) start 0 c.read_lines.new.reader (Err NoEnd) (rw c.new.ensures at c.in_ok-read_lines.ensures.steps) (inr (rw c.if-state.false refl))
