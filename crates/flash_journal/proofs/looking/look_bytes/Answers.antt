use Rattle.std.proofs.Common.{List, ℕ, sym, subst}
use Rattle.flash_plan.specs.declared.outcome.Entry.{Entry}
use Rattle.journal_model.specs.Records.{label_of}
use Rattle.flash_journal.specs.Look.{Lists}
use Rattle.flash_journal.proofs.Looks.{lists_none, lists_read, refuses_form, refuses_plan, says_other}
use Rattle.flash_journal.proofs.looking.look_bytes.Goals as goal

pub returns-in-Ok-Fresh-clause-answer : goal.returns-in-Ok-Fresh-clause-answer
returns-in-Ok-Fresh-clause-answer c =
    subst (λ (es : List Entry). Lists (label_of c.args.plan.now) c.args.image.now es) (sym c.new.ensures)
    (lists_none (label_of c.args.plan.now) c.args.image.now (rw c.in-Ok-Fresh.field-0-is at c.in-Ok-Fresh.ensures))

pub returns-in-Ok-NotJournal-clause-answer : goal.returns-in-Ok-NotJournal-clause-answer
returns-in-Ok-NotJournal-clause-answer c = refuses_form (label_of c.args.plan.now) c.args.image.now (rw c.in-Ok-NotJournal.field-0-is at c.in-Ok-NotJournal.ensures)

pub returns-in-Ok-OtherPlan-clause-answer : goal.returns-in-Ok-OtherPlan-clause-answer
returns-in-Ok-OtherPlan-clause-answer c = refuses_plan (label_of c.args.plan.now) c.args.image.now c.in-Ok-OtherPlan.said (rw c.in-Ok-OtherPlan.field-0-is at c.in-Ok-OtherPlan.ensures)

pub returns-in-Ok-OtherPlan-clause-other : goal.returns-in-Ok-OtherPlan-clause-other
returns-in-Ok-OtherPlan-clause-other c = says_other (label_of c.args.plan.now) c.args.image.now c.in-Ok-OtherPlan.said (rw c.in-Ok-OtherPlan.field-0-is at c.in-Ok-OtherPlan.ensures)

pub returns-in-Ok-Journal-clause-answer : goal.returns-in-Ok-Journal-clause-answer
returns-in-Ok-Journal-clause-answer c =
    let seen = rw c.in-Ok-Journal.field-0-is at c.in-Ok-Journal.ensures in
    subst (λ (es : List Entry). Lists (label_of c.args.plan.now) c.args.image.now es) (sym c.entries_of.ensures)
    (lists_read (label_of c.args.plan.now) c.args.image.now c.in-Ok-Journal.reading.tables seen.0 seen.1.slots)
