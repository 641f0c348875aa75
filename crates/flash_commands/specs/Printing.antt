-- What is printed at the end of a run, and the status that goes with it.
use Rattle.std.specs.Prelude.{◌≡◌, ◌⊎◌, ℕ, Bool, IsTrue, List, ◌++◌, Err}
use Rattle.flash_base.specs.Counts.{Rises}
use Rattle.flash_journal.specs.declared.looking.OpenFault.{OpenFault}
use Rattle.flash_plan.specs.declared.outcome.Outcome.{Outcome}
use Rattle.flash_plan.specs.declared.unit.UnitPlan.{UnitPlan}
use Rattle.flash_shelf.specs.History.{SinkHistory}
use Rattle.flash_shelf.specs.Outside.{AddsPart}
use Rattle.plan_build.specs.declared.fault.BuildFault.{BuildFault}
use Rattle.plan_build.specs.declared.fault.BuildFault.TheVariants as fault
use Rattle.plan_commands.specs.Answering.{refused}
use Rattle.plan_commands.specs.Looking.{Shows}
use Rattle.plan_commands.specs.Serving.{IsPrinted, IsStarved}
use Rattle.plan_commands.specs.declared.answering.Answer.{Answer}
use Rattle.plan_commands.specs.declared.status.Status.{Status}
use Rattle.run_report.specs.Report.{report_text}
use Rattle.flash_commands.specs.Outcomes.{cut_off, status_by}

-- the report was put at the end, with the status of these outcomes; or writing failed after a part of it; or
-- there was no memory for it, and nothing was printed
abbrev pub IsReported : Bool → List ℕ → List ℕ → ℕ → ℕ → List UnitPlan → List Outcome → Status → Type 0
IsReported tells before after old new P os status =
    ((status ≡ status_by os) × (IsTrue tells → after ≡ before ++ report_text P os))
    ⊎ ((status ≡ cut_off (status_by os)) × Rises old new
    × (IsTrue tells → AddsPart before after (report_text P os)))
    ⊎ IsStarved before after status

-- the line of a refusal of the files; want of memory has none
abbrev pub IsFilesLine : Bool → List ℕ → List ℕ → ℕ → ℕ → BuildFault → Status → Type 0
IsFilesLine tells before after old new e status =
    ((¬ (e ≡ fault.NoMemory)) × IsPrinted tells before after old new (refused e) status)
    ⊎ IsStarved before after status

-- the line of a journal that could not be opened; want of memory has none
abbrev pub IsJournalLine : Bool → List ℕ → List ℕ → ℕ → ℕ → List UnitPlan → OpenFault → Status → Type 0
IsJournalLine tells before after old new P why status =
    ((a : Answer) × Shows P (Err why) a × IsPrinted tells before after old new a status)
    ⊎ IsStarved before after status

-- ------ the same between two times of the sink
abbrev pub PrintsReport : Bool → SinkHistory → SinkHistory → List UnitPlan → List Outcome → Status → Type 0
PrintsReport tells old new P os status =
    IsReported tells old.written new.written old.faults new.faults P os status

abbrev pub PrintsFilesLine : Bool → SinkHistory → SinkHistory → BuildFault → Status → Type 0
PrintsFilesLine tells old new e status =
    IsFilesLine tells old.written new.written old.faults new.faults e status

abbrev pub PrintsJournalLine : Bool → SinkHistory → SinkHistory → List UnitPlan → OpenFault → Status → Type 0
PrintsJournalLine tells old new P why status =
    IsJournalLine tells old.written new.written old.faults new.faults P why status
