-- What a drill prints, and what holds of disk, vehicle and text at its end, for any vehicle at its start.
use Rattle.std.specs.Prelude.{◌≡◌, ◌⊎◌, ℕ, true, false, Bool, IsTrue, List, [], ◌++◌, codes}
use Rattle.bench_gen.specs.Files.{AreFiles}
use Rattle.bench_gen.specs.Sizes.{all_blocks_of, all_bytes_of, units_of}
use Rattle.drill_law.specs.Laws.{no_file}
use Rattle.drill_law.specs.Plans.{plan_of_drill}
use Rattle.flash_base.specs.Counts.{Rises}
use Rattle.flash_commands.specs.Outcomes as outcomes
use Rattle.flash_commands.specs.Outcomes.{all_complete}
use Rattle.flash_commands.specs.Running.{AllRecorded, AreProgrammedOver, RunsOrder}
use Rattle.flash_shelf.specs.History.{ShelfHistory, SinkHistory}
use Rattle.flash_shelf.specs.Outside.{AddsPart}
use Rattle.plan_commands.specs.declared.status.Status.{Status as Ending}
use Rattle.plan_commands.specs.declared.status.Status.TheVariants.{NoMemory}
use Rattle.run_report.specs.OneLine.{drill_line}
use Rattle.run_report.specs.Report.{report_text}
use Rattle.shop_model.specs.History.{History, disk_now, vehicle_now}
use Rattle.shop_model.specs.Through.{AreShown}
use Rattle.unit_model.specs.Vehicle.{Vehicle}

-- ------ the text
abbrev pub summary : ℕ → List ℕ
summary n = drill_line n (units_of n) (all_bytes_of n) (all_blocks_of n)

abbrev pub cut_off : Ending → Ending
cut_off status = outcomes.cut_off status

-- The text went out, with the status; or writing failed after a part of it; or there was no memory for it, and nothing
-- went out.
abbrev pub IsPrinted : Bool → SinkHistory → SinkHistory → List ℕ → Ending → Ending → Type 0
IsPrinted tells k0 k1 text status result =
    ((result ≡ status) × (IsTrue tells → k1.written ≡ k0.written ++ text))
    ⊎ ((result ≡ cut_off status) × Rises k0.faults k1.faults
    × (IsTrue tells → AddsPart k0.written k1.written text))
    ⊎ ((result ≡ NoMemory) × (k1 ≡ k0))

-- the summary line with the lines of a run behind it; where a call found no memory, the summary line alone
abbrev pub IsPrintedRun : Bool → SinkHistory → SinkHistory → ℕ → List ℕ → Ending → Bool → Ending → Type 0
IsPrintedRun tells k0 k1 n lines status false result =
    IsPrinted tells k0 k1 (summary n ++ lines) status result
IsPrintedRun tells k0 k1 n lines status true result =
    (result ≡ NoMemory) × IsPrinted tells k0 k1 (summary n ++ []) NoMemory result

-- ------ the start and the run
-- an empty journal, and this vehicle; nothing has failed yet
pub record BeginsOver (v : Vehicle) (h : History) : Type 0 where
  pub moment : h.moment ≡ 0
  pub disk_faults : h.disk_faults ≡ 0
  pub link_faults : h.link_faults ≡ 0
  pub disk : disk_now h ≡ no_file
  pub vehicle : vehicle_now h ≡ v

-- The run of `drill.json` over the files of drill n from this start, with all that is promised of a run: at each moment records and
-- vehicle fit, whatever a crash leaves; each status has its cause; a run without troubles ends well.
pub record RunsOver (n : ℕ) (v : Vehicle) (h : History) (page : SinkHistory) (status : Ending) : Type 0 where
  pub first : History
  pub begins : BeginsOver v first
  pub before : ShelfHistory
  pub behind : ShelfHistory
  pub files : AreFiles n before.contents
  pub blank : SinkHistory
  pub empty : blank.written ≡ []
  pub runs : RunsOrder true before behind true true first h true blank page (codes "drill.json") status

-- ------ the end
-- each unit is recorded complete in whatever a crash leaves; the text is the summary and the report of a plan whose units all
-- are; and where each receive is shown, the memory of each unit is that of one plain overwrite by its image
pub record EndsOver (n : ℕ) (v : Vehicle) (h : History) (tells : Bool) (k0 k1 : SinkHistory) : Type 0 where
  pub recorded : AllRecorded (plan_of_drill n) (disk_now h)
  pub text : IsTrue tells → k1.written
      ≡ k0.written ++ (summary n ++ report_text (plan_of_drill n) (all_complete (plan_of_drill n)))
  pub memory : AreShown h 0 h.moment → AreProgrammedOver (plan_of_drill n) v (vehicle_now h)
