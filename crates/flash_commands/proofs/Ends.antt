-- What a run of an order promises, by what its files gave and how it ended.
use Rattle.std.proofs.Common.{◌≡◌, ◌⊎◌, inl, inr, ℕ, ◌<◌, Bool, true, false, IsTrue, List, ◌++◌, length, get_or, Some, refl, sym, ◌∙◌, ap, subst, arith}
use Rattle.std.specs.Prelude.{◌≢◌, Result, Ok, Err}
use Rattle.std.specs.List.{slice_get}
use Rattle.std.proofs.lemmas.Option.{slice_get-get_or}
use Rattle.barrier_board.specs.Board.{has_entry}
use Rattle.bay_law.specs.Sentence.{IsSoundAt, KeepsSound}
use Rattle.disk_model.specs.Disk.{IsCrashImage}
use Rattle.flash_base.specs.Counts.{Rises}
use Rattle.flash_base.specs.Lists.{all_of}
use Rattle.flash_bay.specs.Opened.{OnFile}
use Rattle.flash_journal.specs.Look.{HasCause, Opens, Refuses}
use Rattle.flash_journal.specs.Opened.{HasBytes}
use Rattle.flash_journal.specs.declared.looking.OpenFault.{OpenFault}
use Rattle.flash_journal.specs.declared.looking.OpenFault.TheVariants as open_fault
use Rattle.flash_plan.specs.Plan.{count_of}
use Rattle.flash_plan.specs.declared.outcome.Entry.{Entry}
use Rattle.flash_plan.specs.declared.outcome.Outcome.{Outcome}
use Rattle.flash_plan.specs.declared.outcome.Outcome.TheVariants as outcome
use Rattle.flash_plan.specs.declared.unit.UnitPlan.{UnitPlan}
use Rattle.flash_run.specs.Run.{core_of_run}
use Rattle.flash_shelf.specs.History.{ShelfHistory, SinkHistory}
use Rattle.flash_shelf.specs.Outside.{Came, ReadFailed, WriteFailed}
use Rattle.flash_shelf.specs.declared.shelf.ShelfFault.{ShelfFault}
use Rattle.journal_model.specs.Records.{label_of, records}
use Rattle.journal_steps.specs.Later.{HoldsOnDisk}
use Rattle.journal_steps.specs.Tested.{tested, NoJournal, OfOtherPlan}
use Rattle.journal_steps.proofs.Laters.{later_same}
use Rattle.journal_steps.proofs.Moments.{starts}
use Rattle.outcome_law.specs.Outcomes.{AllMatch}
use Rattle.plan_build.specs.Building.{built}
use Rattle.plan_build.specs.Laws.{FilesGiveOneAnswer, IsOne}
use Rattle.plan_build.specs.Whole.{IfShelf}
use Rattle.plan_build.specs.declared.built.Built.{Built}
use Rattle.plan_build.specs.declared.fault.BuildFault.{BuildFault}
use Rattle.plan_build.specs.declared.fault.BuildFault.TheVariants as fault
use Rattle.plan_commands.specs.Answering.{refused, status_of}
use Rattle.plan_commands.specs.Looking.{Shows}
use Rattle.plan_commands.specs.Serving.{unwritten, PrintsAnswer}
use Rattle.plan_commands.specs.declared.answering.Answer.{Answer}
use Rattle.plan_commands.specs.declared.status.Status.{Status}
use Rattle.plan_commands.specs.declared.status.Status.TheVariants.{Done, Usage, Input, Units, Shelf, Journal, Disk, Sink, NoMemory}
use Rattle.plan_commands.proofs.Ends.{outside_of}
use Rattle.run_report.specs.Report.{is_complete, report_text}
use Rattle.shop_model.specs.History.{History, disk_now, vehicle_now}
use Rattle.shop_model.specs.Through.{AreShown}
use Rattle.unit_model.specs.Vehicle.{Vehicle}
use Rattle.flash_commands.specs.Outcomes.{all_complete, cut_off, is_disk_fault, lacks_memory, some_is, status_by}
use Rattle.flash_commands.specs.Printing.{PrintsFilesLine, PrintsJournalLine, PrintsReport}
use Rattle.flash_commands.specs.Running.{Ends, HasRun, HasRunCause, IsAfter, IsBefore, IsCalm, IsNotOpened, IsOrderRun, IsRunReported, IsUntouched, AllRecorded, AreProgrammedOver, ReadsGive, RunsOrder}
use Rattle.flash_commands.proofs.Theirs.{theirs}
use Rattle.flash_commands.proofs.Verdicts as verdict
use Rattle.flash_commands.proofs.Verdicts.{all_from, are_complete, each_complete, ends_well, has_fault, never_done, some_lacks, status_leads, StatusOf}

-- ------ the status of a line
-- of the files
stays : (e : BuildFault) → unwritten (status_of e) ≡ status_of e
stays (fault.Shelf name why) = refl
stays (fault.Input name cause) = refl
stays fault.NoMemory = refl

module _ (kt : Bool) (k0 k1 : SinkHistory) (status : Status) where
  keeps_status : (e : BuildFault) → PrintsAnswer kt k0 k1 (refused e) status → status ≡ status_of e
  keeps_status e (inl h) = h.0
  keeps_status e (inr h) = h.0 ∙ stays e

  line_status : (e : BuildFault) → PrintsFilesLine kt k0 k1 e status → (status ≡ status_of e) ⊎ (status ≡ NoMemory)
  line_status e (inl h) = inl (keeps_status e h.1)
  line_status e (inr h) = inr h.0

-- of a journal that could not be opened
abbrev IsOther : OpenFault → Type 0
IsOther open_fault.NotJournal = Unit {0}
IsOther (open_fault.OtherPlan said) = Unit {0}
IsOther open_fault.DiskFault = ⊥
IsOther open_fault.NoMemory = ⊥

data Unopened (why : OpenFault) (status : Status) : Type 0 where
  other : IsOther why → status ≡ Journal → Unopened why status
  broken : why ≡ open_fault.DiskFault → status ≡ Disk → Unopened why status
  starved : status ≡ NoMemory → Unopened why status

module _ (kt : Bool) (k0 k1 : SinkHistory) (status : Status) where
  answer_status : (a : Answer) (s : Status) → a.status ≡ s → unwritten s ≡ s → PrintsAnswer kt k0 k1 a status → status ≡ s
  answer_status a s is same (inl h) = h.0 ∙ is
  answer_status a s is same (inr h) = h.0 ∙ ap unwritten is ∙ same

  shown_status : (P : List UnitPlan) (why : OpenFault) (a : Answer) → Shows P (Err why) a → PrintsAnswer kt k0 k1 a status → Unopened why status
  shown_status P open_fault.NotJournal a shows p = other tt (answer_status a Journal (ap (λ (y : Answer). y.status) shows) refl p)
  shown_status P (open_fault.OtherPlan said) a shows p = other tt (answer_status a Journal (ap (λ (y : Answer). y.status) shows.1) refl p)
  shown_status P open_fault.DiskFault a shows p = broken refl (answer_status a Disk (ap (λ (y : Answer). y.status) shows) refl p)
  shown_status P open_fault.NoMemory a shows p = absurd shows

  unopened : (P : List UnitPlan) (why : OpenFault) → PrintsJournalLine kt k0 k1 P why status → Unopened why status
  unopened P why (inl h) = shown_status P why h.0 h.1 h.2
  unopened P why (inr h) = starved h.0

on_file : (why : OpenFault) (X : Type 0) → IsOther why → OnFile why X → X
on_file open_fault.NotJournal X is x = x
on_file (open_fault.OtherPlan said) X is x = x
on_file open_fault.DiskFault X is x = absurd is
on_file open_fault.NoMemory X is x = absurd is

no_file : (P : List UnitPlan) (bytes : List ℕ) → tested (label_of P) bytes ≡ NoJournal → Opens (label_of P) bytes → ⊥
no_file P bytes r (inl e) = cc
no_file P bytes r (inr e) = cc

other_file : (P : List UnitPlan) (bytes : List ℕ) → tested (label_of P) bytes ≡ OfOtherPlan → Opens (label_of P) bytes → ⊥
other_file P bytes r (inl e) = cc
other_file P bytes r (inr e) = cc

not_opens : (P : List UnitPlan) (bytes : List ℕ) (why : OpenFault) → IsOther why → Refuses (label_of P) bytes why → Opens (label_of P) bytes → ⊥
not_opens P bytes open_fault.NotJournal is r = no_file P bytes r
not_opens P bytes (open_fault.OtherPlan said) is r = other_file P bytes r.0
not_opens P bytes open_fault.DiskFault is r = absurd is
not_opens P bytes open_fault.NoMemory is r = absurd is

-- of a report
abbrev IsRunEnd : Status → Type 0
IsRunEnd Done = Unit {0}
IsRunEnd Units = Unit {0}
IsRunEnd Disk = Unit {0}
IsRunEnd Sink = Unit {0}
IsRunEnd NoMemory = Unit {0}
IsRunEnd Usage = ⊥
IsRunEnd Input = ⊥
IsRunEnd Shelf = ⊥
IsRunEnd Journal = ⊥

not_before : (s : Status) → IsRunEnd s → IsBefore s → ⊥
not_before Done e b = b
not_before Units e b = b
not_before Disk e b = b
not_before Sink e b = b
not_before NoMemory e b = b
not_before Usage e b = e
not_before Input e b = e
not_before Shelf e b = e
not_before Journal e b = e

run_status : (os : List Outcome) (s : Status) → StatusOf os s → IsRunEnd s × IsRunEnd (cut_off s)
run_status os s (verdict.memory m) = subst (λ (x : Status). IsRunEnd x × IsRunEnd (cut_off x)) (sym m) (tt, tt)
run_status os s (verdict.fault has m) = subst (λ (x : Status). IsRunEnd x × IsRunEnd (cut_off x)) (sym m) (tt, tt)
run_status os s (verdict.whole all m) = subst (λ (x : Status). IsRunEnd x × IsRunEnd (cut_off x)) (sym m) (tt, tt)
run_status os s (verdict.some not_all m) = subst (λ (x : Status). IsRunEnd x × IsRunEnd (cut_off x)) (sym m) (tt, tt)

module _ (kt : Bool) (k0 k1 : SinkHistory) (P : List UnitPlan) (os : List Outcome) (status : Status) where
  run_end : PrintsReport kt k0 k1 P os status → IsRunEnd status
  run_end (inl w) = subst IsRunEnd (sym w.0) (run_status os (status_by os) (status_leads os)).0
  run_end (inr (inl w)) = subst IsRunEnd (sym w.0) (run_status os (status_by os) (status_leads os)).1
  run_end (inr (inr w)) = subst IsRunEnd (sym w.0) tt

  all_by : (s : Status) → status ≡ s → status ≡ Done → StatusOf os s → all_of os is_complete ≡ true
  all_by s e d (verdict.memory m) = absurd (let never : ⊥ = cc in never)
  all_by s e d (verdict.fault has m) = absurd (let never : ⊥ = cc in never)
  all_by s e d (verdict.whole all m) = all
  all_by s e d (verdict.some not_all m) = absurd (let never : ⊥ = cc in never)

  at_done : status ≡ Done → PrintsReport kt k0 k1 P os status → (all_of os is_complete ≡ true) × (IsTrue kt → k1.written ≡ k0.written ++ report_text P os)
  at_done d (inl w) = (all_by (status_by os) w.0 d (status_leads os), w.1)
  at_done d (inr (inl w)) = absurd (never_done (status_by os) (sym w.0 ∙ d))
  at_done d (inr (inr w)) = absurd (let e : status ≡ NoMemory = w.0 in let never : ⊥ = cc in never)

-- ------ a history that did not go on
untouched : (dt : Bool) (h0 h1 : History) → h1 ≡ h0 → IsUntouched dt h0 h1
untouched dt h0 h1 e = subst (λ (h : History). IsUntouched dt h0 h) (sym e) (record {
  same = λ t. starts (HasBytes (disk_now h0).bytes) h0 refl;
  later = record { is_later = later_same h0; vehicle = refl; link_faults = refl; link_calls = refl; linked = refl };
})

still : (P : List UnitPlan) (h : History) → KeepsSound P h h
still P h v0 start = record {
  is_later = later_same h;
  each = λ m ge le shown.
      let same : m ≡ h.moment = omega arith in
      subst (λ (k : ℕ). IsSoundAt P v0 (h.disk_at k) (h.vehicle_at k)) (sym same) start;
}

not_true : (b : Bool) → (b ≡ true → ⊥) → b ≡ false
not_true true no_so = absurd (no_so refl)
not_true false no_so = refl

after_files : (e : BuildFault) → IsAfter (status_of e) → ⊥
after_files (fault.Shelf name why) h = h
after_files (fault.Input name cause) h = h
after_files fault.NoMemory h = h

module _ (tells : Bool) (s0 s1 : ShelfHistory) (dt vt : Bool) (h0 h1 : History) (kt : Bool) (k0 k1 : SinkHistory) (order : List ℕ) where
  abbrev Run : Status → Type 0
  Run status = HasRun tells s0 s1 dt vt h0 h1 kt k0 k1 order status

  abbrev Cause : Status → Type 0
  Cause status = HasRunCause tells s0 s1 dt vt h0 h1 kt k0 k1 order status

  abbrev EndsSo : Result Built BuildFault → Status → Type 0
  EndsSo gave status = Ends dt vt h0 h1 kt k0 k1 gave status

  -- what a run says of a disk that failed
  disk_rose : (b : Built) (status : Status) (r : IsRunReported dt vt h0 h1 kt k0 k1 b status) → some_is is_disk_fault r.outcomes ≡ true → Rises h0.disk_faults h1.disk_faults
  disk_rose b status r has =
      let f = has_fault r.outcomes has in
      let run = r.made.run in
      let below : f.place < count_of run.plan = subst (λ (k : ℕ). f.place < k) r.made.are.size f.within in
      r.made.says.fault f.place below (sym (r.made.are.each f.place below) ∙ f.is)

  -- ------ the cause of each status
  done_cause : (status : Status) → status ≡ Done → (r : Run status) → all_of r.ran.outcomes is_complete ≡ true → Cause status
  done_cause status e = subst (λ (x : Status). (r : Run x) → all_of r.ran.outcomes is_complete ≡ true → Cause x) (sym e) (λ r h. (r, h))

  units_cause : (status : Status) → status ≡ Units → (r : Run status) → all_of r.ran.outcomes is_complete ≡ false → Cause status
  units_cause status e = subst (λ (x : Status). (r : Run x) → all_of r.ran.outcomes is_complete ≡ false → Cause x) (sym e) (λ r h. (r, h))

  sink_cause : (status : Status) → status ≡ Sink → Run status → WriteFailed k0 k1 → Cause status
  sink_cause status e = subst (λ (x : Status). Run x → WriteFailed k0 k1 → Cause x) (sym e) (λ r w. (w, r))

  disk_cause : (status : Status) → status ≡ Disk → Rises h0.disk_faults h1.disk_faults → Cause status
  disk_cause status e rises = subst Cause (sym e) rises

  memory_cause : (status : Status) → status ≡ NoMemory → Cause status
  memory_cause status e = subst Cause (sym e) tt

  module _ (status : Status) (r : Run status) where
    kept_cause : (s : Status) → status ≡ s → StatusOf r.ran.outcomes s → Cause status
    kept_cause s e (verdict.memory m) = memory_cause status (e ∙ m)
    kept_cause s e (verdict.fault has m) = disk_cause status (e ∙ m) (disk_rose r.whole status r.ran has)
    kept_cause s e (verdict.whole all m) = done_cause status (e ∙ m) r all
    kept_cause s e (verdict.some not_all m) = units_cause status (e ∙ m) r not_all

    cut_cause : (s : Status) → status ≡ cut_off s → WriteFailed k0 k1 → StatusOf r.ran.outcomes s → Cause status
    cut_cause s e w (verdict.memory m) = memory_cause status (e ∙ ap cut_off m)
    cut_cause s e w (verdict.fault has m) = disk_cause status (e ∙ ap cut_off m) (disk_rose r.whole status r.ran has)
    cut_cause s e w (verdict.whole all m) = sink_cause status (e ∙ ap cut_off m) r w
    cut_cause s e w (verdict.some not_all m) = sink_cause status (e ∙ ap cut_off m) r w

    report_cause : PrintsReport kt k0 k1 r.whole.plan r.ran.outcomes status → Cause status
    report_cause (inl w) = kept_cause (status_by r.ran.outcomes) w.0 (status_leads r.ran.outcomes)
    report_cause (inr (inl w)) = cut_cause (status_by r.ran.outcomes) w.0 w.1 (status_leads r.ran.outcomes)
    report_cause (inr (inr w)) = memory_cause status w.0

  files_cause : (status : Status) (e : BuildFault) → (let r : Result Built BuildFault = Err e in (r ≡ Err fault.NoMemory) ⊎ ReadsGive tells s0 s1 order r)
      → (let r : Result Built BuildFault = Err e in IfShelf r (λ name why. Came tells s0 s1 name (Err why))) → PrintsFilesLine kt k0 k1 e status → Cause status
  files_cause status e read outside (inr w) = memory_cause status w.0
  files_cause status (fault.Shelf name why) read outside (inl w) =
      let e : status ≡ Shelf = keeps_status kt k0 k1 status (fault.Shelf name why) w.1 in
      let o = outside_of (λ (n : List ℕ) (y : ShelfFault). Came tells s0 s1 n (Err y)) name why outside in
      subst (λ (x : Status). PrintsAnswer kt k0 k1 (refused (fault.Shelf name why)) x → Cause x) (sym e) (λ p. (name, why, o.0, o.1, p)) w.1
  files_cause status (fault.Input name cause) (inl none) outside (inl w) = absurd (let never : ⊥ = cc in never)
  files_cause status (fault.Input name cause) (inr by) outside (inl w) =
      let e : status ≡ Input = keeps_status kt k0 k1 status (fault.Input name cause) w.1 in
      subst (λ (x : Status). PrintsAnswer kt k0 k1 (refused (fault.Input name cause)) x → Cause x) (sym e) (λ p. (fault.Input name cause, by, refl, p)) w.1
  files_cause status fault.NoMemory read outside (inl w) = absurd (w.0 refl)

  unopened_cause : (status : Status) (b : Built) → (let r : Result Built BuildFault = Ok b in ReadsGive tells s0 s1 order r) → (u : IsNotOpened dt h0 h1 kt k0 k1 b.plan status) → Unopened u.why status → Cause status
  unopened_cause status b by u (other is m) =
      subst (λ (x : Status). IsNotOpened dt h0 h1 kt k0 k1 b.plan x → Cause x) (sym m) (λ v. (b, by, v, λ t. not_opens b.plan (disk_now h0).bytes u.why is (u.left.tells t))) u
  unopened_cause status b by u (broken e m) = disk_cause status m (subst (λ (f : OpenFault). HasCause h0 h1 f) e u.left.cause)
  unopened_cause status b by u (starved m) = memory_cause status m

  has_run : (status : Status) (b : Built) → (let r : Result Built BuildFault = Ok b in ReadsGive tells s0 s1 order r) → IsRunReported dt vt h0 h1 kt k0 k1 b status → Run status
  has_run status b by ran = record { whole = b; by = by; theirs = λ t. theirs tells s0.contents s0.faults s1.faults order b by t; ran = ran }

  ends_cause : (status : Status) (gave : Result Built BuildFault) → (gave ≡ Err fault.NoMemory) ⊎ ReadsGive tells s0 s1 order gave → IfShelf gave (λ name why. Came tells s0 s1 name (Err why)) → EndsSo gave status → Cause status
  unfolding has_run
  ends_cause status (Ok b) (inl e) outside ends = absurd (let never : ⊥ = cc in never)
  ends_cause status (Ok b) (inr by) outside (inl ran) = report_cause status (has_run status b by ran) ran.reported
  ends_cause status (Ok b) (inr by) outside (inr u) = unopened_cause status b by u (unopened kt k0 k1 status b.plan u.why u.printed)
  ends_cause status (Err e) read outside ends = files_cause status e read outside ends.1

  -- ------ what told files say
  module _ (one : FilesGiveOneAnswer) where
    one_plan : (b c : Built) → (let r : Result Built BuildFault = Ok b in let q : Result Built BuildFault = Ok c in IsOne r q) → b ≡ c
    one_plan b c (inl e) = absurd (let never : ⊥ = cc in never)
    one_plan b c (inr (inl e)) = absurd (let never : ⊥ = cc in never)
    one_plan b c (inr (inr e)) = cc

    same_plan : (b c : Built) → built s0.contents order (Ok b) → built s0.contents order (Ok c) → b ≡ c
    same_plan b c x y = one_plan b c (one s0.contents s0.contents (λ n. refl) order (Ok b) (Ok c) x y)

  only_memory : (e : BuildFault) → (let r : Result Built BuildFault = Err e in r ≡ Err fault.NoMemory) → e ≡ fault.NoMemory
  only_memory e h = cc

  starved_status : (status : Status) (gave : Result Built BuildFault) → gave ≡ Err fault.NoMemory → EndsSo gave status → status ≡ NoMemory
  starved_status status (Ok b) e ends = absurd (let never : ⊥ = cc in never)
  starved_status status (Err x) e ends = elim ends.1 as (λ y. status ≡ NoMemory) [ inl w ↦ absurd (w.0 (only_memory x e)) | inr w ↦ w.0 ]

  neither : (status x : Status) → status ≡ x → (x ≡ Input → ⊥) → (x ≡ Shelf → ⊥) → (status ≡ Input) ⊎ (status ≡ Shelf) → ⊥
  neither status x e no_input no_shelf (inl i) = no_input (sym e ∙ i)
  neither status x e no_input no_shelf (inr i) = no_shelf (sym e ∙ i)

  run_neither : (status : Status) → IsRunEnd status → (status ≡ Input) ⊎ (status ≡ Shelf) → ⊥
  run_neither status h (inl e) = subst IsRunEnd e h
  run_neither status h (inr e) = subst IsRunEnd e h

  unopened_neither : (status : Status) (why : OpenFault) → Unopened why status → (status ≡ Input) ⊎ (status ≡ Shelf) → ⊥
  unopened_neither status why (other is m) = neither status Journal m (λ e. let never : ⊥ = cc in never) (λ e. let never : ⊥ = cc in never)
  unopened_neither status why (broken e m) = neither status Disk m (λ e. let never : ⊥ = cc in never) (λ e. let never : ⊥ = cc in never)
  unopened_neither status why (starved m) = neither status NoMemory m (λ e. let never : ⊥ = cc in never) (λ e. let never : ⊥ = cc in never)

  abbrev Told : Status → Type 0
  Told status = ReadFailed s0 s1 ⊎ ((e : BuildFault) × built s0.contents order (Err e) × (status_of e ≡ status) × PrintsAnswer kt k0 k1 (refused e) status)

  files_told : (status : Status) (e : BuildFault) → (let r : Result Built BuildFault = Err e in (r ≡ Err fault.NoMemory) ⊎ ReadFailed s0 s1 ⊎ built s0.contents order r) → PrintsFilesLine kt k0 k1 e status
      → (status ≡ Input) ⊎ (status ≡ Shelf) → Told status
  files_told status e told (inr w) which = absurd (neither status NoMemory w.0 (λ e. let never : ⊥ = cc in never) (λ e. let never : ⊥ = cc in never) which)
  files_told status e (inl none) (inl w) which = absurd (w.0 (only_memory e none))
  files_told status e (inr (inl failed)) (inl w) which = inl failed
  files_told status e (inr (inr so)) (inl w) which = inr (e, so, sym (keeps_status kt k0 k1 status e w.1), w.1)

  told_cause : (status : Status) (gave : Result Built BuildFault) → (gave ≡ Err fault.NoMemory) ⊎ ReadFailed s0 s1 ⊎ built s0.contents order gave → EndsSo gave status
      → (status ≡ Input) ⊎ (status ≡ Shelf) → Told status
  told_cause status (Ok b) told (inl ran) which = absurd (run_neither status (run_end kt k0 k1 b.plan ran.outcomes status ran.reported) which)
  told_cause status (Ok b) told (inr u) which = absurd (unopened_neither status u.why (unopened kt k0 k1 status b.plan u.why u.printed) which)
  told_cause status (Err e) told ends which = files_told status e told ends.1 which

  not_called : (status : Status) (gave : Result Built BuildFault) → EndsSo gave status → (status ≡ Input) ⊎ (status ≡ Shelf) → h1 ≡ h0
  not_called status (Ok b) (inl ran) which = absurd (run_neither status (run_end kt k0 k1 b.plan ran.outcomes status ran.reported) which)
  not_called status (Ok b) (inr u) which = absurd (unopened_neither status u.why (unopened kt k0 k1 status b.plan u.why u.printed) which)
  not_called status (Err e) ends which = ends.0

  -- the answer of the files decides, or memory was wanting
  decides : (gave r : Result Built BuildFault) → IsOne gave r → (r ≡ Err fault.NoMemory → ⊥) → (gave ≡ Err fault.NoMemory) ⊎ (gave ≡ r)
  decides gave r (inl e) some = inl e
  decides gave r (inr (inl e)) some = absurd (some e)
  decides gave r (inr (inr e)) some = inr e

  abbrev RefusedAs : BuildFault → Status → Type 0
  RefusedAs e status = ReadFailed s0 s1 ⊎ (status ≡ status_of e) ⊎ (status ≡ NoMemory)

  module _ (one : FilesGiveOneAnswer) (status : Status) (gave : Result Built BuildFault) (ends : EndsSo gave status) where
    refuses : (e : BuildFault) → (e ≡ fault.NoMemory → ⊥) → built s0.contents order (Err e) → (gave ≡ Err fault.NoMemory) ⊎ ReadFailed s0 s1 ⊎ built s0.contents order gave → RefusedAs e status
    refuses e some is (inl none) = inr (inr (starved_status status gave none ends))
    refuses e some is (inr (inl failed)) = inl failed
    refuses e some is (inr (inr so)) =
        elim (decides gave (Err e) (one s0.contents s0.contents (λ n. refl) order gave (Err e) so is) (λ h. some (only_memory e h))) as (λ x. RefusedAs e status) [
          | inl none ↦ inr (inr (starved_status status gave none ends))
          | inr same ↦ inr (line_status kt k0 k1 status e (subst (λ (r : Result Built BuildFault). EndsSo r status) same ends).1)
        ]

    -- what follows for a plan that told files give
    given_plan : (X : Type 0) (b : Built) → built s0.contents order (Ok b) → (gave ≡ Err fault.NoMemory) ⊎ ReadFailed s0 s1 ⊎ built s0.contents order gave
        → (status ≡ NoMemory → X) → (ReadFailed s0 s1 → X) → ((let r : Result Built BuildFault = Ok b in EndsSo r status) → X) → X
    given_plan X b is (inl none) starves fails goes = starves (starved_status status gave none ends)
    given_plan X b is (inr (inl failed)) starves fails goes = fails failed
    given_plan X b is (inr (inr so)) starves fails goes =
        elim (decides gave (Ok b) (one s0.contents s0.contents (λ n. refl) order gave (Ok b) so is) (λ h. let never : ⊥ = cc in never)) as (λ x. X) [
          | inl none ↦ starves (starved_status status gave none ends)
          | inr same ↦ goes (subst (λ (r : Result Built BuildFault). EndsSo r status) same ends)
        ]

  abbrev JournalRefused : Status → Type 0
  JournalRefused status = ReadFailed s0 s1 ⊎ Rises h0.disk_faults h1.disk_faults ⊎ (status ≡ Journal) ⊎ (status ≡ NoMemory)

  unopened_refused : (status : Status) (P : List UnitPlan) (u : IsNotOpened dt h0 h1 kt k0 k1 P status) → Unopened u.why status → JournalRefused status
  unopened_refused status P u (other is m) = inr (inr (inl m))
  unopened_refused status P u (broken e m) = inr (inl (subst (λ (f : OpenFault). HasCause h0 h1 f) e u.left.cause))
  unopened_refused status P u (starved m) = inr (inr (inr m))

  journal_refused : (status : Status) (b : Built) → IsTrue dt → (Opens (label_of b.plan) (disk_now h0).bytes → ⊥) → (let r : Result Built BuildFault = Ok b in EndsSo r status) → JournalRefused status
  journal_refused status b d no_file (inl ran) = absurd (no_file (ran.made.opens d))
  journal_refused status b d no_file (inr u) = unopened_refused status b.plan u (unopened kt k0 k1 status b.plan u.why u.printed)

  -- ------ disk and vehicle
  unopened_kept : (status : Status) (P : List UnitPlan) (u : IsNotOpened dt h0 h1 kt k0 k1 P status) → Unopened u.why status → IsBefore status → IsUntouched dt h0 h1
  unopened_kept status P u (other is m) before = record { same = λ t. on_file u.why (HoldsOnDisk h0 h1 (HasBytes (disk_now h0).bytes)) is (u.left.untouched t); later = u.left.is_later }
  unopened_kept status P u (broken e m) before = absurd (subst IsBefore m before)
  unopened_kept status P u (starved m) before = absurd (subst IsBefore m before)

  unchanged : (status : Status) (gave : Result Built BuildFault) → EndsSo gave status → IsBefore status → IsUntouched dt h0 h1
  unchanged status (Ok b) (inl ran) before = absurd (not_before status (run_end kt k0 k1 b.plan ran.outcomes status ran.reported) before)
  unchanged status (Ok b) (inr u) before = unopened_kept status b.plan u (unopened kt k0 k1 status b.plan u.why u.printed) before
  unchanged status (Err e) ends before = untouched dt h0 h1 ends.0

  plan_sound : (status : Status) (b : Built) → IsTrue dt → IsTrue vt → (let r : Result Built BuildFault = Ok b in EndsSo r status) → KeepsSound b.plan h0 h1
  plan_sound status b d v (inl ran) = subst (λ (P : List UnitPlan). KeepsSound P h0 h1) ran.made.of_plan (ran.made.says.sound d v)
  plan_sound status b d v (inr u) = u.left.sound d

  sound : FilesGiveOneAnswer → (status : Status) (gave : Result Built BuildFault) → (gave ≡ Err fault.NoMemory) ⊎ ReadsGive tells s0 s1 order gave → EndsSo gave status
      → IsTrue tells → IsTrue dt → IsTrue vt → (c : Built) → built s0.contents order (Ok c) → KeepsSound c.plan h0 h1
  sound one status (Ok b) (inl e) ends t d v c is = absurd (let never : ⊥ = cc in never)
  sound one status (Ok b) (inr by) ends t d v c is =
      subst (λ (x : Built). KeepsSound x.plan h0 h1) (same_plan one b c (theirs tells s0.contents s0.faults s1.faults order b by t) is) (plan_sound status b d v ends)
  sound one status (Err e) read ends t d v c is = subst (λ (h : History). KeepsSound c.plan h0 h) (sym ends.0) (still c.plan h0)

  -- ------ the run
  files_after : (status : Status) (e : BuildFault) → PrintsFilesLine kt k0 k1 e status → IsAfter status → ⊥
  files_after status e line after =
      elim (line_status kt k0 k1 status e line) as (λ x. ⊥) [ inl m ↦ after_files e (subst IsAfter m after) | inr m ↦ subst IsAfter m after ]

  unopened_after : (status : Status) (why : OpenFault) → Unopened why status → IsAfter status → ⊥
  unopened_after status why (other is m) after = subst IsAfter m after
  unopened_after status why (broken e m) after = subst IsAfter m after
  unopened_after status why (starved m) after = subst IsAfter m after

  ran : (status : Status) (gave : Result Built BuildFault) → (gave ≡ Err fault.NoMemory) ⊎ ReadsGive tells s0 s1 order gave → EndsSo gave status → IsAfter status ⊎ (h1.link_calls ≢ h0.link_calls) → Run status
  ran status (Ok b) (inl e) ends so = absurd (let never : ⊥ = cc in never)
  ran status (Ok b) (inr by) (inl r) so = has_run status b by r
  ran status (Ok b) (inr by) (inr u) (inl after) = absurd (unopened_after status u.why (unopened kt k0 k1 status b.plan u.why u.printed) after)
  ran status (Ok b) (inr by) (inr u) (inr called) = absurd (called u.left.is_later.link_calls)
  ran status (Err e) read ends (inl after) = absurd (files_after status e ends.1 after)
  ran status (Err e) read ends (inr called) = absurd (called (ap (λ (h : History). h.link_calls) ends.0))

  -- all complete
  abbrev IsDone : List UnitPlan → Type 0
  IsDone P = (IsTrue dt → AllRecorded P (disk_now h1)) × (IsTrue kt → k1.written ≡ k0.written ++ report_text P (all_complete P))

  run_done : (status : Status) (b : Built) → status ≡ Done → IsRunReported dt vt h0 h1 kt k0 k1 b status → IsDone b.plan
  run_done status b is r =
      let at = at_done kt k0 k1 b.plan r.outcomes status is r.reported in
      let size : length r.outcomes ≡ count_of b.plan = r.made.are.size ∙ ap (λ (P : List UnitPlan). count_of P) r.made.of_plan in
      let whole : r.outcomes ≡ all_complete b.plan = are_complete r.outcomes b.plan size at.0 in
      let recorded : IsTrue dt → AllRecorded r.made.run.plan (disk_now h1) = λ d n lt image crash.
      let within : n < length r.outcomes = subst (λ (k : ℕ). n < k) (sym r.made.are.size) lt in
      (r.made.says.recorded d).complete n lt (sym (r.made.are.each n lt) ∙ each_complete r.outcomes n at.0 within) image crash in (
        λ d. subst (λ (P : List UnitPlan). AllRecorded P (disk_now h1)) r.made.of_plan (recorded d),
        λ k. subst (λ (os : List Outcome). k1.written ≡ k0.written ++ report_text b.plan os) whole (at.1 k),
      )

  done : FilesGiveOneAnswer → (status : Status) (gave : Result Built BuildFault) → (gave ≡ Err fault.NoMemory) ⊎ ReadsGive tells s0 s1 order gave → EndsSo gave status
      → IsTrue tells → status ≡ Done → (c : Built) → built s0.contents order (Ok c) → IsDone c.plan
  done one status gave read ends t is c so =
      let r = ran status gave read ends (inl (subst IsAfter (sym is) tt)) in
      subst (λ (x : Built). IsDone x.plan) (same_plan one r.whole c (r.theirs t) so) (run_done status r.whole is r.ran)

  -- the memories, from what holds of the last moment and of the bytes that a read gives
  programmed : (P : List UnitPlan) → KeepsSound P h0 h1 → AllRecorded P (disk_now h1) → IsCrashImage (disk_now h1) (disk_now h1).bytes → AreShown h1 h0.moment h1.moment
      → (v0 : Vehicle) → IsSoundAt P v0 (disk_now h0) (vehicle_now h0) → AreProgrammedOver P v0 (vehicle_now h1)
  programmed P keeps all readable shown v0 start n lt =
      let through = keeps v0 start in
      let last = through.each h1.moment through.is_later.later (omega arith) shown (disk_now h1).bytes readable n lt in
      ((last.complete (all n lt (disk_now h1).bytes readable)).1, last.outside)

  -- ------ where nothing failed
  module _ (calm : IsCalm s0 s1 h0 h1 k0 k1) (shown : AreShown h1 h0.moment h1.moment) (d : IsTrue dt) (v : IsTrue vt) (status : Status) (b : Built)
      (match : AllMatch b.plan (records (label_of b.plan) (disk_now h0).bytes) (vehicle_now h0)) where
    module _ (r : IsRunReported dt vt h0 h1 kt k0 k1 b status) where
      matching : AllMatch r.made.run.plan (has_entry r.made.run.found) (vehicle_now h0)
      matching =
          let same : has_entry r.made.run.found ≡ records (label_of b.plan) (disk_now h0).bytes = λ i e. (r.made.found d e) i in
          subst (λ (P : List UnitPlan). AllMatch P (has_entry r.made.run.found) (vehicle_now h0)) (sym r.made.of_plan)
          (subst (λ (R : Entry → Bool). AllMatch b.plan R (vehicle_now h0)) (sym same) match)

      complete_or : (n : ℕ) → some_is lacks_memory r.outcomes ≡ false → n < length r.outcomes → slice_get r.outcomes n ≡ Some outcome.Complete
      complete_or n some lt =
          let o : Outcome = get_or r.outcomes n outcome.NoMemory in
          let is : slice_get r.outcomes n ≡ Some o = slice_get-get_or r.outcomes n outcome.NoMemory lt in
          let below : n < count_of r.made.run.plan = subst (λ (k : ℕ). n < k) r.made.are.size lt in
          let failed : (core_of_run r.made.run).halt.failed ≡ false = not_true ((core_of_run r.made.run).halt.failed) (λ e. calm.disk (r.made.says.failed e)) in
          elim (r.made.says.completed v shown (record { disk = failed; link = calm.link; below = calm.below; vehicle = calm.vehicle }) matching n o below (sym (r.made.are.each n below) ∙ is)) as (λ x. slice_get r.outcomes n ≡ Some outcome.Complete) [
            | inl e ↦ is ∙ ap (λ (x : Outcome). Some x) e
            | inr l ↦ absurd (let has : some_is lacks_memory r.outcomes ≡ true = some_lacks r.outcomes l.unit (r.made.are.each l.unit l.below ∙ l.none) in let never : ⊥ = cc in never)
          ]

      all_well : (status_by r.outcomes ≡ NoMemory) ⊎ (status_by r.outcomes ≡ Done)
      all_well = ends_well r.outcomes (λ has. calm.disk (disk_rose b status r has)) (λ some. all_from r.outcomes (λ n lt. complete_or n some lt))

      well : PrintsReport kt k0 k1 b.plan r.outcomes status → (status ≡ Done) ⊎ (status ≡ NoMemory)
      well (inl w) = elim all_well as (λ x. (status ≡ Done) ⊎ (status ≡ NoMemory)) [ inl e ↦ inr (w.0 ∙ e) | inr e ↦ inl (w.0 ∙ e) ]
      well (inr (inl w)) = absurd (calm.sink w.1)
      well (inr (inr w)) = inr w.0

    unopened_well : (u : IsNotOpened dt h0 h1 kt k0 k1 b.plan status) → Opens (label_of b.plan) (disk_now h0).bytes → Unopened u.why status → (status ≡ Done) ⊎ (status ≡ NoMemory)
    unopened_well u opens (other is m) = absurd (not_opens b.plan (disk_now h0).bytes u.why is (u.left.tells d) opens)
    unopened_well u opens (broken e m) = absurd (calm.disk (subst (λ (f : OpenFault). HasCause h0 h1 f) e u.left.cause))
    unopened_well u opens (starved m) = inr m

    ends_so : Opens (label_of b.plan) (disk_now h0).bytes → (let r : Result Built BuildFault = Ok b in EndsSo r status) → (status ≡ Done) ⊎ (status ≡ NoMemory)
    ends_so opens (inl r) = well r r.reported
    ends_so opens (inr u) = unopened_well u opens (unopened kt k0 k1 status b.plan u.why u.printed)

  -- ------ all that a run promises
  pub runs_order : FilesGiveOneAnswer → IsCrashImage (disk_now h1) (disk_now h1).bytes → (status : Status) → IsOrderRun tells s0 s1 dt vt h0 h1 kt k0 k1 order status → RunsOrder tells s0 s1 dt vt h0 h1 kt k0 k1 order status
  runs_order one readable status s = record {
    ends = s;
    cause = ends_cause status s.gave s.read s.outside s.ends;
    told = λ t. told_cause status s.gave (s.told t) s.ends;
    refuses = λ t e some is. refuses one status s.gave s.ends e some is (s.told t);
    refuses_journal = λ t d b is no_file. given_plan one status s.gave s.ends (JournalRefused status) b is (s.told t) (λ m. inr (inr (inr m))) (λ failed. inl failed) (journal_refused status b d no_file);
    not_called = not_called status s.gave s.ends;
    unchanged = unchanged status s.gave s.ends;
    sound = sound one status s.gave s.read s.ends;
    ran = ran status s.gave s.read s.ends;
    done = done one status s.gave s.read s.ends;
    final = λ t d v is shown b so v0 start. programmed b.plan (sound one status s.gave s.read s.ends t d v b so) ((done one status s.gave s.read s.ends t is b so).0 d) readable shown v0 start;
    complete = λ t d v calm shown b is opens match. given_plan one status s.gave s.ends ((status ≡ Done) ⊎ (status ≡ NoMemory)) b is (s.told t) (λ m. inr m) (λ failed. absurd (calm.shelf failed))
        (ends_so calm shown d v status b match opens);
  }
