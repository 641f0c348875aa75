-- What a drill's run promises at its end.
use mathlib.Core.Logic.{∥∥₁_elim}
use Rattle.std.proofs.Common.{◌≡◌, ◌∙◌, ◌⊎◌, inl, inr, ℕ, arith, true, false, IsTrue, Bool, List, [], ◌++◌, codes, map, Ok, refl, sym, ap, subst}
use Rattle.bay_law.specs.Sentence.{IsSoundAt}
use Rattle.disk_model.specs.Disk.{DiskState}
use Rattle.drill_law.specs.Plans.{built_of_drill, plan_of_drill}
use Rattle.drill_law.specs.Vehicles.{unit_specs}
use Rattle.drill_law.proofs.Builds.{builds}
use Rattle.drill_law.proofs.Starts.{empty_matches, empty_opens, empty_sound}
use Rattle.flash_commands.specs.Outcomes.{all_complete}
use Rattle.flash_commands.specs.Running.{IsCalm}
use Rattle.flash_drill.specs.Drilling.{Completes}
use Rattle.flash_drill.specs.Ending.{EndsOver, IsPrinted, IsPrintedRun, RunsOver, cut_off, summary}
use Rattle.flash_journal.specs.Look.{Opens}
use Rattle.flash_shelf.specs.History.{SinkHistory}
use Rattle.journal_model.specs.Records.{label_of, records}
use Rattle.outcome_law.specs.Outcomes.{AllMatch}
use Rattle.plan_build.specs.Building.{built}
use Rattle.plan_commands.specs.declared.status.Status.{Status}
use Rattle.plan_commands.specs.declared.status.Status.TheVariants.{Done, Usage, Input, Units, Shelf, Journal, Disk, Sink, NoMemory}
use Rattle.run_report.specs.Report.{report_text}
use Rattle.shop_model.specs.History.{History, disk_now, vehicle_now}
use Rattle.shop_model.specs.Through.{AreShown}
use Rattle.unit_model.specs.Running.{unit_of}
use Rattle.unit_model.specs.Vehicle.{Vehicle}

-- a text that was cut off leaves no `Done`
never_done : (s : Status) → cut_off s ≡ Done → ⊥
never_done Done e = cc
never_done Usage e = cc
never_done Input e = cc
never_done Units e = cc
never_done Shelf e = cc
never_done Journal e = cc
never_done Disk e = cc
never_done Sink e = cc
never_done NoMemory e = cc

memory_not_done : (r : Status) → r ≡ NoMemory → r ≡ Done → ⊥
memory_not_done r a b = let e : NoMemory ≡ Done = sym a ∙ b in cc

module _ (n : ℕ) (v : Vehicle) (h : History) (page : SinkHistory) (status : Status) (r : RunsOver n v h page status) where
  has_plan : built r.before.contents (codes "drill.json") (Ok (built_of_drill n))
  has_plan = builds n r.before.contents r.files

  shown_from : AreShown h 0 h.moment → AreShown h r.first.moment h.moment
  shown_from s = subst (λ (m : ℕ). AreShown h m h.moment) (sym r.begins.moment) s

  starts_sound : IsSoundAt (plan_of_drill n) v (disk_now r.first) (vehicle_now r.first)
  starts_sound =
      subst (λ (d : DiskState). IsSoundAt (plan_of_drill n) v d (vehicle_now r.first)) (sym r.begins.disk)
      (subst (λ (w : Vehicle). IsSoundAt (plan_of_drill n) v (Rattle.drill_law.specs.Laws.no_file) w) (sym r.begins.vehicle) (empty_sound (plan_of_drill n) v))

  ended : (tells : Bool) (k0 k1 : SinkHistory) → status ≡ Done → (IsTrue tells → k1.written ≡ k0.written ++ (summary n ++ page.written)) → EndsOver n v h tells k0 k1
  ended tells k0 k1 done text =
      let all = r.runs.done refl done (built_of_drill n) has_plan in
      let lines : page.written ≡ report_text (plan_of_drill n) (all_complete (plan_of_drill n)) =
      all.1 refl ∙ ap (λ (t : List ℕ). t ++ report_text (plan_of_drill n) (all_complete (plan_of_drill n))) r.empty in
      record {
        recorded = all.0 refl;
        text = λ t. text t ∙ ap (λ (l : List ℕ). k0.written ++ (summary n ++ l)) lines;
        memory = λ s. r.runs.final refl refl refl done (shown_from s) (built_of_drill n) has_plan v starts_sound;
      }

  pub ends_well : (tells : Bool) (k0 k1 : SinkHistory) (result : Status) → IsPrinted tells k0 k1 (summary n ++ page.written) status result → result ≡ Done → EndsOver n v h tells k0 k1
  ends_well tells k0 k1 result (inl p) done = ended tells k0 k1 (sym p.0 ∙ done) p.1
  ends_well tells k0 k1 result (inr (inl p)) done = absurd (never_done status (sym p.0 ∙ done))
  ends_well tells k0 k1 result (inr (inr p)) done = absurd (memory_not_done result p.0 done)

  pub completes : v.units ≡ map unit_of (unit_specs n) → IsCalm r.before r.behind r.first h r.blank page → AreShown h 0 h.moment → (status ≡ Done) ⊎ (status ≡ NoMemory)
  completes are calm s =
      let P = plan_of_drill n in
      let opens : Opens (label_of P) (disk_now r.first).bytes = subst (λ (d : DiskState). Opens (label_of P) d.bytes) (sym r.begins.disk) (empty_opens P) in
      let matches : AllMatch P (records (label_of P) (disk_now r.first).bytes) (vehicle_now r.first) =
      subst (λ (d : DiskState). AllMatch P (records (label_of P) d.bytes) (vehicle_now r.first)) (sym r.begins.disk)
      (subst (λ (w : Vehicle). AllMatch P (records (label_of P) []) w) (sym r.begins.vehicle) (empty_matches n v are)) in
      r.runs.complete refl refl refl calm (shown_from s) (built_of_drill n) has_plan opens matches

  -- the vehicle of the start is kept in mind
  pub started : h.vehicle_at 0 ≡ v
  started =
      let kept = r.runs.sound refl refl refl (built_of_drill n) has_plan v starts_sound in
      kept.is_later.vehicle_past 0 (omega arith) ∙ (ap (λ (m : ℕ). r.first.vehicle_at m) (sym r.begins.moment) ∙ r.begins.vehicle)

  -- by what was printed of the run
  pub ends_printed : (tells : Bool) (k0 k1 : SinkHistory) (starved : Bool) (result : Status) → IsPrintedRun tells k0 k1 n page.written status starved result → result ≡ Done → EndsOver n v h tells k0 k1
  ends_printed tells k0 k1 false result p done = ends_well tells k0 k1 result p done
  ends_printed tells k0 k1 true result p done = absurd (memory_not_done result p.0 done)

-- a run that ends well is printed, or there was no memory, or writing failed
pub printed_well : (tells : Bool) (k0 k1 : SinkHistory) (text : List ℕ) (status result : Status) → (status ≡ Done) ⊎ (status ≡ NoMemory) → IsPrinted tells k0 k1 text status result → Completes k0 k1 result
printed_well tells k0 k1 text status result (inl e) (inl p) = inl (p.0 ∙ e)
printed_well tells k0 k1 text status result (inr e) (inl p) = inr (inl (p.0 ∙ e))
printed_well tells k0 k1 text status result (inl e) (inr (inl p)) = inr (inr (p.0 ∙ ap cut_off e, p.1))
printed_well tells k0 k1 text status result (inr e) (inr (inl p)) = inr (inl (p.0 ∙ ap cut_off e))
printed_well tells k0 k1 text status result e (inr (inr p)) = inr (inl p.0)

-- what a truncated pair says of a status
pub good : (status : Status) → ∥ (status ≡ Done) ⊎ (status ≡ NoMemory) ∥₁ → (status ≡ Done) ⊎ (status ≡ NoMemory)
good Done h = inl refl
good NoMemory h = inr refl
good Usage h = absurd (∥∥₁_elim h (λ x y. absurd x) (λ x. elim x [ inl e ↦ cc | inr e ↦ cc ]))
good Input h = absurd (∥∥₁_elim h (λ x y. absurd x) (λ x. elim x [ inl e ↦ cc | inr e ↦ cc ]))
good Units h = absurd (∥∥₁_elim h (λ x y. absurd x) (λ x. elim x [ inl e ↦ cc | inr e ↦ cc ]))
good Shelf h = absurd (∥∥₁_elim h (λ x y. absurd x) (λ x. elim x [ inl e ↦ cc | inr e ↦ cc ]))
good Journal h = absurd (∥∥₁_elim h (λ x y. absurd x) (λ x. elim x [ inl e ↦ cc | inr e ↦ cc ]))
good Disk h = absurd (∥∥₁_elim h (λ x y. absurd x) (λ x. elim x [ inl e ↦ cc | inr e ↦ cc ]))
good Sink h = absurd (∥∥₁_elim h (λ x y. absurd x) (λ x. elim x [ inl e ↦ cc | inr e ↦ cc ]))
