-- An event that makes no call of the shop: a claim, an end, a message taken from an inbox.
use Rattle.std.proofs.Common.{◌≡◌, ℕ, false, List, refl, sym, ◌∙◌, ap}
use Rattle.std.specs.Prelude.{Bool}
use Rattle.bay_core.specs.Core.{Core, core_after}
use Rattle.bay_core.specs.Moves.{MovesVehicle}
use Rattle.bay_core.specs.declared.event.Event.{Event}
use Rattle.bay_core.specs.declared.event.Event.TheVariants.{Claimed, Collected, Ended}
use Rattle.bay_core.specs.declared.event.Heard.TheVariants.{Kept}
use Rattle.disk_model.specs.Disk.{DiskState}
use Rattle.flash_plan.specs.declared.outcome.Outcome.{Outcome}
use Rattle.flash_plan.specs.declared.unit.LinkRules.{LinkRules}
use Rattle.flash_plan.specs.declared.unit.UnitPlan.{UnitPlan}
use Rattle.flash_run.specs.Run.{RunState, core_of_run, with_event}
use Rattle.outcome_law.specs.LinkCounting.{is_fault}
use Rattle.run_model.specs.Link.{Phase, is_live as lives}
use Rattle.shop_model.specs.History.{History, disk_now}
use Rattle.unit_model.specs.Vehicle.{Vehicle}
use Rattle.bay_law.specs.Bay.{JournalState, IsBay, IsSmallEvent}
use Rattle.bay_law.proofs.Keeping.{journal_still}
use Rattle.bay_law.proofs.Steps.{event_keeps, told_still}

pub record IsQuiet (rules : LinkRules) (P : List UnitPlan) (e : Event) : Type 0 where
  pub vehicle : (c : Core) (v : Vehicle) → MovesVehicle rules P c e v v
  pub sound : (v : Vehicle) → is_fault e v v ≡ false
  pub small : IsSmallEvent e
  pub phase : (c : Core) → (core_after rules P e c).link.phase ≡ c.link.phase
  pub recorded : (c : Core) → (core_after rules P e c).recorded ≡ c.recorded
  pub doubted : (c : Core) → (core_after rules P e c).doubted ≡ c.doubted
  pub failed : (c : Core) → (core_after rules P e c).halt.failed ≡ c.halt.failed

pub claimed_quiet : (rules : LinkRules) (P : List UnitPlan) (u : ℕ) → IsQuiet rules P (Claimed u)
claimed_quiet rules P u = record { vehicle = λ c v. refl; sound = λ v. refl; small = tt; phase = λ c. refl; recorded = λ c. refl; doubted = λ c. refl; failed = λ c. refl }

pub kept_quiet : (rules : LinkRules) (P : List UnitPlan) (u : ℕ) → IsQuiet rules P (Collected u Kept)
kept_quiet rules P u = record { vehicle = λ c v. refl; sound = λ v. refl; small = tt; phase = λ c. refl; recorded = λ c. refl; doubted = λ c. refl; failed = λ c. refl }

pub ended_quiet : (rules : LinkRules) (P : List UnitPlan) (u : ℕ) (o : Outcome) → IsQuiet rules P (Ended u o)
ended_quiet rules P u o = record { vehicle = λ c v. refl; sound = λ v. refl; small = tt; phase = λ c. refl; recorded = λ c. refl; doubted = λ c. refl; failed = λ c. refl }

pub quiet_keeps : (td tv : Bool) (r : RunState) (e : Event) (first now : History) (j : JournalState) (K : DiskState → Type 0) → IsQuiet r.rules r.plan e → IsBay td tv r first now j K → IsBay td tv (with_event e r) first now j K
quiet_keeps td tv r e first now j K of is =
    let c : Core = core_of_run r in
    event_keeps td tv r e first now j K is.small of.small is.ordered is.is_later (λ l. is.linked (ap (λ (k : Phase). lives k) (sym (of.phase c)) ∙ l)) (λ f. is.failed (sym (of.failed c) ∙ f))
    (journal_still td r.plan c (core_after r.rules r.plan e c) j K (disk_now now) (disk_now now) (of.recorded c) (of.doubted c) (of.failed c) refl is.journal)
    (λ t shown. told_still r e first now now (of.vehicle c) of.sound refl refl (is.told t shown)) is.sentence
