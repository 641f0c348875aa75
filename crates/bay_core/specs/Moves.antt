-- What one event does to the vehicle and to the records.
use Rattle.std.specs.Prelude.{◌≡◌, ◌⊎◌, ℕ, Bool, List, MatchBool}
use Rattle.flash_plan.specs.declared.unit.UnitPlan.{UnitPlan}
use Rattle.flash_plan.specs.Outcomes.{with_entry}
use Rattle.bay_core.specs.Core.{Core}
use Rattle.doip_frame.specs.Frame.{activate_bytes, alive_say_bytes, message_bytes}
use Rattle.unit_model.specs.Vehicle.{Vehicle, redialed}
use Rattle.unit_model.specs.Feed.{Feeds, FeedsPart}
use Rattle.unit_model.specs.Poll.{Ticks, IsShown, Misses}
use Rattle.flash_plan.specs.declared.unit.LinkRules.{LinkRules}
use Rattle.flash_plan.specs.declared.outcome.Entry.{Entry}
use Rattle.flash_plan.specs.declared.outcome.Entry.TheVariants as entry
use Rattle.flash_plan.specs.Plan.{plan_of}
use Rattle.bay_core.specs.declared.event.Heard.{Heard}
use Rattle.bay_core.specs.declared.event.Heard.TheVariants.{Kept, Quiet, Piece, Lost}
use Rattle.bay_core.specs.declared.event.Tend.{Tend}
use Rattle.bay_core.specs.declared.event.Tend.TheVariants.{Dialed, Asked, Said, Polled}
use Rattle.bay_core.specs.declared.event.Event.{Event}
use Rattle.bay_core.specs.declared.event.Event.TheVariants.{Claimed, Began, Sent, Collected, Tended, Marked, Completed, DiskFailed, Ended}
use Rattle.run_model.specs.Script.{bytes_at}

abbrev pub FeedsOr : Bool → List ℕ → Vehicle → Vehicle → Type 0
FeedsOr lost frame v v2 = MatchBool lost (FeedsPart frame v v2) (Feeds frame v v2)

abbrev pub DialsOr : Bool → Vehicle → Vehicle → Type 0
DialsOr lost v v2 = MatchBool lost ((v2 ≡ v) ⊎ (v2 ≡ redialed v)) (v2 ≡ redialed v)

abbrev pub Receives : Heard → Vehicle → Vehicle → Type 0
Receives Kept v v2 = v2 ≡ v
Receives Quiet v v2 = Ticks v v2
Receives (Piece bytes) v v2 = IsShown bytes v v2
Receives Lost v v2 = Misses v v2

abbrev pub Tends : LinkRules → Tend → Vehicle → Vehicle → Type 0
Tends rules (Dialed lost) v v2 = DialsOr lost v v2
Tends rules (Asked lost) v v2 = FeedsOr lost (activate_bytes rules.tester) v v2
Tends rules (Said lost) v v2 = FeedsOr lost (alive_say_bytes rules.tester) v v2
Tends rules (Polled heard) v v2 = Receives heard v v2

abbrev pub request_frame : LinkRules → List UnitPlan → Core → ℕ → List ℕ
request_frame rules P c u =
    message_bytes rules.tester (plan_of P u).address (bytes_at (plan_of P u) (c.slots u).talk.place)

-- what it does to the vehicle
abbrev pub MovesVehicle : LinkRules → List UnitPlan → Core → Event → Vehicle → Vehicle → Type 0
MovesVehicle rules P c (Claimed u) v v2 = v2 ≡ v
MovesVehicle rules P c (Began u) v v2 = v2 ≡ v
MovesVehicle rules P c (Sent u place lost) v v2 = FeedsOr lost (request_frame rules P c u) v v2
MovesVehicle rules P c (Collected u heard) v v2 = Receives heard v v2
MovesVehicle rules P c (Tended step) v v2 = Tends rules step v v2
MovesVehicle rules P c (Marked u s) v v2 = v2 ≡ v
MovesVehicle rules P c (Completed u) v v2 = v2 ≡ v
MovesVehicle rules P c (DiskFailed u entry) v v2 = v2 ≡ v
MovesVehicle rules P c (Ended u outcome) v v2 = v2 ≡ v

-- and to the records: an append that failed adds its entry or does not
abbrev pub MovesRecords : Event → (Entry → Bool) → (Entry → Bool) → Type 0
MovesRecords (Claimed u) R R2 = R2 ≡ R
MovesRecords (Began u) R R2 = R2 ≡ with_entry (entry.Begun u) R
MovesRecords (Sent u place lost) R R2 = R2 ≡ R
MovesRecords (Collected u heard) R R2 = R2 ≡ R
MovesRecords (Tended step) R R2 = R2 ≡ R
MovesRecords (Marked u s) R R2 = R2 ≡ with_entry (entry.Marked u s) R
MovesRecords (Completed u) R R2 = R2 ≡ with_entry (entry.Complete u) R
MovesRecords (DiskFailed u entry) R R2 = (R2 ≡ R) ⊎ (R2 ≡ with_entry entry R)
MovesRecords (Ended u outcome) R R2 = R2 ≡ R

pub record Moves (rules : LinkRules) (P : List UnitPlan) (c : Core) (e : Event) (v v2 : Vehicle)
    (R R2 : Entry → Bool) : Type 0 where
  pub vehicle : MovesVehicle rules P c e v v2
  pub records : MovesRecords e R R2
