-- Laws of the link in its own words.
use Rattle.std.specs.Prelude.{◌≡◌, ◌⊎◌, ℕ, ◌+◌, ◌==◌, Bool, true, false, is_some, List, [], ◌∷◌, ◌++◌, Option, Some, None, if◌then◌else◌}
use Rattle.doip_frame.specs.Frame.{stream_of}
use Rattle.doip_frame.specs.declared.frame.Frame.{Frame}
use Rattle.doip_frame.specs.declared.frame.Frame.TheVariants.{HeaderNack, Activate, Activated, AliveAsk, AliveSay, Message, Ack, Nack, Other}
use Rattle.flash_plan.specs.declared.unit.LinkRules.{LinkRules}
use Rattle.flash_plan.specs.declared.unit.UnitPlan.{UnitPlan}
use Rattle.run_model.specs.Link.{Link, Phase, see_all, unanswered, quiet_link}
use Rattle.run_model.specs.Link as phase
use Rattle.bay_core.specs.Core.{link_after}
use Rattle.bay_core.specs.declared.event.Heard.{Heard}
use Rattle.bay_core.specs.declared.event.Heard.TheVariants.{Kept, Quiet, Piece, Lost}
use Rattle.bay_core.specs.declared.event.Tend.{Tend}
use Rattle.bay_core.specs.declared.event.Tend.TheVariants.{Dialed, Asked, Said, Polled}
use Rattle.bay_core.specs.declared.event.Event.{Event}
use Rattle.bay_core.specs.declared.event.Event.TheVariants.{Claimed, Began, Sent, Collected, Tended, Marked, Completed, DiskFailed, Ended}

-- among the frames the gateway refuses a header
abbrev pub refuses_header : List Frame → Bool
refuses_header [] = false
refuses_header (HeaderNack code ∷ fs) = true
refuses_header (Activate source kind oem ∷ fs) = refuses_header fs
refuses_header (Activated t entity code oem ∷ fs) = refuses_header fs
refuses_header (AliveAsk ∷ fs) = refuses_header fs
refuses_header (AliveSay source ∷ fs) = refuses_header fs
refuses_header (Message s t body ∷ fs) = refuses_header fs
refuses_header (Ack s t code old ∷ fs) = refuses_header fs
refuses_header (Nack s t code old ∷ fs) = refuses_header fs
refuses_header (Other kind payload ∷ fs) = refuses_header fs

-- the receive failed, its bytes are no frames or refuse a header, or the activation was not answered in time
abbrev pub IsHeardLoss : Heard → Link → Type 0
IsHeardLoss Kept l = ⊥
IsHeardLoss Quiet l = unanswered (quiet_link l) ≡ true
IsHeardLoss (Piece bytes) l = (is_some (stream_of (l.rest ++ bytes)).bad ≡ true)
    ⊎ (refuses_header (stream_of (l.rest ++ bytes)).frames ≡ true)
IsHeardLoss Lost l = Unit {0}

abbrev pub IsTendLoss : Tend → Link → Type 0
IsTendLoss (Dialed lost) l = lost ≡ true
IsTendLoss (Asked lost) l = lost ≡ true
IsTendLoss (Said lost) l = lost ≡ true
IsTendLoss (Polled heard) l = IsHeardLoss heard l

abbrev pub IsLoss : Event → Link → Type 0
IsLoss (Claimed u) l = ⊥
IsLoss (Began u) l = ⊥
IsLoss (Sent u place lost) l = lost ≡ true
IsLoss (Collected u heard) l = IsHeardLoss heard l
IsLoss (Tended step) l = IsTendLoss step l
IsLoss (Marked u s) l = ⊥
IsLoss (Completed u) l = ⊥
IsLoss (DiskFailed u entry) l = ⊥
IsLoss (Ended u outcome) l = ⊥

-- no loss, or one
abbrev pub LosesAtMostOne : Type 0 → Link → Link → Type 0
LosesAtMostOne cause l l2 = (l2.losses ≡ l.losses) ⊎ ((l2.losses ≡ l.losses + 1) × cause)

-- the code of the first answer to an activation
abbrev pub first_code : List Frame → Option ℕ
first_code [] = None
first_code (Activated t entity code oem ∷ fs) = Some code
first_code (HeaderNack code ∷ fs) = first_code fs
first_code (Activate source kind oem ∷ fs) = first_code fs
first_code (AliveAsk ∷ fs) = first_code fs
first_code (AliveSay source ∷ fs) = first_code fs
first_code (Message s t body ∷ fs) = first_code fs
first_code (Ack s t code old ∷ fs) = first_code fs
first_code (Nack s t code old ∷ fs) = first_code fs
first_code (Other kind payload ∷ fs) = first_code fs

abbrev pub phase_for : Option ℕ → Phase
phase_for None = phase.Asked
phase_for (Some code) = if code == 16 then phase.Up else phase.Refused code

-- An event is at most one loss, and a loss is one of the four things. While the activation is awaited, the first answer
-- decides, whatever addresses it has. Behind a denial nothing is looked at.
pub record AreLinkLaws : Type 0 where
  pub loss : (rules : LinkRules) (P : List UnitPlan) (e : Event) (l : Link)
      → LosesAtMostOne (IsLoss e l) l (link_after rules P e l)
  pub first : (tester : ℕ) (units : List ℕ) (fs : List Frame) (l : Link) → l.phase ≡ phase.Asked
      → refuses_header fs ≡ false → (see_all tester units fs l).phase ≡ phase_for (first_code fs)
  pub denied : (tester code : ℕ) (units : List ℕ) (fs gs : List Frame) (l : Link)
      → (see_all tester units fs l).phase ≡ phase.Refused code
      → see_all tester units (fs ++ gs) l ≡ see_all tester units fs l
