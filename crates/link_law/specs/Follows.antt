-- What a whole list of events says of the link.
use Rattle.std.specs.Prelude.{◌≡◌, ℕ, ◌+◌, ◌≤◌, Bool, true, false, ◌&&◌, ◌||◌, ◌==◌, not, nat_lt, nat_le, is_some, List, [], ◌∷◌, ◌++◌, length, drop, Option, Some, None, if◌then◌else◌}
use Rattle.bay_core.specs.Core.{addresses_of, core_of, core_start}
use Rattle.bay_core.specs.Legal.{is_legal}
use Rattle.bay_core.specs.LinkLaws.{phase_for}
use Rattle.doip_frame.specs.Frame.{stream_of}
use Rattle.flash_plan.specs.Plan.{plan_of}
use Rattle.flash_plan.specs.declared.outcome.Entry.{Entry}
use Rattle.flash_plan.specs.declared.unit.LinkRules.{LinkRules}
use Rattle.flash_plan.specs.declared.unit.UnitPlan.{UnitPlan}
use Rattle.run_model.specs.Link.{Link, Phase, is_down, is_known, first_message}
use Rattle.run_model.specs.Link as phase
use Rattle.run_model.specs.Ways.{messages_from}
use Rattle.link_law.specs.Happened.{one, has, count, behind_last, to_last, count_after, some_amid}
use Rattle.link_law.specs.Kinds.{event_bytes, bytes_in, is_dial, is_ask, is_say, is_quiet, is_quiet_wait, is_failed_call, dial_of}
use Rattle.link_law.specs.Looked.{answer_in, is_broken, checks_of, unit_messages}
use Rattle.bay_core.specs.declared.event.Heard.{Heard}
use Rattle.bay_core.specs.declared.event.Heard.TheVariants.{Kept, Quiet, Piece, Lost}
use Rattle.bay_core.specs.declared.event.Tend.{Tend}
use Rattle.bay_core.specs.declared.event.Tend.TheVariants.{Dialed, Asked, Said, Polled}
use Rattle.bay_core.specs.declared.event.Event.{Event}
use Rattle.bay_core.specs.declared.event.Event.TheVariants.{Sent, Collected, Tended}

-- ------ since the last dial
-- whether the last dial failed, if there was one
abbrev pub last_dial : List Event → Option Bool
last_dial [] = None
last_dial (e ∷ es) = if has is_dial es then last_dial es else dial_of e

abbrev pub since_dial : List Event → List Event
since_dial events = behind_last is_dial events

abbrev pub bytes_since_dial : List Event → List ℕ
bytes_since_dial events = bytes_in (since_dial events)

-- ------ losses
-- these events of one connection ended it: a call failed, its bytes broke it, or the activation had no answer at the 1,000th
-- quiet poll for it
abbrev pub is_ended : List Event → Bool
is_ended since = has is_failed_call since || is_broken (stream_of (bytes_in since))
    || nat_le 1000 (count is_quiet_wait since)

abbrev pub hears_loss : List Event → Heard → Bool
hears_loss since Kept = false
hears_loss since Quiet = false
hears_loss since (Piece bytes) = is_broken (stream_of (bytes_in since ++ bytes))
hears_loss since Lost = true

abbrev pub tends_loss : List Event → Tend → Bool
tends_loss since (Dialed lost) = lost
tends_loss since (Asked lost) = lost
tends_loss since (Said lost) = lost
tends_loss since (Polled Quiet) = nat_le 1000 (count is_quiet_wait since + 1)
tends_loss since (Polled heard) = hears_loss since heard

-- an event behind others is a loss: its call failed, its bytes broke the connection, or it was the 1,000th quiet poll
abbrev pub is_loss : List Event → Event → Bool
is_loss before (Sent u place lost) = lost
is_loss before (Collected u heard) = hears_loss (since_dial before) heard
is_loss before (Tended step) = tends_loss (since_dial before) step
is_loss before e = false

-- ------ the phase
abbrev pub phase_in : Option Bool → List Event → Phase
phase_in None since = phase.Down
phase_in (Some true) since = phase.Down
phase_in (Some false) since =
    if is_ended since then phase.Down
    else if has is_ask since then phase_for (answer_in (stream_of (bytes_in since)).frames)
    else phase.Dialed

abbrev pub phase_of : List Event → Phase
phase_of events = phase_in (last_dial events) (since_dial events)

-- ------ an alive check to be answered
-- an alive check ends in the piece of this event, and none behind it answers one
abbrev pub leaves_check : List Event → Event → List Event → Bool
leaves_check before e behind = nat_lt (checks_of (bytes_in before))
    (checks_of (bytes_in before ++ event_bytes e)) && not (has is_say behind)

abbrev pub is_owed : List Event → Bool
is_owed since = some_amid leaves_check [] since

-- ------ messages taken
-- a step that collects got a message: a kept one, or one that came with its piece
abbrev pub gets : ℕ → ℕ → List ℕ → Heard → Bool
gets tester a before Kept = true
gets tester a before Quiet = false
gets tester a before (Piece bytes) =
    nat_lt (length (unit_messages tester a before)) (length (unit_messages tester a (before ++ bytes)))
gets tester a before Lost = false

-- an event of one connection took a message of the unit with an address
abbrev pub takes : ℕ → List UnitPlan → ℕ → List Event → Event → Bool
takes tester P a before (Collected u heard) = (plan_of P u).address == a
    && gets tester a (bytes_in before) heard
takes tester P a before e = false

abbrev pub taken : ℕ → List UnitPlan → ℕ → List Event → ℕ
taken tester P a since = count_after (takes tester P a) [] since

-- ------ the link
-- The link by the events.
-- Its bytes are those since the last dial, of which none came before the activation was asked for; what is left of them is
-- what stands behind their last whole frame.
-- The phase is that of the last dial, of what ended the connection, and of the first answer to the activation.
-- Ticks, the tick of the last activation request and losses count events. Each dial but the last was lost, and the last too
-- where there is no connection.
-- An alive answer is owed where a check ends in a piece that no answer follows.
-- The inbox of a unit is the messages of its address that are looked at since the last dial, without the first ones, as many
-- as were taken since. There is one to take exactly where more came than were taken. Of no other address there is any.
pub record IsLinkOf (rules : LinkRules) (P : List UnitPlan) (events : List Event) (l : Link) : Type 0 where
  pub bytes : l.got ≡ bytes_since_dial events
  pub rest : l.rest ≡ (stream_of (bytes_since_dial events)).rest
  pub phase : l.phase ≡ phase_of events
  pub ticks : l.ticks ≡ count is_quiet events
  pub asked : l.asked ≡ count is_quiet (to_last is_ask events)
  pub losses : l.losses ≡ count_after is_loss [] events
  pub dials : l.losses + one (not (is_down l.phase)) ≡ count is_dial events
  pub owes : l.owes ≡ is_owed (since_dial events)
  pub unasked : has is_ask (since_dial events) ≡ false → bytes_since_dial events ≡ []
  pub came : (a : ℕ) → is_known (addresses_of P) a ≡ true
      → taken rules.tester P a (since_dial events) ≤ length
      (unit_messages rules.tester a (bytes_since_dial events))
  pub inbox : (a : ℕ) → is_known (addresses_of P) a ≡ true
      → messages_from a l.inbox ≡ drop (taken rules.tester P a (since_dial events))
      (unit_messages rules.tester a (bytes_since_dial events))
  pub kept : (a : ℕ) → is_known (addresses_of P) a ≡ true
      → is_some (first_message a l.inbox) ≡ nat_lt (taken rules.tester P a (since_dial events))
      (length (unit_messages rules.tester a (bytes_since_dial events)))
  pub others : (a : ℕ) → is_known (addresses_of P) a ≡ false → messages_from a l.inbox ≡ []

-- the link that a legal list of events gives follows from the list
abbrev pub LinkFollows : Type 0
LinkFollows = (rules : LinkRules) (P : List UnitPlan) (found : Entry → Bool) (events : List Event)
    → is_legal rules P (core_start P found) events ≡ true
    → IsLinkOf rules P events (core_of rules P (core_start P found) events).link
