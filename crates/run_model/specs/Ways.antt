-- What is on the way from a unit to the tester, in the order in which it will be taken.
use Rattle.std.specs.Prelude.{◌≡◌, ◌⊎◌, ℕ, zero, suc, Bool, true, false, ◌&&◌, ◌==◌, nat_le, List, [], ◌∷◌, ◌++◌, Option, Some, None, if◌then◌else◌}
use Rattle.doip_frame.specs.Frame.{stream_of}
use Rattle.doip_frame.specs.declared.frame.Frame.{Frame}
use Rattle.doip_frame.specs.declared.frame.Frame.TheVariants.{HeaderNack, Activate, Activated, AliveAsk, AliveSay, Message, Ack, Nack, Other}
use Rattle.flash_plan.specs.declared.unit.UnitPlan.{UnitPlan}
use Rattle.uds_codec.specs.Request.{sid_of}
use Rattle.unit_model.specs.Step.{pending_bytes}
use Rattle.unit_model.specs.Unit.{ControlUnit}
use Rattle.unit_model.specs.Vehicle.{HeldAnswer, Gateway}
use Rattle.run_model.specs.Script.{Place, bytes_at}
use Rattle.run_model.specs.States.{StateAt, StateIn, Obeyed, Departed}

-- a message of a unit: a reply, or the gateway's refusal to deliver
pub data UnitMessage : Type 0 where
  Reply : List ℕ → UnitMessage
  Nacked : ℕ → UnitMessage

-- the messages of one unit in an inbox
abbrev pub messages_from : ℕ → List (ℕ × UnitMessage) → List UnitMessage
messages_from a [] = []
messages_from a (m ∷ ms) = if m.0 == a then m.1 ∷ messages_from a ms else messages_from a ms

-- bytes that spell whole frames
pub record AreWholeFrames (bytes : List ℕ) : Type 0 where
  pub rest : (stream_of bytes).rest ≡ []
  pub bad : (stream_of bytes).bad ≡ None

-- the message of a unit that a frame carries to the tester
abbrev pub message_in : ℕ → ℕ → Frame → List UnitMessage
message_in tester a (Message s t body) = if t == tester && s == a then Reply body ∷ [] else []
message_in tester a (Nack s t code old) = if t == tester && s == a then Nacked code ∷ [] else []
message_in tester a (HeaderNack code) = []
message_in tester a (Activate source kind oem) = []
message_in tester a (Activated t entity code oem) = []
message_in tester a AliveAsk = []
message_in tester a (AliveSay source) = []
message_in tester a (Ack s t code old) = []
message_in tester a (Other kind payload) = []

abbrev pub messages_in : ℕ → ℕ → List Frame → List UnitMessage
messages_in tester a [] = []
messages_in tester a (f ∷ fs) = message_in tester a f ++ messages_in tester a fs

abbrev pub messages_later : ℕ → ℕ → List (ℕ × List ℕ) → List UnitMessage
messages_later tester a [] = []
messages_later tester a (q ∷ qs) = messages_in tester a (stream_of q.1).frames ++ messages_later tester a qs

abbrev pub messages_held : ℕ → List HeldAnswer → List UnitMessage
messages_held a [] = []
messages_held a (h ∷ hs) = if h.unit == a then Reply h.body ∷ messages_held a hs else messages_held a hs

-- in the inbox, in what was received behind the last whole frame and what is due, in the queue, and held
abbrev pub on_way : ℕ → ℕ → List (ℕ × UnitMessage) → List ℕ → Gateway → List UnitMessage
on_way tester a inbox rest g =
    messages_from a inbox ++ (messages_in tester a
    (stream_of (rest ++ g.ready)).frames ++ (messages_later tester a g.later ++ messages_held a g.held))

abbrev pub has_no_message : List UnitMessage → Bool
has_no_message [] = true
has_no_message (w ∷ ws) = false

-- the frames of a unit come in the order in which they were queued
abbrev pub ascends_for : ℕ → ℕ → ℕ → List (ℕ × List ℕ) → Bool
ascends_for tester a from [] = true
ascends_for tester a from (q ∷ qs) =
    if has_no_message (messages_in tester a (stream_of q.1).frames) then ascends_for tester a from qs
    else nat_le from q.0 && ascends_for tester a q.0 qs

abbrev pub pending_messages : ℕ → ℕ → List UnitMessage
pending_messages sid zero = []
pending_messages sid (suc n) = Reply (pending_bytes sid) ∷ pending_messages sid n

abbrev pub final_message : Option (List ℕ) → List UnitMessage
final_message None = []
final_message (Some body) = Reply body ∷ []

-- The unit heard the request in hand: it was in the state of the script and obeyed or departed; of what it said,
-- responses pending and behind them the answer, if there is one, are on the way.
pub record HeardIt (plan : UnitPlan) (place : Place) (way : List UnitMessage) (u : ControlUnit) : Type 0 where
  pub before : ControlUnit
  pub said : Option (List ℕ)
  pub pending : ℕ
  pub state : StateAt plan place before
  pub step : Obeyed before (bytes_at plan place) said u ⊎ Departed before (bytes_at plan place) said u
  pub on_way : way ≡ pending_messages (sid_of (bytes_at plan place)) pending ++ final_message said

-- the gateway refused to deliver it
pub record MissedIt (plan : UnitPlan) (place : Place) (way : List UnitMessage)
    (u : Option ControlUnit) : Type 0 where
  pub code : ℕ
  pub state : StateIn plan place u
  pub on_way : way ≡ Nacked code ∷ []

-- a unit, if there is one, whose answer is awaited
abbrev pub AwaitsIn : UnitPlan → Place → List UnitMessage → Option ControlUnit → Type 0
AwaitsIn plan place way None = MissedIt plan place way None
AwaitsIn plan place way (Some u) = MissedIt plan place way (Some u) ⊎ HeardIt plan place way u
