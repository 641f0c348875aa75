-- What one frame makes of a gateway, and what it means for a unit.
use Rattle.std.specs.Prelude.{ℕ, ◌+◌, Bool, List, ◌++◌, Option, None, Some, if◌then◌else◌}
use Rattle.doip_frame.specs.declared.frame.Bad.{Bad}
use Rattle.doip_frame.specs.declared.frame.Bad.TheVariants.{Pattern, Length, TooLarge, Failed}
use Rattle.doip_frame.specs.declared.frame.Frame.{Frame}
use Rattle.doip_frame.specs.declared.frame.Frame.TheVariants.{HeaderNack, Activate, Activated, AliveAsk, AliveSay, Message, Ack, Nack, Other}
use Rattle.doip_frame.specs.Frame.{activated_bytes, ack_bytes, nack_bytes, message_bytes, header_nack_bytes}
use Rattle.unit_model.specs.Feed.{enqueue, tester_of}
use Rattle.unit_model.specs.Poll.{bytes_due, not_due, alive_bytes}
use Rattle.unit_model.specs.Step.{raise_code}
use Rattle.flash_base.specs.Counts.{one_more}
use Rattle.unit_model.specs.Vehicle.{Gateway}
use Rattle.gateway_sim.specs.declared.delivery.Delivery.{Delivery}
use Rattle.gateway_sim.specs.declared.delivery.Delivery.TheVariants as delivery
use Rattle.gateway_sim.specs.declared.trouble.Answer.{Answer}
use Rattle.gateway_sim.specs.declared.trouble.Answer.TheVariants.{Accept, Deny, Ignore}
use Rattle.gateway_sim.specs.Acting.{how, nack_for, counted_activation, counted_message}
use Rattle.gateway_sim.specs.Gates.{Gate}

-- for a unit: nothing; it hears a request; or a message to it was refused with a code
pub data Sent : Type 0 where
  Nothing : Sent
  Heard : ℕ → List ℕ → Sent
  Refused : ℕ → ℕ → Sent

abbrev pub sent_of : Delivery → Sent
sent_of delivery.Nothing = Nothing
sent_of (delivery.Heard unit body) = Heard unit body.now
sent_of (delivery.Refused unit code) = Refused unit code

-- the gateway says a frame at once
abbrev pub with_gateway : Gate → Gateway → Gate
with_gateway g h = record g { gateway = h }

abbrev pub saying : Gateway → List ℕ → Gateway
saying h frame = record h { ready = h.ready ++ frame }

abbrev pub says : Gate → List ℕ → Gate
says g frame = with_gateway g (saying g.gateway frame)

-- an activation request is answered
abbrev pub answered : Answer → ℕ → Gateway → Gateway
answered Accept source h = record h {
  active = Some source;
  ready = h.ready ++ activated_bytes source h.entity 16;
}
answered (Deny code) source h = record h {
  denied = raise_code code h.denied;
  ready = h.ready ++ activated_bytes source h.entity code;
}
answered Ignore source h = record h { silent = one_more h.silent }

abbrev pub activates : ℕ → Gate → Gate
activates source g = record g {
  gateway = answered (how g.troubles) source g.gateway;
  troubles = counted_activation g.troubles;
}

-- what a frame makes of a gateway, and what it means for a unit
abbrev pub Step : Type 0
Step = Gate × Sent

-- a message that comes to a unit, refused or not
abbrev pub comes : ℕ → ℕ → List ℕ → Option ℕ → Gate → Step
comes source target body None g = (
  record (says g (ack_bytes target source)) { troubles = counted_message target g.troubles },
  Heard target
      body,
)
comes source target body (Some code) g = (
  record (says g (nack_bytes target source code)) { troubles = counted_message target g.troubles },
  Refused
      target code,
)

-- known: there is a unit with the target's address
abbrev pub delivers : ℕ → ℕ → List ℕ → Bool → Option ℕ → Gate → Step
delivers source target body known None g = (says g (nack_bytes target source 2), Nothing)
delivers source target body known (Some tester) g =
    if known then comes source target body (nack_for target g.troubles) g
    else (says g (nack_bytes target source 3), Nothing)

abbrev pub handled : Frame → Bool → Gate → Step
handled (Activate source kind oem) known g = (activates source g, Nothing)
handled (Message source target body) known g = delivers source target body known g.gateway.active g
handled (HeaderNack code) known g = (g, Nothing)
handled (Activated tester entity code oem) known g = (g, Nothing)
handled AliveAsk known g = (g, Nothing)
handled (AliveSay source) known g = (g, Nothing)
handled (Ack source target code old) known g = (g, Nothing)
handled (Nack source target code old) known g = (g, Nothing)
handled (Other kind payload) known g = (g, Nothing)

-- the code with which a refused header is answered; none where one was refused before
abbrev pub code_of : Option Bad → Option ℕ
code_of None = None
code_of (Some Pattern) = Some 0
code_of (Some (TooLarge said)) = Some 2
code_of (Some (Length kind)) = Some 4
code_of (Some Failed) = None

abbrev pub refused : Option ℕ → Gate → Gate
refused None g = g
refused (Some code) g = says g (header_nack_bytes code)

-- behind the frames of a piece
abbrev pub refusing : Option Bad → Gate → Gate
refusing bad g = refused (code_of bad) g

-- a reply of a unit is queued
abbrev pub queued : ℕ → ℕ → List ℕ → Gate → Gate
queued unit due body g =
    with_gateway g (enqueue g.gateway due (message_bytes unit (tester_of g.gateway) body))

-- a tick passes; `more` comes behind the alive check
abbrev pub ticking : ℕ → List ℕ → Gateway → Gateway
ticking tick more h = record h {
  tick = tick;
  ready = bytes_due tick h.later ++ (alive_bytes tick h ++ more);
  later = not_due tick h.later;
}

abbrev pub ticks : List ℕ → Gate → Gate
ticks more g = with_gateway g (ticking (g.gateway.tick + 1) more g.gateway)
