-- What bytes make of a gateway, and what a receive carries.
use Rattle.std.specs.Prelude.{◌≡◌, ℕ, ◌≤◌, Bool, false, ◌||◌, ◌==◌, List, [], ◌∷◌, ◌++◌, length, take, min, Option, None, Some}
use Rattle.doip_frame.specs.declared.frame.Frame.{Frame}
use Rattle.doip_frame.specs.declared.frame.Frame.TheVariants.{HeaderNack, Activate, Activated, AliveAsk, AliveSay, Message, Ack, Nack, Other}
use Rattle.doip_frame.specs.Deframe.{frames_in, bad_in, held_after}
use Rattle.unit_model.specs.declared.reply.Got.{Got}
use Rattle.unit_model.specs.declared.reply.Got.TheVariants.{Quiet, Bytes}
use Rattle.gateway_sim.specs.Fronts.{is_deaf, unfinished_of}
use Rattle.gateway_sim.specs.Gates.{Gate, front_of, redialed_gate}
use Rattle.gateway_sim.specs.Handling.{Sent, Nothing, Heard, Refused, Step, handled, refusing, with_gateway, ticks}

-- the address is one of a list
abbrev pub is_one : ℕ → List ℕ → Bool
is_one target [] = false
is_one target (a ∷ as') = a == target || is_one target as'

-- the unit that a message is for
abbrev pub target_of : Frame → Option ℕ
target_of (Message source target body) = Some target
target_of (Activate source kind oem) = None
target_of (HeaderNack code) = None
target_of (Activated tester entity code oem) = None
target_of AliveAsk = None
target_of (AliveSay source) = None
target_of (Ack source target code old) = None
target_of (Nack source target code old) = None
target_of (Other kind payload) = None

abbrev pub is_one_of : List ℕ → Option ℕ → Bool
is_one_of units None = false
is_one_of units (Some target) = is_one target units

-- the connection as the deframer has it
abbrev pub at_front : Option (List ℕ) → Gate → Gate
at_front held g = with_gateway g (record g.gateway { deaf = is_deaf held; unfinished = unfinished_of held })

-- the order that a frame gives
abbrev pub order_in : Sent → List (ℕ × List ℕ)
order_in Nothing = []
order_in (Heard unit body) = (unit, body) ∷ []
order_in (Refused unit code) = []

-- one frame after another, and the orders in their order
abbrev pub one_handled : Frame → Gate → Step
one_handled f g = handled f (is_one_of g.units (target_of f)) g

abbrev pub frames_handled : List Frame → Gate → Gate
frames_handled [] g = g
frames_handled (f ∷ fs) g = frames_handled fs (one_handled f g).0

abbrev pub orders_of : List Frame → Gate → List (ℕ × List ℕ)
orders_of [] g = []
orders_of (f ∷ fs) g = order_in (one_handled f g).1 ++ orders_of fs (one_handled f g).0

-- the frames that the bytes end, in order
abbrev pub ended : Gate → List ℕ → List Frame
ended g bytes = frames_in (front_of g.gateway) bytes

-- what is held of a frame behind the bytes
abbrev pub cut_off : Gate → List ℕ → Gate
cut_off g bytes = at_front (held_after (front_of g.gateway) bytes) g

-- the frames are handled, and then a refused header
pub record IsFed (bytes : List ℕ) (old new : Gate) (orders : List (ℕ × List ℕ)) : Type 0 where
  pub orders_are : orders ≡ orders_of (ended old bytes) (cut_off old bytes)
  pub becomes : new ≡ refusing (bad_in (front_of old.gateway) bytes)
      (frames_handled (ended old bytes) (cut_off old bytes))

-- the first of the frames were handled
pub record IsHandledPart (fs : List Frame) (old new : Gate) : Type 0 where
  pub count : ℕ
  pub becomes : new ≡ frames_handled (take count fs) old

-- the first of the frames were handled, and the connection is a new one
pub record IsFedPart (bytes : List ℕ) (old new : Gate) : Type 0 where
  pub count : ℕ
  pub becomes : new ≡ redialed_gate (frames_handled (take count (ended old bytes)) (cut_off old bytes))

-- 1 byte to as many as there was room for
abbrev pub IsPiece : ℕ → Got → Type 0
IsPiece room Quiet = Unit {0}
IsPiece room (Bytes n) = (1 ≤ n) × (n ≤ room)

-- as many as are due and as there was room for
abbrev pub IsFilled : ℕ → Gate → Got → Type 0
IsFilled room old Quiet = Unit {0}
IsFilled room old (Bytes n) = n ≡ min room (length old.gateway.ready)

-- `out` was filled with the next due bytes, or a tick has passed
abbrev pub Polled : List ℕ → List ℕ → Gate → Gate → Got → Type 0
Polled more out old new Quiet = (old.gateway.ready ≡ []) × (new ≡ ticks more old)
Polled more out old new (Bytes n) =
    (old.gateway.ready ≡ take n out ++ new.gateway.ready)
    × (new ≡ with_gateway old (record
    old.gateway { ready = new.gateway.ready; carried = old.gateway.carried ++ take n out }))

-- the tester received a piece that is none of the gateway's bytes
abbrev pub garbled : List ℕ → Gate → Gate
garbled piece g = with_gateway g (record g.gateway { carried = g.gateway.carried ++ piece })
