-- The link: what the bytes of one connection after another give (ISO 13400-2:2019, sections 7 and 9).
use Rattle.std.specs.Prelude.{ℕ, ◌+◌, Bool, true, false, ◌&&◌, ◌||◌, ◌==◌, nat_le, List, [], ◌∷◌, ◌++◌, Option, Some, None, if◌then◌else◌}
use Rattle.doip_frame.specs.Frame.{Stream, stream_of}
use Rattle.doip_frame.specs.declared.frame.Bad.{Bad}
use Rattle.doip_frame.specs.declared.frame.Frame.{Frame}
use Rattle.doip_frame.specs.declared.frame.Frame.TheVariants.{HeaderNack, Activate, Activated, AliveAsk, AliveSay, Message, Ack, Nack, Other}
use Rattle.run_model.specs.Ways.{UnitMessage, Reply, Nacked}

-- no connection; connected; the activation was asked for; it was accepted; it was denied with this code
pub data Phase : Type 0 where
  Down : Phase
  Dialed : Phase
  Asked : Phase
  Up : Phase
  Refused : ℕ → Phase

-- ticks: the Quiet polls of the whole run. asked: the tick of the last activation request. losses: those of the whole run.
-- got: the bytes since the last dial. rest: those of them behind the last whole frame. inbox: messages with the unit that
-- they come from. owes: an alive check is to be answered.
pub record Link : Type 0 where
  pub phase : Phase
  pub ticks : ℕ
  pub asked : ℕ
  pub losses : ℕ
  pub got : List ℕ
  pub rest : List ℕ
  pub inbox : List (ℕ × UnitMessage)
  pub owes : Bool

abbrev pub link_start : Link
link_start = record {
  phase = Down;
  ticks = 0;
  asked = 0;
  losses = 0;
  got = [];
  rest = [];
  inbox = [];
  owes = false;
}

abbrev pub is_down : Phase → Bool
is_down Down = true
is_down p = false

abbrev pub is_dialed : Phase → Bool
is_dialed Dialed = true
is_dialed p = false

abbrev pub is_asked : Phase → Bool
is_asked Asked = true
is_asked p = false

abbrev pub is_up : Phase → Bool
is_up Up = true
is_up p = false

-- connected, and the activation was not denied
abbrev pub is_live : Phase → Bool
is_live Down = false
is_live (Refused code) = false
is_live p = true

-- frames are looked at
abbrev pub is_open : Phase → Bool
is_open p = is_asked p || is_up p

abbrev pub drop_link : Link → Link
drop_link l = record l { phase = Down; losses = l.losses + 1 }

-- the address is that of a unit of the plan
abbrev pub is_known : List ℕ → ℕ → Bool
is_known [] a = false
is_known (x ∷ xs) a = x == a || is_known xs a

abbrev pub keep_message : Bool → ℕ → UnitMessage → Link → Link
keep_message ours source word l = if ours then record l { inbox = l.inbox ++ ((source, word) ∷ []) } else l

-- A header that was refused is a loss. Only the first answer to an activation counts. A message for another tester, or from
-- an address of no unit, is dropped.
abbrev pub see_frame : ℕ → List ℕ → Frame → Link → Link
see_frame tester units (HeaderNack code) l = drop_link l
see_frame tester units (Activated t entity code oem) l =
    if is_asked l.phase then record l { phase = if code == 16 then Up else Refused code } else l
see_frame tester units AliveAsk l = record l { owes = true }
see_frame tester units (Message source target body) l =
    keep_message (target == tester && is_known units source) source (Reply body) l
see_frame tester units (Nack source target code old) l =
    keep_message (target == tester && is_known units source) source (Nacked code) l
see_frame tester units (Activate source kind oem) l = l
see_frame tester units (AliveSay source) l = l
see_frame tester units (Ack source target code old) l = l
see_frame tester units (Other kind payload) l = l

-- nothing behind a loss or a denied activation is looked at
abbrev pub see : ℕ → List ℕ → Frame → Link → Link
see tester units f l = if is_open l.phase then see_frame tester units f l else l

abbrev pub see_all : ℕ → List ℕ → List Frame → Link → Link
see_all tester units [] l = l
see_all tester units (f ∷ fs) l = see_all tester units fs (see tester units f l)

abbrev pub see_end : Option Bad → Link → Link
see_end None l = l
see_end (Some bad) l = if is_open l.phase then drop_link l else l

abbrev pub see_stream : ℕ → List ℕ → Stream → List ℕ → Link → Link
see_stream tester units s piece l =
    see_end s.bad (see_all tester units s.frames (record l { got = l.got ++ piece; rest = s.rest }))

-- a receive that brought bytes
abbrev pub hear_piece : ℕ → List ℕ → List ℕ → Link → Link
hear_piece tester units piece l = see_stream tester units (stream_of (l.rest ++ piece)) piece l

abbrev pub quiet_link : Link → Link
quiet_link l = record l { ticks = l.ticks + 1 }

abbrev pub unanswered : Link → Bool
unanswered l = is_asked l.phase && nat_le (l.asked + 1000) l.ticks

-- a receive that brought none
abbrev pub polled_quiet : Link → Link
polled_quiet l = if unanswered (quiet_link l) then drop_link (quiet_link l) else quiet_link l

-- a new connection was asked for; nothing of the old one stays
abbrev pub new_link : Link → Link
new_link l = record l { phase = Dialed; got = []; rest = []; inbox = []; owes = false }

abbrev pub lost_or : Bool → Link → Link
lost_or lost l = if lost then drop_link l else l

abbrev pub dialed_link : Bool → Link → Link
dialed_link lost l = lost_or lost (new_link l)

abbrev pub asked_link : Bool → Link → Link
asked_link lost l = lost_or lost (record l { phase = Asked; asked = l.ticks })

abbrev pub said_link : Bool → Link → Link
said_link lost l = lost_or lost (record l { owes = false })

-- the oldest message of a unit
abbrev pub first_message : ℕ → List (ℕ × UnitMessage) → Option UnitMessage
first_message a [] = None
first_message a (m ∷ ms) = if m.0 == a then Some m.1 else first_message a ms

abbrev pub without_first : ℕ → List (ℕ × UnitMessage) → List (ℕ × UnitMessage)
without_first a [] = []
without_first a (m ∷ ms) = if m.0 == a then ms else m ∷ without_first a ms

abbrev pub take_message : ℕ → Link → Link
take_message a l = record l { inbox = without_first a l.inbox }
