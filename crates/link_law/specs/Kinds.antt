-- What an event is for the link.
use Rattle.std.specs.Prelude.{ℕ, Bool, true, false, List, [], ◌∷◌, ◌++◌, Option, Some, None}
use Rattle.bay_core.specs.declared.event.Heard.{Heard}
use Rattle.bay_core.specs.declared.event.Heard.TheVariants.{Kept, Quiet, Piece, Lost}
use Rattle.bay_core.specs.declared.event.Tend.{Tend}
use Rattle.bay_core.specs.declared.event.Tend.TheVariants.{Dialed, Asked, Said, Polled}
use Rattle.bay_core.specs.declared.event.Event.{Event}
use Rattle.bay_core.specs.declared.event.Event.TheVariants.{Claimed, Began, Sent, Collected, Tended, Marked, Completed, DiskFailed, Ended}

-- ------ the bytes that it received
abbrev pub heard_bytes : Heard → List ℕ
heard_bytes Kept = []
heard_bytes Quiet = []
heard_bytes (Piece bytes) = bytes
heard_bytes Lost = []

abbrev pub tended_bytes : Tend → List ℕ
tended_bytes (Dialed lost) = []
tended_bytes (Asked lost) = []
tended_bytes (Said lost) = []
tended_bytes (Polled heard) = heard_bytes heard

abbrev pub event_bytes : Event → List ℕ
event_bytes (Claimed u) = []
event_bytes (Began u) = []
event_bytes (Sent u place lost) = []
event_bytes (Collected u heard) = heard_bytes heard
event_bytes (Tended step) = tended_bytes step
event_bytes (Marked u s) = []
event_bytes (Completed u) = []
event_bytes (DiskFailed u entry) = []
event_bytes (Ended u why) = []

-- the bytes of pieces, one piece after another
abbrev pub bytes_in : List Event → List ℕ
bytes_in [] = []
bytes_in (e ∷ es) = event_bytes e ++ bytes_in es

-- ------ its kind
-- a new connection was asked for
abbrev pub is_dial : Event → Bool
is_dial (Tended (Dialed lost)) = true
is_dial e = false

-- the activation was asked for
abbrev pub is_ask : Event → Bool
is_ask (Tended (Asked lost)) = true
is_ask e = false

-- an alive check was answered
abbrev pub is_say : Event → Bool
is_say (Tended (Said lost)) = true
is_say e = false

-- a receive at which no byte was due
abbrev pub is_quiet : Event → Bool
is_quiet (Collected u Quiet) = true
is_quiet (Tended (Polled Quiet)) = true
is_quiet e = false

-- one for the answer to the activation
abbrev pub is_quiet_wait : Event → Bool
is_quiet_wait (Tended (Polled Quiet)) = true
is_quiet_wait e = false

-- a call to the link that failed
abbrev pub is_failed_call : Event → Bool
is_failed_call (Sent u place lost) = lost
is_failed_call (Collected u Lost) = true
is_failed_call (Tended (Dialed lost)) = lost
is_failed_call (Tended (Asked lost)) = lost
is_failed_call (Tended (Said lost)) = lost
is_failed_call (Tended (Polled Lost)) = true
is_failed_call e = false

-- of a dial, whether it failed
abbrev pub dial_of : Event → Option Bool
dial_of (Tended (Dialed lost)) = Some lost
dial_of e = None
