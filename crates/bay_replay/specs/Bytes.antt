-- The events that carry bytes: a receive that brought some.
use Rattle.std.specs.Prelude.{Bool, true, false}
use Rattle.bay_core.specs.declared.event.Heard.{Heard}
use Rattle.bay_core.specs.declared.event.Heard.TheVariants.{Kept, Quiet, Piece, Lost}
use Rattle.bay_core.specs.declared.event.Tend.{Tend}
use Rattle.bay_core.specs.declared.event.Tend.TheVariants.{Dialed, Asked, Said, Polled}
use Rattle.bay_core.specs.declared.event.Event.{Event}
use Rattle.bay_core.specs.declared.event.Event.TheVariants.{Claimed, Began, Sent, Collected, Tended, Marked, Completed, DiskFailed, Ended}

abbrev pub brings_bytes : Heard → Bool
brings_bytes Kept = false
brings_bytes Quiet = false
brings_bytes (Piece bytes) = true
brings_bytes Lost = false

abbrev pub tends_bytes : Tend → Bool
tends_bytes (Dialed lost) = false
tends_bytes (Asked lost) = false
tends_bytes (Said lost) = false
tends_bytes (Polled heard) = brings_bytes heard

abbrev pub has_bytes : Event → Bool
has_bytes (Claimed u) = false
has_bytes (Began u) = false
has_bytes (Sent u place lost) = false
has_bytes (Collected u heard) = brings_bytes heard
has_bytes (Tended step) = tends_bytes step
has_bytes (Marked u s) = false
has_bytes (Completed u) = false
has_bytes (DiskFailed u entry) = false
has_bytes (Ended u why) = false
