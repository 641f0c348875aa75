-- Inboxes, one for each unit.
use Rattle.std.specs.Prelude.{◌≡◌, ℕ, ◌<◌, true, false, List, [], ◌∷◌, length, slice_index, slice_index_or, Option, Some, None}
use Rattle.run_model.specs.Link.{is_known}
use Rattle.run_model.specs.Ways.{UnitMessage, Reply, Nacked}
use Rattle.link_state.specs.declared.inbox.Message.{Message}
use Rattle.link_state.specs.declared.inbox.Message.TheVariants as message

abbrev pub message_of : Message → UnitMessage
message_of (message.Reply body) = Reply body
message_of (message.Nack code) = Nacked code

abbrev pub messages_all : List Message → List UnitMessage
messages_all [] = []
messages_all (m ∷ ms) = message_of m ∷ messages_all ms

-- the oldest message
abbrev pub first_of : List Message → Option Message
first_of [] = None
first_of (m ∷ ms) = Some m

-- the messages of the unit with a number
abbrev pub queue_at : List (List Message) → ℕ → List Message
queue_at inboxes n = slice_index_or inboxes n []

-- the unit at this place has the address
pub record IsPlace (units : List ℕ) (address n : ℕ) : Type 0 where
  pub within : n < length units
  pub is : slice_index units n ≡ address
  pub known : is_known units address ≡ true

abbrev pub IsPlaceOf : List ℕ → ℕ → Option ℕ → Type 0
IsPlaceOf units address None = is_known units address ≡ false
IsPlaceOf units address (Some n) = IsPlace units address n
