-- What the state of a link shows of the link's definition.
use Rattle.std.specs.Prelude.{◌≡◌, ◌⊎◌, ℕ, ◌+◌, ◌<◌, ◌==◌, ◌&&◌, Bool, true, false, if◌then◌else◌, List, [], length, slice_index, Option, Some, None}
use Rattle.run_model.specs.Link as phase
use Rattle.run_model.specs.Link.{Link, is_live, is_open, is_asked, drop_link}
use Rattle.run_model.specs.Ways.{UnitMessage, messages_from}
use Rattle.link_state.specs.Inboxes.{message_of, messages_all, queue_at}
use Rattle.link_state.specs.declared.inbox.Message.{Message}
use Rattle.link_state.specs.declared.state.LinkState.{LinkState}
use Rattle.link_state.specs.declared.state.Standing.{Standing}
use Rattle.link_state.specs.declared.state.Phase.{Phase}
use Rattle.link_state.specs.declared.state.Phase.TheVariants.{Down, Dialed, Asked, Up, Refused}

abbrev pub link_phase : Phase → phase.Phase
link_phase Down = phase.Down
link_phase Dialed = phase.Dialed
link_phase Asked = phase.Asked
link_phase Up = phase.Up
link_phase (Refused code) = phase.Refused code

-- no two places have one address
abbrev pub AreDistinct : List ℕ → Type 0
AreDistinct units = (m n : ℕ) → m < length units → n < length units
    → slice_index units m ≡ slice_index units n → m ≡ n

abbrev pub tester_of : LinkState → ℕ
tester_of s = s.tester

abbrev pub units_of : LinkState → List ℕ
units_of s = s.units.items

abbrev pub loss_count : LinkState → ℕ
loss_count s = s.losses

abbrev pub tick_count : LinkState → ℕ
tick_count s = s.ticks

-- where it stands
abbrev pub phase_now : LinkState → phase.Phase
phase_now s = link_phase s.phase

abbrev pub owes_now : LinkState → Bool
owes_now s = s.owes

-- frames are looked at
abbrev pub is_open_now : LinkState → Bool
is_open_now s = is_open (link_phase s.phase)

-- it is the link of this tester to these units
pub record IsOf (tester : ℕ) (units : List ℕ) (s : LinkState) : Type 0 where
  pub tester_is : tester_of s ≡ tester
  pub units_are : units_of s ≡ units

pub record SameLabels (old new : LinkState) : Type 0 where
  pub tester_same : tester_of new ≡ tester_of old
  pub units_same : units_of new ≡ units_of old

abbrev pub SameDeframer : LinkState → LinkState → Type 0
SameDeframer old new = new.deframer ≡ old.deframer

-- bytes that are no frame
abbrev pub see_bad : Bool → Link → Link
see_bad bad l = if bad && is_open l.phase then drop_link l else l

-- but for phase, owed answer and inboxes nothing changes
pub record SameRest (old new : LinkState) : Type 0 where
  pub labels : SameLabels old new
  pub deframer : new.deframer ≡ old.deframer
  pub losses : loss_count new ≡ loss_count old

-- the connection is lost, and the rest stays
pub record IsDropped (old new : LinkState) : Type 0 where
  pub labels : SameLabels old new
  pub deframer : new.deframer ≡ old.deframer
  pub losses : loss_count new ≡ loss_count old + 1
  pub shut : is_open_now new ≡ false

-- at most one loss, and then the connection is not open
pub record SameButLoss (old new : LinkState) : Type 0 where
  pub labels : SameLabels old new
  pub deframer : new.deframer ≡ old.deframer
  pub losses : (loss_count new ≡ loss_count old)
      ⊎ ((loss_count new ≡ loss_count old + 1) × (is_open_now new ≡ false))

-- the first answer to an activation
abbrev pub see_answer : ℕ → Link → Link
see_answer code l =
    if is_asked l.phase then record l { phase = if code == 16 then phase.Up else phase.Refused code } else l

-- phase, counts and inboxes
pub record ShowsBody (s : LinkState) (l : Link) : Type 0 where
  pub phase : link_phase s.phase ≡ l.phase
  pub ticks : s.ticks ≡ l.ticks
  pub asked : s.asked ≡ l.asked
  pub losses : s.losses ≡ l.losses
  pub owes : s.owes ≡ l.owes
  pub distinct : AreDistinct s.units.items
  pub inbox : (n : ℕ) → n < length s.units.items
      → messages_all (queue_at s.inboxes.items n) ≡ messages_from (slice_index s.units.items n) l.inbox

-- and while the connection lives, the bytes behind the last whole frame
pub record Shows (s : LinkState) (l : Link) : Type 0 where
  pub body : ShowsBody s l
  pub rest : is_live l.phase ≡ true → s.deframer ≡ Some l.rest

-- ------ a receive for which there was no memory
-- nothing that came is kept, and the rest stays
abbrev pub emptied_link : Link → Link
emptied_link l = record l { rest = []; inbox = [] }

-- phase and counts of a state
pub record IsStandingOf (s : LinkState) (before : Standing) : Type 0 where
  pub phase : before.phase ≡ s.phase
  pub ticks : before.ticks ≡ s.ticks
  pub asked : before.asked ≡ s.asked
  pub losses : before.losses ≡ s.losses
  pub owes : before.owes ≡ s.owes

-- phase and counts are those again, no message and no byte is kept
pub record HasGoneBack (before : Standing) (old new : LinkState) : Type 0 where
  pub phase : new.phase ≡ before.phase
  pub ticks : new.ticks ≡ before.ticks
  pub asked : new.asked ≡ before.asked
  pub losses : new.losses ≡ before.losses
  pub owes : new.owes ≡ before.owes
  pub tester : new.tester ≡ old.tester
  pub units : new.units.items ≡ old.units.items
  pub deframer : new.deframer ≡ Some []
  pub inbox : (n : ℕ) → queue_at new.inboxes.items n ≡ []

abbrev pub option_message : Option Message → Option UnitMessage
option_message None = None
option_message (Some m) = Some (message_of m)
