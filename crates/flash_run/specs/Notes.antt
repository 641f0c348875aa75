-- A list of events with room for more.
use Rattle.std.specs.Prelude.{ℕ, ◌+◌, ◌-◌, List, [], ◌∷◌, ◌++◌}
use Rattle.bay_core.specs.declared.event.Event.{Event}

pub record NotesState : Type 0 where
  pub events : List Event
  pub room : ℕ

abbrev pub empty_notes : ℕ → NotesState
empty_notes room = record { events = []; room = room }

abbrev pub noted : Event → NotesState → NotesState
noted e l = record { events = l.events ++ e ∷ []; room = l.room - 1 }

-- room for so many more
abbrev pub roomier : ℕ → NotesState → NotesState
roomier more l = record l { room = l.room + more }

-- room for one less
abbrev pub narrower : NotesState → NotesState
narrower l = record l { room = l.room - 1 }
