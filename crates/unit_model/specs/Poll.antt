-- What a receive carries, and what a tick does. A tick is a receive at which no byte was due; there is no other clock.
use Rattle.std.specs.Prelude.{◌≡◌, ◌⊎◌, ℕ, ◌+◌, ◌-◌, ◌%◌, Bool, false, not, ◌&&◌, ◌||◌, ◌==◌, nat_le, List, [], ◌∷◌, ◌++◌, map, filter, None, is_some, if◌then◌else◌, IsTrue}
use Rattle.flash_base.specs.Lists.{BeginsWith, IsSomeOf}
use Rattle.doip_frame.specs.Frame.{stream_of, message_bytes, alive_ask_bytes}
use Rattle.unit_model.specs.Unit.{ControlUnit}
use Rattle.unit_model.specs.Step.{raise_if, pending_bytes}
use Rattle.unit_model.specs.Vehicle.{HeldAnswer, Gateway, Vehicle}
use Rattle.unit_model.specs.Feed.{tester_of}

abbrev pub bytes_due : ℕ → List (ℕ × List ℕ) → List ℕ
bytes_due tick [] = []
bytes_due tick (q ∷ qs) = (if nat_le q.0 tick then q.1 else []) ++ bytes_due tick qs

abbrev pub not_due : ℕ → List (ℕ × List ℕ) → List (ℕ × List ℕ)
not_due tick queue = filter (λ q. not (nat_le q.0 tick)) queue

abbrev pub has_tick : ℕ → List ℕ → Bool
has_tick tick [] = false
has_tick tick (t ∷ ts) = t == tick || has_tick tick ts

abbrev pub alive_bytes : ℕ → Gateway → List ℕ
alive_bytes tick g = if is_some g.active && has_tick tick g.alive then alive_ask_bytes else []

-- a held answer's turn to say that it is pending
abbrev pub is_turn : ℕ → HeldAnswer → Bool
is_turn tick h = (tick - h.from) % h.every == 0

abbrev pub pending_of : ℕ → ℕ → List HeldAnswer → List ℕ
pending_of tick tester [] = []
pending_of tick tester (h ∷ hs) =
    (if is_turn tick h then message_bytes h.unit tester (pending_bytes h.sid) else [])
    ++ pending_of tick tester hs

abbrev pub held_on : ℕ → List HeldAnswer → List HeldAnswer
held_on tick held = map (λ h. if is_turn tick h then record h { pending = h.pending + 1 } else h) held

abbrev pub raises : ℕ → HeldAnswer → ControlUnit → ControlUnit
raises tick h u = if u.address == h.unit then record u {
  counts = record u.counts {
    stalled = raise_if (is_turn tick h && h.pending == 200) u.counts.stalled;
    late = raise_if (nat_le 1000 h.every && tick == h.from + 1000) u.counts.late;
  };
} else u

abbrev pub raised_by : ℕ → List HeldAnswer → List ControlUnit → List ControlUnit
raised_by tick [] us = us
raised_by tick (h ∷ hs) us = raised_by tick hs (map (raises tick h) us)

abbrev pub ticked_gateway : ℕ → Gateway → Gateway
ticked_gateway tick g = record g {
  tick = tick;
  ready = bytes_due tick g.later ++ (alive_bytes tick g ++ pending_of tick (tester_of g) g.held);
  later = not_due tick g.later;
  held = held_on tick g.held;
}

abbrev pub ticked : Vehicle → Vehicle
ticked v = record {
  gateway = ticked_gateway (v.gateway.tick + 1) v.gateway;
  units = raised_by (v.gateway.tick + 1) v.gateway.held v.units;
}

-- a Quiet receive
pub record Ticks (old new : Vehicle) : Type 0 where
  pub none : old.gateway.ready ≡ []
  pub becomes : new ≡ ticked old

-- a receive that carried this piece; of a garbled one no more is known
pub record Carries (piece : List ℕ) (old new : Vehicle) : Type 0 where
  pub becomes : new ≡ record old {
    gateway =
        record old.gateway { ready = new.gateway.ready; carried = old.gateway.carried ++ piece };
  }

-- the piece is the next due bytes, or is seen to be no DoIP
pub record IsPlain (piece : List ℕ) (old new : Vehicle) : Type 0 where
  pub ready : old.gateway.ready ≡ piece ++ new.gateway.ready

pub record IsSeen (piece : List ℕ) (old new : Vehicle) : Type 0 where
  pub was_good : (stream_of old.gateway.carried).bad ≡ None
  pub is_bad : IsTrue (is_some (stream_of new.gateway.carried).bad)
  pub frames : BeginsWith (stream_of new.gateway.carried).frames
      (stream_of (old.gateway.carried ++ old.gateway.ready)).frames

pub record IsShown (piece : List ℕ) (old new : Vehicle) : Type 0 where
  pub carries : Carries piece old new
  pub how : IsPlain piece old new ⊎ IsSeen piece old new

-- a receive that failed: due bytes may be gone, and what stays is some of them in their order
pub record Misses (old new : Vehicle) : Type 0 where
  pub becomes : new ≡ record old { gateway = record old.gateway { ready = new.gateway.ready } }
  pub some : IsSomeOf new.gateway.ready old.gateway.ready
