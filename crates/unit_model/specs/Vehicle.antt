-- The vehicle: one gateway (ISO 13400-2:2019) and its units.
use Rattle.std.specs.Prelude.{ℕ, Bool, false, ◌==◌, List, [], ◌∷◌, Option, Some, None, if◌then◌else◌}
use Rattle.flash_base.specs.ByteMaps.{byte_at}
use Rattle.unit_model.specs.Unit.{ControlUnit}

-- An answer of `unit` to service `sid` that waits until unit `watch` hears service `service`. `from` is the tick of the
-- request, `every` the ticks between responses pending, `pending` how many of these were queued.
pub record HeldAnswer : Type 0 where
  pub unit : ℕ
  pub sid : ℕ
  pub body : List ℕ
  pub every : ℕ
  pub watch : ℕ
  pub service : ℕ
  pub from : ℕ
  pub pending : ℕ

-- active: the tester of the activation request last accepted. deaf: a header was refused, and nothing more of
-- this connection is looked at. unfinished: bytes of a frame that is not whole. ready: the bytes due that were not
-- carried yet. later: frames with the ticks at which they are due, in queued order. carried: what the tester
-- received on this connection. alive: the ticks at which an alive check is sent. denied: activations refused, by code.
-- silent: activations not answered in time.
pub record Gateway : Type 0 where
  pub entity : ℕ
  pub active : Option ℕ
  pub deaf : Bool
  pub unfinished : List ℕ
  pub ready : List ℕ
  pub later : List (ℕ × List ℕ)
  pub held : List HeldAnswer
  pub carried : List ℕ
  pub tick : ℕ
  pub alive : List ℕ
  pub denied : ℕ → ℕ
  pub silent : ℕ

pub record Vehicle : Type 0 where
  pub gateway : Gateway
  pub units : List ControlUnit

abbrev pub unit_at : List ControlUnit → ℕ → Option ControlUnit
unit_at [] address = None
unit_at (u ∷ us) address = if u.address == address then Some u else unit_at us address

abbrev pub byte_in : Option ControlUnit → ℕ → Option ℕ
byte_in None x = None
byte_in (Some u) x = byte_at u.memory x

abbrev pub memory_of : Vehicle → ℕ → ℕ → Option ℕ
memory_of v address x = byte_in (unit_at v.units address) x

abbrev pub heard_in : Option ControlUnit → ℕ
heard_in None = 0
heard_in (Some u) = u.heard

abbrev pub heard_of : Vehicle → ℕ → ℕ
heard_of v address = heard_in (unit_at v.units address)

-- a new connection
abbrev pub redialed : Vehicle → Vehicle
redialed v = record v {
  gateway =
      record v.gateway {
        active = None;
        deaf = false;
        unfinished = [];
        ready = [];
        later = [];
        held = [];
        carried = [];
      };
}
