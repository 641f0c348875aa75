-- Answers that are held, tick by tick.
use Rattle.std.specs.Prelude.{ℕ, ◌+◌, ◌-◌, ◌<◌, ◌^◌, ◌==◌, ◌&&◌, Bool, nat_le, List, [], ◌∷◌, if◌then◌else◌}
use Rattle.unit_model.specs.Poll.{is_turn}
use Rattle.unit_model.specs.Vehicle.{HeldAnswer}
use Rattle.vehicle_world.specs.declared.held.Held.{Held}

-- behind a tick
abbrev pub held_once : ℕ → HeldAnswer → HeldAnswer
held_once tick h = if is_turn tick h then record h { pending = h.pending + 1 } else h

-- one turn more can be counted of each
abbrev pub AllBelow : List Held → Type 0
AllBelow [] = Unit {0}
AllBelow (h ∷ hs) = (h.pending < 2 ^ 64 - 1) × AllBelow hs

-- more than 200 responses pending stall, and 1,000 ticks are late
abbrev pub stalls : ℕ → HeldAnswer → Bool
stalls tick h = is_turn tick h && h.pending == 200

abbrev pub is_late : ℕ → HeldAnswer → Bool
is_late tick h = nat_le 1000 h.every && tick == h.from + 1000
