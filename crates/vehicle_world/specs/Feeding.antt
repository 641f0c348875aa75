-- What bytes make of a simulated vehicle.
use Rattle.std.specs.Prelude.{ℕ, Bool, List, [], ◌∷◌, ◌++◌, map, Option, None, Some, if◌then◌else◌}
use Rattle.uds_codec.specs.Request.{sid_of}
use Rattle.doip_frame.specs.Deframe.{bad_in}
use Rattle.doip_frame.specs.declared.frame.Frame.{Frame}
use Rattle.unit_model.specs.Feed.{DueReply, due_replies, held_answers, released, still_held}
use Rattle.unit_model.specs.declared.reply.Due.{Due}
use Rattle.unit_model.specs.declared.reply.Due.TheVariants.{At, Held}
use Rattle.unit_model.specs.declared.reply.UnitReply.{UnitReply}
use Rattle.unit_sim.specs.Sims.{Sim, heard_by, with_counts}
use Rattle.unit_sim.specs.Tallies.{nacked_by}
use Rattle.gateway_sim.specs.Feeding.{cut_off, ended, target_of}
use Rattle.gateway_sim.specs.Gates.{Gate, front_of}
use Rattle.gateway_sim.specs.Handling.{Sent, Nothing, Heard, Refused, handled, queued, refusing}
use Rattle.vehicle_world.specs.States.{State, change_at, has_heard, is_there, sim_at}

-- a state, and the replies of units that are to be queued
abbrev pub Ran : Type 0
Ran = State × List DueReply

-- An answer that waits until another unit has heard a service comes at once where that unit has heard it already.
abbrev pub met_due : List Sim → ℕ → Due → Due
met_due sims tick (At due) = At due
met_due sims tick (Held every unit sid) = if has_heard sims unit sid then At tick else Held every unit sid

abbrev pub met : List Sim → ℕ → UnitReply → UnitReply
met sims tick r = record r { due = met_due sims tick r.due }

abbrev pub all_met : List Sim → ℕ → List UnitReply → List UnitReply
all_met sims tick rs = map (met sims tick) rs

-- the unit has heard the request, and its replies were taken out
abbrev pub after : List ℕ → ℕ → Sim → Sim
after body tick s = record (heard_by s body tick) { waiting = [] }

-- The answers that wait for this request go before the unit's own replies.
abbrev pub gathered : ℕ → ℕ → ℕ → List UnitReply → State → Ran
gathered target sid tick replies s = (
  record s {
    held = still_held target sid s.held
        ++ held_answers tick target sid (all_met s.sims tick replies);
  },
  released tick target sid s.held ++ due_replies target (all_met s.sims tick replies),
)

abbrev pub hears : ℕ → List ℕ → Option Sim → State → Ran
hears target body None s = (s, [])
hears target body (Some u) s =
    gathered target (sid_of body) s.gate.gateway.tick (heard_by u body s.gate.gateway.tick).waiting
    (record s { sims = change_at target (after body s.gate.gateway.tick) s.sims })

-- one refused message more
abbrev pub nacked : ℕ → Sim → Sim
nacked code s = with_counts (nacked_by code s.unit.counts) s

-- what a frame means for a unit is done
abbrev pub does : Sent → State → Ran
does Nothing s = (s, [])
does (Refused unit code) s = (record s { sims = change_at unit (nacked code) s.sims }, [])
does (Heard unit body) s = hears unit body (sim_at unit s.sims) s

abbrev pub is_known : Frame → State → Bool
is_known f s = is_there s.sims (target_of f)

-- one frame
abbrev pub frame_done : Frame → State → Ran
frame_done f s = does (handled f (is_known f s) s.gate).1
    (record s { gate = (handled f (is_known f s) s.gate).0 })

-- one frame after another, with the replies in the order in which they came to be
abbrev pub frames_done : List Frame → State → Ran
frames_done [] s = (s, [])
frames_done (f ∷ fs) s = (
  (frames_done fs (frame_done f s).0).0,
  (frame_done f s).1 ++ (frames_done fs (frame_done f s).0).1,
)

abbrev pub all_queued : List DueReply → Gate → Gate
all_queued [] g = g
all_queued (w ∷ ws) g = all_queued ws (queued w.unit w.due w.body g)

-- the frames that the bytes end are handled
abbrev pub ran : List ℕ → State → Ran
ran bytes s = frames_done (ended s.gate bytes) (record s { gate = cut_off s.gate bytes })

-- behind them a refused header is answered, and the replies are queued
abbrev pub state_fed : List ℕ → State → State
state_fed bytes s = record (ran bytes s).0 {
  gate = all_queued (ran bytes s).1
      (refusing (bad_in (front_of s.gate.gateway) bytes) (ran bytes s).0.gate);
}
