-- Replies that are queued one after another.
use Rattle.std.proofs.Common.{◌≡◌, ℕ, ◌+◌, ◌<◌, List, length, drop, map, get_or, sym, ◌∙◌, ap}
use Rattle.unit_model.specs.Feed.{DueReply}
use Rattle.gateway_sim.specs.Gates.{Gate, redialed_gate}
use Rattle.gateway_sim.specs.Handling.{queued}
use Rattle.vehicle_world.specs.Feeding.{all_queued}
use Rattle.vehicle_world.specs.States.{reply_of}
use Rattle.vehicle_world.specs.declared.outgoing.Outgoing.{Outgoing}
use Rattle.vehicle_world.proofs.Kept.{gate_cleared}
use Rattle.vehicle_world.proofs.Lists.{mapped_next}

pub queue_on : (out : List Outgoing) (i : ℕ) (o : Outgoing) (body : List ℕ) (g h whole : Gate) → i < length out → o ≡ get_or out i o → body ≡ o.body → all_queued (map reply_of (drop i out)) g ≡ whole → h ≡ queued o.unit o.due body g → all_queued (map reply_of (drop (i + 1) out)) h ≡ whole
queue_on out i o body g h whole lt o_is body_is so is =
    ap (all_queued (map reply_of (drop (i + 1) out))) (is ∙ ap (λ (b : List ℕ). queued o.unit o.due b g) body_is)
    ∙ ap (λ (ws : List DueReply). all_queued ws g) (sym (mapped_next reply_of out i o lt o_is))
    ∙ so

pub cleared_on : (unit due : ℕ) (body : List ℕ) (g h first : Gate) → redialed_gate g ≡ redialed_gate first → h ≡ queued unit due body g → redialed_gate h ≡ redialed_gate first
cleared_on unit due body g h first so is = ap redialed_gate is ∙ gate_cleared unit due body g ∙ so
