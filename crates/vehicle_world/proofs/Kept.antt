-- What handling a frame keeps of a gateway.
use Rattle.std.proofs.Common.{◌≡◌, ℕ, Bool, true, false, List, [], ◌∷◌, Some, None, Option, refl, sym, ◌∙◌, ap, subst}
use Rattle.std.specs.Prelude.{nat_le}
use Rattle.std.proofs.Common.{inl, inr}
use Rattle.std.proofs.lemmas.Bool.{cases_Bool}
use Rattle.doip_frame.specs.Frame.{message_bytes}
use Rattle.doip_frame.specs.declared.frame.Bad.{Bad}
use Rattle.doip_frame.specs.declared.frame.Bad.TheVariants.{Pattern, Length, TooLarge, Failed}
use Rattle.doip_frame.specs.declared.frame.Frame.{Frame}
use Rattle.doip_frame.specs.declared.frame.Frame.TheVariants.{HeaderNack, Activate, Activated, AliveAsk, AliveSay, Message, Ack, Nack, Other}
use Rattle.unit_model.specs.Feed.{Activation, Accepts, Denies, Delays, Ignores, DueReply, enqueue, queue_due, tester_of}
use Rattle.unit_model.specs.Vehicle.{Gateway, HeldAnswer, Vehicle, redialed}
use Rattle.unit_sim.specs.Sims.{Sim}
use Rattle.gateway_sim.specs.Acting.{nack_for}
use Rattle.gateway_sim.specs.Gates.{Gate, redialed_gate}
use Rattle.gateway_sim.specs.Handling.{Sent, Nothing, Heard, Refused, handled, delivers, comes, queued, refusing}
use Rattle.vehicle_world.proofs.Activating.{Acts, acted, acts}
use Rattle.vehicle_world.specs.Feeding.{all_queued, does, frame_done, frames_done, hears, is_known}
use Rattle.vehicle_world.specs.States.{State, forgotten, sim_at}

-- the beginning of a frame, and the tick
pub record Keeps (old new : Gateway) : Type 0 where
  pub deaf : new.deaf ≡ old.deaf
  pub unfinished : new.unfinished ≡ old.unfinished
  pub tick : new.tick ≡ old.tick

keeps_then : (a b c : Gateway) → Keeps a b → Keeps b c → Keeps a c
keeps_then a b c x y = record { deaf = y.deaf ∙ x.deaf; unfinished = y.unfinished ∙ x.unfinished; tick = y.tick ∙ x.tick }

act_keeps : (a : Activation) (source : ℕ) (h : Gateway) → Keeps h (acted a source h)
act_keeps Accepts source h = record { deaf = refl; unfinished = refl; tick = refl }
act_keeps (Denies code) source h = record { deaf = refl; unfinished = refl; tick = refl }
act_keeps (Delays ticks) source h = record { deaf = refl; unfinished = refl; tick = refl }
act_keeps Ignores source h = record { deaf = refl; unfinished = refl; tick = refl }

acts_keep : (source : ℕ) (old new : Gateway) → Acts source old new → Keeps old new
acts_keep source old new a = subst (Keeps old) (sym a.becomes) (act_keeps a.act source old)

came : (source target : ℕ) (body : List ℕ) (code : Option ℕ) (g : Gate) → Keeps g.gateway (comes source target body code g).0.gateway
came source target body None g = record { deaf = refl; unfinished = refl; tick = refl }
came source target body (Some code) g = record { deaf = refl; unfinished = refl; tick = refl }

delivered : (source target : ℕ) (body : List ℕ) (known : Bool) (active : Option ℕ) (g : Gate) → Keeps g.gateway (delivers source target body known active g).0.gateway
delivered source target body known None g = record { deaf = refl; unfinished = refl; tick = refl }
delivered source target body true (Some tester) g = came source target body (nack_for target g.troubles) g
delivered source target body false (Some tester) g = record { deaf = refl; unfinished = refl; tick = refl }

pub handled_keeps : (f : Frame) (known : Bool) (g : Gate) → Keeps g.gateway (handled f known g).0.gateway
handled_keeps (Activate source kind oem) known g = acts_keep source g.gateway _ (acts source g.gateway g.troubles)
handled_keeps (Message source target body) known g = delivered source target body known g.gateway.active g
handled_keeps (HeaderNack code) known g = record { deaf = refl; unfinished = refl; tick = refl }
handled_keeps (Activated tester entity code oem) known g = record { deaf = refl; unfinished = refl; tick = refl }
handled_keeps AliveAsk known g = record { deaf = refl; unfinished = refl; tick = refl }
handled_keeps (AliveSay source) known g = record { deaf = refl; unfinished = refl; tick = refl }
handled_keeps (Ack source target code old) known g = record { deaf = refl; unfinished = refl; tick = refl }
handled_keeps (Nack source target code old) known g = record { deaf = refl; unfinished = refl; tick = refl }
handled_keeps (Other kind payload) known g = record { deaf = refl; unfinished = refl; tick = refl }

-- what a frame means for a unit does not change the gateway
heard_gate : (unit : ℕ) (body : List ℕ) (o : Option Sim) (s : State) → (hears unit body o s).0.gate ≡ s.gate
heard_gate unit body None s = refl
heard_gate unit body (Some u) s = refl

done_gate : (sent : Sent) (s : State) → (does sent s).0.gate ≡ s.gate
done_gate Nothing s = refl
done_gate (Refused unit code) s = refl
done_gate (Heard unit body) s = heard_gate unit body (sim_at unit s.sims) s

gates_keep : (old : Gateway) (g h : Gate) → h ≡ g → Keeps old g.gateway → Keeps old h.gateway
gates_keep old g h is k = record {
  deaf = ap (λ (x : Gate). x.gateway.deaf) is ∙ k.deaf;
  unfinished = ap (λ (x : Gate). x.gateway.unfinished) is ∙ k.unfinished;
  tick = ap (λ (x : Gate). x.gateway.tick) is ∙ k.tick;
}

pub frame_keeps : (f : Frame) (s : State) → Keeps s.gate.gateway (frame_done f s).0.gate.gateway
frame_keeps f s =
    gates_keep s.gate.gateway (handled f (is_known f s) s.gate).0 (frame_done f s).0.gate
    (done_gate (handled f (is_known f s) s.gate).1 (record s { gate = (handled f (is_known f s) s.gate).0 }))
    (handled_keeps f (is_known f s) s.gate)

pub frames_keep : (fs : List Frame) (s : State) → Keeps s.gate.gateway (frames_done fs s).0.gate.gateway
frames_keep [] s = record { deaf = refl; unfinished = refl; tick = refl }
frames_keep (f ∷ fs) s = keeps_then _ _ _ (frame_keeps f s) (frames_keep fs (frame_done f s).0)

-- ------ queued replies
abbrev pub with_held : List HeldAnswer → Gateway → Gateway
with_held held h = record h { held = held }

one_queued : (held : List HeldAnswer) (h : Gateway) (due : ℕ) (frame : List ℕ) → with_held held (enqueue h due frame) ≡ enqueue (with_held held h) due frame
one_queued held h due frame = elim (cases_Bool (nat_le due h.tick)) [ inl e ↦ rw e refl | inr e ↦ rw e refl ]

pub queued_held : (held : List HeldAnswer) (ws : List DueReply) (g : Gate) → with_held held (all_queued ws g).gateway ≡ queue_due (with_held held g.gateway) ws
queued_held held [] g = refl
queued_held held (w ∷ ws) g =
    queued_held held ws (queued w.unit w.due w.body g)
    ∙ ap (λ (h : Gateway). queue_due h ws) (one_queued held g.gateway w.due (message_bytes w.unit (tester_of g.gateway) w.body))

-- a new connection forgets them
abbrev pub cleared : Gateway → Gateway
cleared h = record h { active = None; deaf = false; unfinished = []; ready = []; later = []; held = []; carried = [] }

one_cleared : (h : Gateway) (due : ℕ) (frame : List ℕ) → cleared (enqueue h due frame) ≡ cleared h
one_cleared h due frame = elim (cases_Bool (nat_le due h.tick)) [ inl e ↦ rw e refl | inr e ↦ rw e refl ]

all_cleared : (ws : List DueReply) (h : Gateway) → cleared (queue_due h ws) ≡ cleared h
all_cleared [] h = refl
all_cleared (w ∷ ws) h =
    all_cleared ws (enqueue h w.due (message_bytes w.unit (tester_of h) w.body))
    ∙ one_cleared h w.due (message_bytes w.unit (tester_of h) w.body)

pub queued_cleared : (ws : List DueReply) (v : Vehicle) → redialed (record v { gateway = queue_due v.gateway ws }) ≡ redialed v
queued_cleared ws v = λ i. record v { gateway = all_cleared ws v.gateway i }

pub gate_cleared : (unit due : ℕ) (body : List ℕ) (g : Gate) → redialed_gate (queued unit due body g) ≡ redialed_gate g
gate_cleared unit due body g = λ i. record g { gateway = one_cleared g.gateway due (message_bytes unit (tester_of g.gateway) body) i }

-- the tick stays
one_tick : (h : Gateway) (due : ℕ) (frame : List ℕ) → (enqueue h due frame).tick ≡ h.tick
one_tick h due frame = elim (cases_Bool (nat_le due h.tick)) [ inl e ↦ rw e refl | inr e ↦ rw e refl ]

pub queued_tick : (ws : List DueReply) (g : Gate) → (all_queued ws g).gateway.tick ≡ g.gateway.tick
queued_tick [] g = refl
queued_tick (w ∷ ws) g = queued_tick ws (queued w.unit w.due w.body g) ∙ one_tick g.gateway w.due (message_bytes w.unit (tester_of g.gateway) w.body)

pub refused_tick : (bad : Option Bad) (g : Gate) → (refusing bad g).gateway.tick ≡ g.gateway.tick
refused_tick None g = refl
refused_tick (Some Pattern) g = refl
refused_tick (Some (Length kind)) g = refl
refused_tick (Some (TooLarge said)) g = refl
refused_tick (Some Failed) g = refl

-- what a new connection would leave, by the gateway
pub gates_forgotten : (s : State) (g : Gate) → redialed_gate g ≡ redialed_gate s.gate → forgotten (record s { gate = g }) ≡ forgotten s
gates_forgotten s g is = λ i. record (forgotten s) { gateway = (is i).gateway }

pub refused_forgotten : (bad : Option Bad) (g : Gate) → redialed_gate (refusing bad g) ≡ redialed_gate g
refused_forgotten None g = refl
refused_forgotten (Some Pattern) g = refl
refused_forgotten (Some (Length kind)) g = refl
refused_forgotten (Some (TooLarge said)) g = refl
refused_forgotten (Some Failed) g = refl
