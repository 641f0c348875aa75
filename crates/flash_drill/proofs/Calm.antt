-- A vehicle without troubles stays one, whatever is sent to it and received from it.
use Rattle.std.proofs.Common.{◌≡◌, ◌∙◌, ℕ, ◌+◌, ◌==◌, Bool, true, false, List, [], ◌∷◌, ◌++◌, Option, Some, None, refl, sym, ap, subst}
use Rattle.std.specs.Prelude.{IfSome, length, nat_le, if◌then◌else◌}
use Rattle.doip_frame.specs.Deframe.{bad_in}
use Rattle.doip_frame.specs.declared.frame.Frame.{Frame}
use Rattle.doip_frame.specs.declared.frame.Frame.TheVariants.{HeaderNack, Activate, Activated, AliveAsk, AliveSay, Message, Ack, Nack, Other}
use Rattle.flash_base.specs.Lists.{Each}
use Rattle.flash_drill.specs.Calm.{IsCalmGate, IsCalmSim, IsCalmState, sim_addresses}
use Rattle.gateway_sim.specs.Acting.{counted_activation, counted_message, how, nack_for}
use Rattle.gateway_sim.specs.Feeding.{cut_off, ended}
use Rattle.gateway_sim.specs.Gates.{Gate, front_of}
use Rattle.gateway_sim.specs.Handling.{Sent, Nothing, Heard, Refused, Step, activates, answered, code_of, comes, delivers, handled, queued, refused, says}
use Rattle.gateway_sim.specs.declared.spec.GatewayTrouble.{GatewayTrouble}
use Rattle.outcome_law.proofs.Growing.{obedient_counts}
use Rattle.unit_model.specs.Feed.{DueReply, held_answers, still_held}
use Rattle.unit_model.specs.Poll.{held_on}
use Rattle.unit_model.specs.Step.{reply_at}
use Rattle.unit_model.specs.Unit.{ControlUnit, obedient}
use Rattle.unit_model.specs.Vehicle.{Gateway, HeldAnswer}
use Rattle.unit_model.specs.declared.reply.UnitReply.{UnitReply}
use Rattle.unit_model.specs.declared.spec.TroubleSpec.{TroubleSpec}
use Rattle.unit_model.proofs.Steps.{obedient_frames}
use Rattle.unit_sim.specs.Acting.{acting, counted}
use Rattle.unit_sim.specs.Done.{done}
use Rattle.unit_sim.specs.Sims.{Sim, heard_by}
use Rattle.uds_codec.specs.Request.{sid_of}
use Rattle.vehicle_world.specs.Feeding.{after, all_met, all_queued, does, frame_done, frames_done, hears, is_known, ran, state_fed}
use Rattle.vehicle_world.specs.States.{State, change_at, sim_at}
use Rattle.vehicle_world.specs.Worlds.{all_raised, carries_on, state_polled, state_redialed, ticks_on}

-- ------ a gateway
none_answered : (ts : List GatewayTrouble) (source : ℕ) (h : Gateway) (code : ℕ) → ts ≡ [] → (answered (how ts) source h).denied code ≡ h.denied code
none_answered [] source h code e = refl
none_answered (t ∷ ts) source h code e = cc

none_ignored : (ts : List GatewayTrouble) (source : ℕ) (h : Gateway) → ts ≡ [] → (answered (how ts) source h).silent ≡ h.silent
none_ignored [] source h e = refl
none_ignored (t ∷ ts) source h e = cc

none_nacked : (ts : List GatewayTrouble) (target : ℕ) → ts ≡ [] → nack_for target ts ≡ None
none_nacked [] target e = refl
none_nacked (t ∷ ts) target e = cc

activates_calm : (source : ℕ) (g : Gate) → IsCalmGate g → IsCalmGate (activates source g)
activates_calm source g c = record {
  troubles = ap counted_activation c.troubles;
  denied = λ code. none_answered g.troubles source g.gateway code c.troubles ∙ c.denied code;
  silent = none_ignored g.troubles source g.gateway c.troubles ∙ c.silent;
}

says_calm : (g : Gate) (frame : List ℕ) → IsCalmGate g → IsCalmGate (says g frame)
says_calm g frame c = record { troubles = c.troubles; denied = c.denied; silent = c.silent }

-- no message is refused by a trouble
abbrev Obeys : Sent → Type 0
Obeys Nothing = Unit {0}
Obeys (Heard unit body) = Unit {0}
Obeys (Refused unit code) = ⊥

abbrev IsHandled : Step → Type 0
IsHandled s = IsCalmGate s.0 × Obeys s.1

comes_calm : (source target : ℕ) (body : List ℕ) (o : Option ℕ) (g : Gate) → o ≡ None → IsCalmGate g → IsHandled (comes source target body o g)
comes_calm source target body None g e c = (record { troubles = ap (counted_message target) c.troubles; denied = c.denied; silent = c.silent }, tt)
comes_calm source target body (Some code) g e c = cc

delivers_calm : (source target : ℕ) (body : List ℕ) (known : Bool) (o : Option ℕ) (g : Gate) → IsCalmGate g → IsHandled (delivers source target body known o g)
delivers_calm source target body known None g c = (says_calm g _ c, tt)
delivers_calm source target body true (Some tester) g c = comes_calm source target body (nack_for target g.troubles) g (none_nacked g.troubles target c.troubles) c
delivers_calm source target body false (Some tester) g c = (says_calm g _ c, tt)

handled_calm : (f : Frame) (known : Bool) (g : Gate) → IsCalmGate g → IsHandled (handled f known g)
handled_calm (Activate source kind oem) known g c = (activates_calm source g c, tt)
handled_calm (Message source target body) known g c = delivers_calm source target body known g.gateway.active g c
handled_calm (HeaderNack code) known g c = (c, tt)
handled_calm (Activated tester entity code oem) known g c = (c, tt)
handled_calm AliveAsk known g c = (c, tt)
handled_calm (AliveSay source) known g c = (c, tt)
handled_calm (Ack source target code old) known g c = (c, tt)
handled_calm (Nack source target code old) known g c = (c, tt)
handled_calm (Other kind payload) known g c = (c, tt)

refused_calm : (o : Option ℕ) (g : Gate) → IsCalmGate g → IsCalmGate (refused o g)
refused_calm None g c = c
refused_calm (Some code) g c = says_calm g _ c

queued_calm : (unit due : ℕ) (body : List ℕ) (g : Gate) → IsCalmGate g → IsCalmGate (queued unit due body g)
queued_calm unit due body g c = record {
  troubles = c.troubles;
  denied = λ code. denied code (nat_le due g.gateway.tick) _ _ refl refl ∙ c.denied code;
  silent = silent (nat_le due g.gateway.tick) _ _ refl refl ∙ c.silent;
}
  where
    denied : (code : ℕ) (b : Bool) (x y : Gateway) → x.denied code ≡ g.gateway.denied code → y.denied code ≡ g.gateway.denied code → (if b then x else y).denied code ≡ g.gateway.denied code
    denied code true x y e f = e
    denied code false x y e f = f

    silent : (b : Bool) (x y : Gateway) → x.silent ≡ g.gateway.silent → y.silent ≡ g.gateway.silent → (if b then x else y).silent ≡ g.gateway.silent
    silent true x y e f = e
    silent false x y e f = f

all_queued_calm : (ws : List DueReply) (g : Gate) → IsCalmGate g → IsCalmGate (all_queued ws g)
all_queued_calm [] g c = c
all_queued_calm (w ∷ ws) g c = all_queued_calm ws (queued w.unit w.due w.body g) (queued_calm w.unit w.due w.body g c)

-- ------ a unit
none_acts : (ts : List TroubleSpec) (u : ControlUnit) (body : List ℕ) (tick : ℕ) → ts ≡ [] → done (acting (sid_of body) ts) u body tick ≡ ((obedient u body).0, reply_at tick (obedient u body).1 ∷ [])
none_acts [] u body tick e = refl
none_acts (t ∷ ts) u body tick e = cc

replies : (s : Sim) (body : List ℕ) (tick : ℕ) → IsCalmSim s → (heard_by s body tick).waiting ≡ reply_at tick (obedient s.unit body).1 ∷ []
replies s body tick c = ap (λ (d : ControlUnit × List UnitReply). s.waiting ++ d.1) (none_acts s.troubles s.unit body tick c.troubles)
    ∙ ap (λ (w : List UnitReply). w ++ (reply_at tick (obedient s.unit body).1 ∷ [])) c.waiting

after_calm : (s : Sim) (body : List ℕ) (tick : ℕ) → IsCalmSim s → IsCalmSim (after body tick s)
after_calm s body tick c = record {
  troubles = ap (counted (sid_of body)) c.troubles;
  waiting = refl;
  counts = ap (λ (d : ControlUnit × List UnitReply). d.0.counts) (none_acts s.troubles s.unit body tick c.troubles) ∙ (obedient_counts s.unit body ∙ c.counts);
}

after_address : (s : Sim) (body : List ℕ) (tick : ℕ) → IsCalmSim s → (after body tick s).unit.address ≡ s.unit.address
after_address s body tick c = ap (λ (d : ControlUnit × List UnitReply). d.0.address) (none_acts s.troubles s.unit body tick c.troubles) ∙ (obedient_frames s.unit body).address

-- ------ all units
either : (P : Option Sim → Type 0) (b : Bool) (x y : Option Sim) → P x → P y → P (if b then x else y)
either P true x y p q = p
either P false x y p q = q

found_calm : (target : ℕ) (ss : List Sim) → Each IsCalmSim ss → IfSome (sim_at target ss) IsCalmSim
found_calm target [] c = tt
found_calm target (s ∷ ss) c = either (λ o. IfSome o IsCalmSim) (s.unit.address == target) (Some s) (sim_at target ss) c.0 (found_calm target ss c.1)

-- calm units of these addresses
abbrev AreThese : List ℕ → List Sim → Type 0
AreThese addresses ss = Each IsCalmSim ss × (sim_addresses ss ≡ addresses)

pick : (addresses : List ℕ) (b : Bool) (x y : List Sim) → AreThese addresses x → AreThese addresses y → AreThese addresses (if b then x else y)
pick addresses true x y p q = p
pick addresses false x y p q = q

changed_calm : (body : List ℕ) (tick target : ℕ) (ss : List Sim) → Each IsCalmSim ss → AreThese (sim_addresses ss) (change_at target (after body tick) ss)
changed_calm body tick target [] c = (tt, refl)
changed_calm body tick target (s ∷ ss) c =
    let more = changed_calm body tick target ss c.1 in
    pick (sim_addresses (s ∷ ss)) (s.unit.address == target) (after body tick s ∷ ss) (s ∷ change_at target (after body tick) ss)
    ((after_calm s body tick c.0, c.1), ap (λ (a : ℕ). a ∷ sim_addresses ss) (after_address s body tick c.0))
    ((c.0, more.0), ap (λ (as' : List ℕ). s.unit.address ∷ as') more.1)

-- ------ the vehicle
-- calm, and with the same units as before
abbrev pub Stays : State → State → Type 0
Stays old new = IsCalmState new × (sim_addresses new.sims ≡ sim_addresses old.sims)

pub stays_then : (a b c : State) → Stays a b → Stays b c → Stays a c
stays_then a b c p q = (q.0, q.1 ∙ p.1)

none_held : (tick target sid : ℕ) (hs : List HeldAnswer) (rs : List UnitReply) (sims : List Sim) (body : List ℕ) → hs ≡ [] → rs ≡ reply_at tick body ∷ []
    → still_held target sid hs ++ held_answers tick target sid (all_met sims tick rs) ≡ []
none_held tick target sid hs rs sims body e f =
    ap (λ (h : List HeldAnswer). still_held target sid h ++ held_answers tick target sid (all_met sims tick rs)) e
    ∙ ap (λ (r : List UnitReply). held_answers tick target sid (all_met sims tick r)) f

hears_calm : (target : ℕ) (body : List ℕ) (o : Option Sim) (s : State) → IfSome o IsCalmSim → IsCalmState s → Stays s (hears target body o s).0
hears_calm target body None s o c = (c, refl)
hears_calm target body (Some u) s o c =
    let tick = s.gate.gateway.tick in
    let changed = changed_calm body tick target s.sims c.sims in (
      record {
        gate = c.gate;
        sims = changed.0;
        held = none_held tick target (sid_of body) s.held (heard_by u body tick).waiting (change_at target (after body tick) s.sims) (obedient u.unit body).1 c.held (replies u body tick o);
      },
      changed.1,
    )

does_calm : (o : Sent) (s : State) → Obeys o → IsCalmState s → Stays s (does o s).0
does_calm Nothing s o c = (c, refl)
does_calm (Refused unit code) s o c = absurd o
does_calm (Heard unit body) s o c = hears_calm unit body (sim_at unit s.sims) s (found_calm unit s.sims c.sims) c

with_gate : (s : State) (g : Gate) → IsCalmState s → IsCalmGate g → IsCalmState (record s { gate = g })
with_gate s g c d = record { gate = d; sims = c.sims; held = c.held }

frame_calm : (f : Frame) (s : State) → IsCalmState s → Stays s (frame_done f s).0
frame_calm f s c =
    let h = handled_calm f (is_known f s) s.gate c.gate in
    does_calm (handled f (is_known f s) s.gate).1 (record s { gate = (handled f (is_known f s) s.gate).0 }) h.1 (with_gate s _ c h.0)

frames_calm : (fs : List Frame) (s : State) → IsCalmState s → Stays s (frames_done fs s).0
frames_calm [] s c = (c, refl)
frames_calm (f ∷ fs) s c =
    let one = frame_calm f s c in
    stays_then s (frame_done f s).0 (frames_done fs (frame_done f s).0).0 one (frames_calm fs (frame_done f s).0 one.0)

cut_calm : (bytes : List ℕ) (g : Gate) → IsCalmGate g → IsCalmGate (cut_off g bytes)
cut_calm bytes g c = record { troubles = c.troubles; denied = c.denied; silent = c.silent }

pub fed_calm : (bytes : List ℕ) (s : State) → IsCalmState s → Stays s (state_fed bytes s)
fed_calm bytes s c =
    let r = frames_calm (ended s.gate bytes) (record s { gate = cut_off s.gate bytes }) (with_gate s _ c (cut_calm bytes s.gate c.gate)) in
    (with_gate (ran bytes s).0 _ r.0 (all_queued_calm (ran bytes s).1 _ (refused_calm (code_of (bad_in (front_of s.gate.gateway) bytes)) (ran bytes s).0.gate r.0.gate)), r.1)

raised_none : (tick : ℕ) (hs : List HeldAnswer) (ss : List Sim) → hs ≡ [] → all_raised tick hs ss ≡ ss
raised_none tick [] ss e = refl
raised_none tick (h ∷ hs) ss e = cc

ticks_calm : (s : State) → IsCalmState s → Stays s (ticks_on s)
ticks_calm s c =
    let tick = s.gate.gateway.tick + 1 in
    let same = raised_none tick s.held s.sims c.held in (
      record {
        gate = record { troubles = c.gate.troubles; denied = c.gate.denied; silent = c.gate.silent };
        sims = subst (λ (ss : List Sim). Each IsCalmSim ss) (sym same) c.sims;
        held = ap (held_on tick) c.held;
      },
      ap sim_addresses same,
    )

carries_calm : (room : ℕ) (s : State) → IsCalmState s → Stays s (carries_on room s)
carries_calm room s c = (
  record {
    gate = record { troubles = c.gate.troubles; denied = c.gate.denied; silent = c.gate.silent };
    sims = c.sims;
    held = c.held;
  },
  refl,
)

choose : (s : State) (b : Bool) (x y : State) → Stays s x → Stays s y → Stays s (if b then x else y)
choose s true x y p q = p
choose s false x y p q = q

pub polled_calm : (room : ℕ) (s : State) → IsCalmState s → Stays s (state_polled room s)
polled_calm room s c = choose s (length s.gate.gateway.ready == 0) (ticks_on s) (carries_on room s) (ticks_calm s c) (carries_calm room s c)

pub redialed_calm : (s : State) → IsCalmState s → Stays s (state_redialed s)
redialed_calm s c = (
  record {
    gate = record { troubles = c.gate.troubles; denied = c.gate.denied; silent = c.gate.silent };
    sims = c.sims;
    held = refl;
  },
  refl,
)
