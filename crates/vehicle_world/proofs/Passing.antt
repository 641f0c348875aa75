-- What a receive does.
use Rattle.std.proofs.Common.{◌≡◌, ℕ, ◌+◌, ◌≤◌, Bool, true, false, List, [], ◌∷◌, length, map, refl, sym, ◌∙◌, ap, subst, arith}
use Rattle.std.specs.Prelude.{min, nat_lt, ◌==◌, if◌then◌else◌}
use Rattle.std.proofs.lemmas.Bool.{lt-ltb, false≢true, eq-eqb}
use Rattle.unit_model.specs.Poll.{raises, raised_by, ticked, held_on, pending_of}
use Rattle.unit_model.specs.Feed.{tester_of}
use Rattle.unit_model.specs.Unit.{ControlUnit}
use Rattle.unit_model.specs.Vehicle.{HeldAnswer}
use Rattle.unit_model.specs.declared.reply.Got.{Got}
use Rattle.unit_model.specs.declared.reply.Got.TheVariants.{Quiet, Bytes}
use Rattle.unit_sim.specs.Sims.{Sim}
use Rattle.gateway_sim.specs.Feeding.{IsFilled, IsPiece, Polled}
use Rattle.gateway_sim.specs.Gates.{Gate}
use Rattle.gateway_sim.specs.Handling.{ticks}
use Rattle.vehicle_world.specs.States.{State, unit_in, vehicle_in}
use Rattle.vehicle_world.specs.Worlds.{PolledTo, all_raised, carries_on, raised, state_polled, ticks_on}

-- ------ a tick
pub was_quiet : (room : ℕ) (more out : List ℕ) (old new : Gate) (got : Got) → old.gateway.ready ≡ [] → Polled more out old new got → IsPiece room got → IsFilled room old got → (got ≡ Quiet) × (new ≡ ticks more old)
was_quiet room more out old new Quiet none polled piece size = (refl, polled.1)
was_quiet room more out old new (Bytes n) none polled piece size =
    let nothing : length old.gateway.ready ≡ 0 = ap length none in
    let is : n ≡ min room (length old.gateway.ready) = size in
    let some : 1 ≤ n = piece.0 in
    absurd (omega (arith, nothing, is, some))

pub ticks_so : (s : State) (gate : Gate) (sims : List Sim) (held : List HeldAnswer) (tick tester : ℕ) (more : List ℕ) → tick ≡ s.gate.gateway.tick + 1 → tester ≡ tester_of s.gate.gateway → more ≡ pending_of tick tester s.held → gate ≡ ticks more s.gate → sims ≡ all_raised tick s.held s.sims → held ≡ held_on tick s.held
    → record { gate = gate; sims = sims; held = held } ≡ ticks_on s
ticks_so s gate sims held tick tester more tick_is tester_is more_is gate_is sims_is held_is =
    (λ i. record { gate = gate_is i; sims = sims_is i; held = held_is i })
    ∙ (λ i. record { gate = ticks (more_is i) s.gate; sims = all_raised tick s.held s.sims; held = held_on tick s.held })
    ∙ (λ i. record { gate = ticks (pending_of (tick_is i) (tester_is i) s.held) s.gate; sims = all_raised (tick_is i) s.held s.sims; held = held_on (tick_is i) s.held })

one_raised : (tick : ℕ) (h : HeldAnswer) (sims : List Sim) → map unit_in (map (raised tick h) sims) ≡ map (raises tick h) (map unit_in sims)
one_raised tick h [] = refl
one_raised tick h (s ∷ ss) = ap (λ (us : List ControlUnit). raises tick h s.unit ∷ us) (one_raised tick h ss)

units_raised : (tick : ℕ) (hs : List HeldAnswer) (sims : List Sim) → map unit_in (all_raised tick hs sims) ≡ raised_by tick hs (map unit_in sims)
units_raised tick [] sims = refl
units_raised tick (h ∷ hs) sims = units_raised tick hs (map (raised tick h) sims) ∙ ap (raised_by tick hs) (one_raised tick h sims)

pub ticks_vehicle : (s : State) → vehicle_in (ticks_on s) ≡ ticked (vehicle_in s)
ticks_vehicle s = λ i. record (vehicle_in (ticks_on s)) { units = units_raised (s.gate.gateway.tick + 1) s.held s.sims i }

pub polled_quiet : (room : ℕ) (s new : State) → s.gate.gateway.ready ≡ [] → new ≡ ticks_on s → new ≡ state_polled room s
polled_quiet room s new none is =
    let e : (length s.gate.gateway.ready == 0) ≡ true = eq-eqb _ _ (ap length none) in
    is ∙ ap (λ (b : Bool). if b then ticks_on s else carries_on room s) (sym e)

pub quiet_to : (room : ℕ) (out : List ℕ) (got : Got) (s new : State) → s.gate.gateway.ready ≡ [] → got ≡ Quiet → new ≡ ticks_on s → PolledTo room out (vehicle_in s) (vehicle_in new) got
quiet_to room out got s new none got_is is = subst (λ (g : Got). PolledTo room out (vehicle_in s) (vehicle_in new) g) (sym got_is) (record { none = none; becomes = ap vehicle_in is ∙ ticks_vehicle s })

pub no_due : (ready : List ℕ) (due : Bool) → due ≡ nat_lt 0 (length ready) → due ≡ false → ready ≡ []
no_due [] due is e = refl
no_due (x ∷ xs) due is e =
    let lt : nat_lt 0 (length (x ∷ xs)) ≡ true = lt-ltb _ _ (omega arith) in
    absurd (false≢true (sym e ∙ is ∙ lt))
