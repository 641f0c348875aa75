-- What a frame makes of a simulated vehicle is what it may make of the vehicle.
use Rattle.std.proofs.Common.{◌≡◌, inl, inr, ℕ, List, Some, None, Option, refl, sym, ◌∙◌, ap, subst}
use Rattle.std.specs.Prelude.{is_some, option_map}
use Rattle.doip_frame.specs.declared.frame.Frame.{Frame}
use Rattle.doip_frame.specs.declared.frame.Frame.TheVariants.{HeaderNack, Activate, Activated, AliveAsk, AliveSay, Message, Ack, Nack, Other}
use Rattle.unit_model.specs.Feed.{HandlesMessage, HandlesAt, Hears, Activation, Accepts, Denies, Delays, Ignores, activation}
use Rattle.unit_model.specs.Unit.{ControlUnit}
use Rattle.unit_model.specs.Vehicle.{Gateway}
use Rattle.unit_sim.specs.Sims.{Sim, heard_by}
use Rattle.gateway_sim.specs.Acting.{how, nack_for, counted_activation}
use Rattle.gateway_sim.specs.Handling.{Sent, Nothing, Heard, Refused, Step, handled, delivers, comes, answered}
use Rattle.gateway_sim.specs.declared.spec.GatewayTrouble.{GatewayTrouble}
use Rattle.vehicle_world.specs.Feeding.{Ran, after, all_met, does, hears, nacked, is_known}
use Rattle.vehicle_world.specs.Running.{Handled, StepsIn}
use Rattle.vehicle_world.specs.States.{State, change_at, sim_at, unit_in, vehicle_in}
use Rattle.vehicle_world.proofs.Activating.{Acts, acted, acts}
use Rattle.vehicle_world.proofs.Meeting.{met_step}
use Rattle.vehicle_world.proofs.Places.{units_at, units_with}

-- ------ activation
acts_so : (a : Activation) (source : ℕ) (s : State) (ts : List GatewayTrouble) → vehicle_in (record s { gate = record s.gate { gateway = acted a source s.gate.gateway; troubles = ts } }) ≡ activation a source (vehicle_in s)
acts_so Accepts source s ts = refl
acts_so (Denies code) source s ts = refl
acts_so (Delays ticks) source s ts = refl
acts_so Ignores source s ts = refl

activates_so : (source : ℕ) (s : State) (ts : List GatewayTrouble) (h : Gateway) → (a : Acts source s.gate.gateway h) → vehicle_in (record s { gate = record s.gate { gateway = h; troubles = ts } }) ≡ activation a.act source (vehicle_in s)
activates_so source s ts h a = (λ i. vehicle_in (record s { gate = record s.gate { gateway = a.becomes i; troubles = ts } })) ∙ acts_so a.act source s ts

-- ------ messages
-- where a unit is to hear a request, its step
abbrev pub StepsSent : Sent → State → Type 0
StepsSent Nothing s = Unit {0}
StepsSent (Refused unit code) s = Unit {0}
StepsSent (Heard unit body) s = StepsIn body s.gate.gateway.tick (sim_at unit s.sims)

module _ (source target : ℕ) (body : List ℕ) (s : State) where
  abbrev done : Step → Ran
  done step = does step.1 (record s { gate = step.0 })

  -- the code with which the message is refused, or none
  one_unit : (u : Sim) → sim_at target s.sims ≡ Some u → (code : Option ℕ) → StepsSent (comes source target body code s.gate).1 (record s { gate = (comes source target body code s.gate).0 })
      → HandlesAt source target body (Some (unit_in u)) (vehicle_in s) (vehicle_in (done (comes source target body code s.gate)).0) (done (comes source target body code s.gate)).1
  one_unit u there (Some code) step = inl (record {
    code = code;
    none = refl;
    becomes = λ i. record {
      gateway = (vehicle_in (done (comes source target body (Some code) s.gate)).0).gateway;
      units = sym (units_with target (nacked code) s.sims u there) i;
    };
  })
  one_unit u there None step =
      let tick : ℕ = s.gate.gateway.tick in
      let mid : State = record s { gate = (comes source target body None s.gate).0 } in
      let steps : StepsIn body tick (Some u) = subst (λ (o : Option Sim). StepsIn body tick o) there step in
      let done_is : hears target body (Some u) mid ≡ hears target body (sim_at target s.sims) mid = ap (λ (o : Option Sim). hears target body o mid) (sym there) in
      let sims : List Sim = change_at target (after body tick) s.sims in
      let rs = (heard_by u body tick).waiting in
      let heard : Hears source target body (unit_in u) (vehicle_in s) (vehicle_in (hears target body (Some u) mid).0) (hears target body (Some u) mid).1 = record {
        replies = all_met sims tick rs;
        after = (after body tick u).unit;
        step = met_step sims u.unit body tick rs _ steps;
        lets_out = refl;
        becomes = λ i. record {
          gateway = (vehicle_in (hears target body (Some u) mid).0).gateway;
          units = sym (units_with target (after body tick) s.sims u there) i;
        };
      } in
      subst (λ (r : Ran). HandlesAt source target body (Some (unit_in u)) (vehicle_in s) (vehicle_in r.0) r.1) done_is (inr heard)

  abbrev step_at : Option Sim → Option ℕ → Step
  step_at o active = delivers source target body (is_some o) active s.gate

  some_tester : (tester : ℕ) (o : Option Sim) → sim_at target s.sims ≡ o → StepsSent (step_at o (Some tester)).1 (record s { gate = (step_at o (Some tester)).0 })
      → HandlesAt source target body (option_map unit_in o) (vehicle_in s) (vehicle_in (done (step_at o (Some tester))).0) (done (step_at o (Some tester))).1
  some_tester tester None there step = record { none = refl; becomes = refl }
  some_tester tester (Some u) there step = one_unit u there (nack_for target s.gate.troubles) step

  message : (active : Option ℕ) → StepsSent (step_at (sim_at target s.sims) active).1 (record s { gate = (step_at (sim_at target s.sims) active).0 })
      → HandlesMessage source target body active (vehicle_in s) (vehicle_in (done (step_at (sim_at target s.sims) active)).0) (done (step_at (sim_at target s.sims) active)).1
  message None step = record { none = refl; becomes = refl }
  message (Some tester) step =
      let r : Ran = done (step_at (sim_at target s.sims) (Some tester)) in
      subst (λ (o : Option ControlUnit). HandlesAt source target body o (vehicle_in s) (vehicle_in r.0) r.1) (sym (units_at target s.sims)) (some_tester tester (sim_at target s.sims) refl step)

-- ------ each frame
pub frame_handles : (f : Frame) (s : State) → StepsSent (handled f (is_known f s) s.gate).1 (record s { gate = (handled f (is_known f s) s.gate).0 }) → Handled f s
frame_handles (Activate source kind oem) s step =
    let a : Acts source s.gate.gateway (answered (how s.gate.troubles) source s.gate.gateway) = acts source s.gate.gateway s.gate.troubles in
    record {
      how = a.act;
      is = a.is;
      none = refl;
      becomes = activates_so source s (counted_activation s.gate.troubles) _ a;
    }
frame_handles (Message source target body) s step = message source target body s s.gate.gateway.active step
frame_handles (HeaderNack code) s step = record { none = refl; becomes = refl }
frame_handles (Activated tester entity code oem) s step = record { none = refl; becomes = refl }
frame_handles AliveAsk s step = record { none = refl; becomes = refl }
frame_handles (AliveSay source) s step = record { none = refl; becomes = refl }
frame_handles (Ack source target code old) s step = record { none = refl; becomes = refl }
frame_handles (Nack source target code old) s step = record { none = refl; becomes = refl }
frame_handles (Other kind payload) s step = record { none = refl; becomes = refl }
