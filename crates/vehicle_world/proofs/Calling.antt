-- A unit hears a request, and a frame is handled.
use Rattle.std.proofs.Common.{◌≡◌, inl, inr, ℕ, ◌+◌, ◌<◌, Bool, true, false, List, ◌∷◌, length, map, set, get_or, drop, Some, None, Ok, Err, Option, refl, sym, ◌∙◌, ap, subst}
use Rattle.std.specs.Prelude.{Result, OnOk, OnErr, slice_get}
use Rattle.std.proofs.lemmas.List.{append-nil, drop_more}
use Rattle.std.proofs.lemmas.Option.{get_or_from_slice_get, slice_get_within}
use Rattle.std.proofs.Math.Seq.{map-set_same}
use Rattle.flash_base.specs.Lists.{Each}
use Rattle.uds_codec.specs.Request.{sid_of}
use Rattle.doip_frame.specs.declared.frame.Bad.{Bad}
use Rattle.doip_frame.specs.declared.frame.Frame.{Frame}
use Rattle.doip_frame.specs.declared.frame.Frame.TheVariants.{HeaderNack, Activate, Activated, AliveAsk, AliveSay, Message, Ack, Nack, Other}
use Rattle.unit_model.specs.Feed.{DueReply}
use Rattle.unit_model.specs.Step.{UnitStep}
use Rattle.unit_model.specs.Vehicle.{Vehicle}
use Rattle.unit_model.specs.declared.reply.UnitReply.{UnitReply}
use Rattle.unit_sim.specs.Sims.{Sim, heard_by}
use Rattle.gateway_sim.specs.Acting.{nack_for}
use Rattle.gateway_sim.specs.Gates.{Gate, redialed_gate}
use Rattle.gateway_sim.specs.Handling.{Sent, Nothing, Heard, Refused, Step, handled, delivers, comes, refusing}
use Rattle.vehicle_world.specs.Feeding.{Ran, after, does, frame_done, gathered, hears, is_known}
use Rattle.vehicle_world.specs.Running.{Adds, Handled, HeardOrNot, OneOrNone, StepsIn}
use Rattle.vehicle_world.specs.States.{State, change_at, forgotten, node_sim, sim_at, unit_in}
use Rattle.vehicle_world.specs.declared.node.Node.{Node}
use Rattle.vehicle_world.proofs.Handling.{StepsSent, frame_handles}
use Rattle.vehicle_world.proofs.Kept.{cleared, refused_forgotten}
use Rattle.vehicle_world.proofs.Places.{FoundAt, NoneAt, put_back, there_in}

pub on_ok : {T E : Type 0} (r : Result T E) (P : Type 0) → P → OnOk r P
on_ok (Ok x) P p = p
on_ok (Err e) P p = tt

pub on_err : {T E : Type 0} (r : Result T E) (P : Type 0) → P → OnErr r P
on_err (Ok x) P p = tt
on_err (Err e) P p = p

pub map_ok : {T E : Type 0} (r : Result T E) (P Q : Type 0) → (P → Q) → OnOk r P → OnOk r Q
map_ok (Ok x) P Q f p = f p
map_ok (Err e) P Q f p = tt

pub map_err : {T E : Type 0} (r : Result T E) (P Q : Type 0) → (P → Q) → OnErr r P → OnErr r Q
map_err (Ok x) P Q f p = tt
map_err (Err e) P Q f p = f p

-- ------ a unit that is there
module _ (t : ℕ) (body : List ℕ) (s : State) (items : List Node) (place : ℕ) (x w : Node) (rs : List UnitReply) (tick : ℕ)
    (here : FoundAt t (map node_sim items) place) (x_is : x ≡ get_or items place x) (tick_is : tick ≡ s.gate.gateway.tick)
    (replies : rs ≡ (heard_by (node_sim x) body tick).waiting) (state : node_sim w ≡ after body tick (node_sim x)) where
  same : node_sim x ≡ here.there
  same = there_in t items place x here x_is

  pub steps_in : UnitStep (node_sim x).unit body tick rs (node_sim w).unit → StepsIn body s.gate.gateway.tick (sim_at t (map node_sim items))
  steps_in step =
      let one : UnitStep (node_sim x).unit body tick (heard_by (node_sim x) body tick).waiting (after body tick (node_sim x)).unit =
      subst (λ (p : List UnitReply × Sim). UnitStep (node_sim x).unit body tick p.0 p.1.unit) (λ i. (replies i, state i)) step in
      let two : StepsIn body tick (Some here.there) = subst (λ (u : Sim). StepsIn body tick (Some u)) same one in
      subst (λ (n : ℕ). StepsIn body n (sim_at t (map node_sim items))) tick_is (subst (λ (o : Option Sim). StepsIn body tick o) (sym here.at) two)

  pub hears_so : (sid : ℕ) (mid : State) → sid ≡ sid_of body → s.sims ≡ map node_sim items → mid ≡ record s { sims = map node_sim (set items place w) } → gathered t sid tick rs mid ≡ hears t body (sim_at t (map node_sim items)) s
  hears_so sid mid sid_is sims mid_is =
      let put : map node_sim (set items place w) ≡ change_at t (after body tick) (map node_sim items) = put_back t items place (after body tick) x w here x_is state in
      let waits : rs ≡ (heard_by here.there body tick).waiting = replies ∙ ap (λ (u : Sim). (heard_by u body tick).waiting) same in
      (λ i. gathered t (sid_is i) tick (waits i) (mid_is i))
      ∙ (λ i. gathered t (sid_of body) tick (heard_by here.there body tick).waiting (record s { sims = put i }))
      ∙ (λ i. gathered t (sid_of body) (tick_is i) (heard_by here.there body (tick_is i)).waiting (record s { sims = change_at t (after body (tick_is i)) (sym sims i) }))
      ∙ ap (λ (o : Option Sim). hears t body o s) (sym here.at)

-- nothing was heard
pub unheard_sims : (items : List Node) (place : ℕ) (x w : Node) → x ≡ get_or items place x → node_sim w ≡ node_sim x → map node_sim (set items place w) ≡ map node_sim items
unheard_sims items place x w is same = map-set_same node_sim items place w x (same ∙ ap node_sim is)

-- a unit that is not there
pub none_steps : (t : ℕ) (body : List ℕ) (tick : ℕ) (sims : List Sim) → NoneAt t sims → StepsIn body tick (sim_at t sims)
none_steps t body tick sims none = subst (λ (o : Option Sim). StepsIn body tick o) (sym none.at) tt

pub none_adds : (t : ℕ) (body : List ℕ) (s : State) (sims : List Sim) (out : List DueReply) → NoneAt t sims → Adds (hears t body (sim_at t sims) s) out s out
none_adds t body s sims out none = subst (λ (o : Option Sim). Adds (hears t body o s) out s out) (sym none.at) (record { state = refl; replies = sym (append-nil out) })

-- ------ a frame
module _ (f : Frame) (s : State) (known : Bool) (g : Gate) (sent : Sent) (known_is : known ≡ is_known f s) (step_is : (g, sent) ≡ handled f known s.gate) where
  to_done : (g, sent) ≡ handled f (is_known f s) s.gate
  to_done = step_is ∙ ap (λ (b : Bool). handled f b s.gate) known_is

  pub sent_handled : StepsSent sent (record s { gate = g }) → Handled f s
  sent_handled steps = frame_handles f s (subst (λ (st : Step). StepsSent st.1 (record s { gate = st.0 })) to_done steps)

  pub done_so : does sent (record s { gate = g }) ≡ frame_done f s
  done_so = ap (λ (st : Step). does st.1 (record s { gate = st.0 })) to_done

-- where a unit is to hear a request, a new connection would leave what it would have left before
abbrev Leaves : Gate → Step → Type 0
Leaves g (h, Nothing) = Unit {0}
Leaves g (h, Refused unit code) = Unit {0}
Leaves g (h, Heard unit body) = cleared h.gateway ≡ cleared g.gateway

came : (source target : ℕ) (body : List ℕ) (code : Option ℕ) (g : Gate) → Leaves g (comes source target body code g)
came source target body None g = refl
came source target body (Some code) g = tt

delivered : (source target : ℕ) (body : List ℕ) (known : Bool) (active : Option ℕ) (g : Gate) → Leaves g (delivers source target body known active g)
delivered source target body known None g = tt
delivered source target body true (Some tester) g = came source target body (nack_for target g.troubles) g
delivered source target body false (Some tester) g = tt

leaves : (f : Frame) (known : Bool) (g : Gate) → Leaves g (handled f known g)
leaves (Activate source kind oem) known g = tt
leaves (Message source target body) known g = delivered source target body known g.gateway.active g
leaves (HeaderNack code) known g = tt
leaves (Activated tester entity code oem) known g = tt
leaves AliveAsk known g = tt
leaves (AliveSay source) known g = tt
leaves (Ack source target code old) known g = tt
leaves (Nack source target code old) known g = tt
leaves (Other kind payload) known g = tt

pub heard_part : (f : Frame) (s : State) (known : Bool) (g : Gate) (unit : ℕ) (body : List ℕ) (new : Vehicle) → known ≡ is_known f s → (g, Heard unit body) ≡ handled f known s.gate → HeardOrNot unit body (record s { gate = g }) new → OneOrNone f s new
heard_part f s known g unit body new known_is step_is (inl same) =
    let clear : cleared g.gateway ≡ cleared s.gate.gateway = subst (λ (st : Step). Leaves s.gate st) (sym step_is) (leaves f known s.gate) in
    inl (same ∙ (λ i. record { gateway = clear i; units = map unit_in s.sims }))
heard_part f s known g unit body new known_is step_is (inr h) =
    inr (
      h.leaves ∙ ap (λ (r : Ran). forgotten r.0) (done_so f s known g (Heard unit body) known_is step_is),
      sent_handled f s known g (Heard unit body) known_is step_is h.step,
    )

-- ------ frames in a list
pub each_at : {T : Type 0} (P : T → Type 0) (xs : List T) (i : ℕ) (x : T) → slice_get xs i ≡ Some x → Each P (drop i xs) → P x × Each P (drop (i + 1) xs)
each_at P xs i x there are =
    let lt : i < length xs = slice_get_within xs i x there in
    let split : drop i xs ≡ x ∷ drop (i + 1) xs = drop_more xs i x lt ∙ ap (λ y. y ∷ drop (i + 1) xs) (get_or_from_slice_get xs i x x there) in
    subst (Each P) split are

-- ------ the gateway alone
pub refused_same : (s : State) (g : Gate) → g ≡ s.gate → forgotten (record s { gate = g }) ≡ forgotten s
refused_same s g is = λ i. forgotten (record s { gate = is i })

pub queued_same : (s : State) (bad : Option Bad) (g h : Gate) → g ≡ refusing bad s.gate → redialed_gate h ≡ redialed_gate g → forgotten (record s { gate = h }) ≡ forgotten s
queued_same s bad g h g_is h_is =
    let all : redialed_gate h ≡ redialed_gate s.gate = h_is ∙ ap redialed_gate g_is ∙ refused_forgotten bad s.gate in
    λ i. record (forgotten s) { gateway = (all i).gateway }
