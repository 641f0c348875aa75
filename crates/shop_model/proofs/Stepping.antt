-- Each link call is unit steps.
use Rattle.std.proofs.Common.{◌≡◌, ◌⊎◌, inl, inr, ℕ, zero, suc, ◌+◌, true, false, List, [], ◌∷◌, ◌++◌, length, take, Some, None, Ok, Err, Result, refl, sym, ◌∙◌, ap, subst}
use Rattle.std.specs.Prelude.{Bool, Option, ◌==◌, map, MatchBool, if◌then◌else◌}
use Rattle.std.proofs.lemmas.Bool.{cases_Bool, false≢true}
use Rattle.disk_model.specs.declared.device.DeviceFault.{DeviceFault}
use Rattle.doip_frame.specs.Frame.{Cut, Partial, Wrong, Whole, cut_frame, frame_of}
use Rattle.doip_frame.specs.declared.frame.Frame.{Frame}
use Rattle.doip_frame.specs.declared.frame.Frame.TheVariants.{HeaderNack, Activate, Activated, AliveAsk, AliveSay, Message, Ack, Nack, Other}
use Rattle.unit_model.specs.declared.reply.UnitReply.{UnitReply}
use Rattle.unit_model.specs.Unit.{ControlUnit}
use Rattle.unit_model.specs.Step.{UnitStep}
use Rattle.unit_model.specs.Vehicle.{HeldAnswer, Vehicle, unit_at, redialed}
use Rattle.unit_model.specs.Feed.{DueReply, Handles, HandlesMessage, HandlesAt, Nacks, Hears, Activation, Accepts, Denies, Delays, Ignores, activation, AfterCut, FeedsAll, FeedsHearing, Feeds, FeedsPart, with_unit}
use Rattle.unit_model.specs.Poll.{raises, raised_by}
use Rattle.shop_model.specs.History.{Sent, Redialed}
use Rattle.shop_model.specs.Stepping.{SameButCounts, HeardAt, StepsBy, IsAfterSteps, AreAfterSteps, StepsUnits, IsReceive, AreUnitSteps}

-- ------ one unit
same_itself : (u : ControlUnit) → SameButCounts u u
same_itself u = record { becomes = refl }

same_on : (a b c : ControlUnit) → SameButCounts a b → SameButCounts b c → SameButCounts a c
same_on a b c x y = record { becomes = y.becomes ∙ ap (λ (u : ControlUnit). record u { counts = c.counts }) x.becomes }

head_on : (hs : List HeardAt) (a b c : ControlUnit) → SameButCounts a b → StepsBy hs b c → StepsBy hs a c
head_on [] a b c same steps = same_on a b c same steps
head_on (h ∷ hs) a b c same (before, replies, behind, first, step, steps) = (before, replies, behind, same_on a b before same first, step, steps)

steps_on : (hs ks : List HeardAt) (a b c : ControlUnit) → StepsBy hs a b → StepsBy ks b c → StepsBy (hs ++ ks) a c
steps_on [] ks a b c same steps = head_on ks a b c same steps
steps_on (h ∷ hs) ks a b c (before, replies, behind, same, step, more) steps = (before, replies, behind, same, step, steps_on hs ks behind b c more steps)

unit_on : (a b c : ControlUnit) → IsAfterSteps a b → IsAfterSteps b c → IsAfterSteps a c
unit_on a b c x y = record { heard = x.heard ++ y.heard; steps = steps_on x.heard y.heard a b c x.steps y.steps }

only_counts : (u w : ControlUnit) → SameButCounts u w → IsAfterSteps u w
only_counts u w same = record { heard = []; steps = same }

one_step : (u w : ControlUnit) (request : List ℕ) (tick : ℕ) (replies : List UnitReply) → UnitStep u request tick replies w → IsAfterSteps u w
one_step u w request tick replies step = record { heard = record { tick = tick; request = request } ∷ []; steps = (u, replies, w, same_itself u, step, same_itself w) }

-- ------ the units
all_same : (us : List ControlUnit) → AreAfterSteps us us
all_same [] = tt
all_same (u ∷ us) = (only_counts u u (same_itself u), all_same us)

all_on : (us ws vs : List ControlUnit) → AreAfterSteps us ws → AreAfterSteps ws vs → AreAfterSteps us vs
all_on [] [] vs x y = y
all_on [] (w ∷ ws) vs x y = absurd x
all_on (u ∷ us) [] vs x y = absurd x
all_on (u ∷ us) (w ∷ ws) [] x y = absurd y
all_on (u ∷ us) (w ∷ ws) (v ∷ vs) x y = (unit_on u w v x.0 y.0, all_on us ws vs x.1 y.1)

along : (us ws vs : List ControlUnit) → ws ≡ vs → AreAfterSteps us ws → AreAfterSteps us vs
along us ws vs is x = subst (AreAfterSteps us) is x

some_is : (u w : ControlUnit) → Some u ≡ Some w → u ≡ w
some_is u w is = cc

-- the unit with an address is another one
with_steps : (us : List ControlUnit) (t : ℕ) (u w : ControlUnit) → unit_at us t ≡ Some u → IsAfterSteps u w → AreAfterSteps us (with_unit us t w)
with_steps [] t u w is step = tt
with_steps (x ∷ us) t u w is step = elim (cases_Bool (x.address == t)) [
  | inl e ↦
      let here : x ≡ u = some_is x u (ap (λ (b : Bool). if b then Some x else unit_at us t) (sym e) ∙ is) in
      rw e (subst (λ (v : ControlUnit). IsAfterSteps v w) (sym here) step, all_same us)
  | inr e ↦
      let there : unit_at us t ≡ Some u = ap (λ (b : Bool). if b then Some x else unit_at us t) (sym e) ∙ is in
      rw e (only_counts x x (same_itself x), with_steps us t u w there step)
]

mapped : (f : ControlUnit → ControlUnit) → ((u : ControlUnit) → SameButCounts u (f u)) → (us : List ControlUnit) → AreAfterSteps us (map f us)
mapped f same [] = tt
mapped f same (u ∷ us) = (only_counts u (f u) (same u), mapped f same us)

raises_same : (tick : ℕ) (h : HeldAnswer) (u : ControlUnit) → SameButCounts u (raises tick h u)
raises_same tick h u = elim (cases_Bool (u.address == h.unit)) [ inl e ↦ rw e (record { becomes = refl }) | inr e ↦ rw e (same_itself u) ]

raised_steps : (tick : ℕ) (hs : List HeldAnswer) (us : List ControlUnit) → AreAfterSteps us (raised_by tick hs us)
raised_steps tick [] us = all_same us
raised_steps tick (h ∷ hs) us = all_on us (map (raises tick h) us) _ (mapped (raises tick h) (raises_same tick h) us) (raised_steps tick hs (map (raises tick h) us))

-- ------ vehicles
-- a vehicle with the same units
kept : (old new : Vehicle) → new.units ≡ old.units → StepsUnits old new
kept old new same = along old.units old.units new.units (sym same) (all_same old.units)

units_of : (old new : Vehicle) → new ≡ old → new.units ≡ old.units
units_of old new is = ap (λ (v : Vehicle). v.units) is

then_kept : (old mid new : Vehicle) → new.units ≡ mid.units → StepsUnits old mid → StepsUnits old new
then_kept old mid new same x = along old.units mid.units new.units (sym same) x

acts : (how : Activation) (source : ℕ) (v : Vehicle) → (activation how source v).units ≡ v.units
acts Accepts source v = refl
acts (Denies code) source v = refl
acts (Delays ticks) source v = refl
acts Ignores source v = refl

at_unit : (source target : ℕ) (body : List ℕ) (o : Option ControlUnit) (old new : Vehicle) (out : List DueReply) → unit_at old.units target ≡ o → HandlesAt source target body o old new out → StepsUnits old new
at_unit source target body None old new out is x = kept old new (ap (λ (v : Vehicle). v.units) x.becomes)
at_unit source target body (Some u) old new out is x = elim x [
  | inl n ↦ along old.units _ new.units (sym (ap (λ (v : Vehicle). v.units) n.becomes)) (with_steps old.units target u _ is (only_counts u _ (record { becomes = refl })))
  | inr h ↦ along old.units _ new.units (sym (ap (λ (v : Vehicle). v.units) h.becomes)) (with_steps old.units target u h.after is (one_step u h.after body old.gateway.tick h.replies h.step))
]

at_gateway : (source target : ℕ) (body : List ℕ) (active : Option ℕ) (old new : Vehicle) (out : List DueReply) → HandlesMessage source target body active old new out → StepsUnits old new
at_gateway source target body None old new out x = kept old new (ap (λ (v : Vehicle). v.units) x.becomes)
at_gateway source target body (Some tester) old new out x = at_unit source target body (unit_at old.units target) old new out refl x

one_frame : (f : Frame) (old new : Vehicle) (out : List DueReply) → Handles f old new out → StepsUnits old new
one_frame (Activate source kind oem) old new out x = kept old new (ap (λ (v : Vehicle). v.units) x.becomes ∙ acts x.how source old)
one_frame (Message source target body) old new out x = at_gateway source target body old.gateway.active old new out x
one_frame (HeaderNack code) old new out x = kept old new (units_of old new x.becomes)
one_frame (Activated tester entity code oem) old new out x = kept old new (units_of old new x.becomes)
one_frame AliveAsk old new out x = kept old new (units_of old new x.becomes)
one_frame (AliveSay source) old new out x = kept old new (units_of old new x.becomes)
one_frame (Ack source target code before) old new out x = kept old new (units_of old new x.becomes)
one_frame (Nack source target code before) old new out x = kept old new (units_of old new x.becomes)
one_frame (Other kind payload) old new out x = kept old new (units_of old new x.becomes)

after_cut : (cut : Cut) (n : ℕ) (bytes : List ℕ) (old new : Vehicle) (out : List DueReply) → ((rest : List ℕ) (a b : Vehicle) (ws : List DueReply) → FeedsAll n rest a b ws → StepsUnits a b) → AfterCut cut (FeedsAll n) bytes old new out → StepsUnits old new
after_cut Partial n bytes old new out more (is, none) = kept old new (ap (λ (v : Vehicle). v.units) is)
after_cut (Wrong bad) n bytes old new out more (is, none) = kept old new (ap (λ (v : Vehicle). v.units) is)
after_cut (Whole kind payload rest) n bytes old new out more (mid, first, second, handles, rests, are) =
    all_on old.units mid.units new.units (one_frame (frame_of kind payload) old mid first handles) (more rest mid new second rests)

all_frames : (n : ℕ) (bytes : List ℕ) (old new : Vehicle) (out : List DueReply) → FeedsAll n bytes old new out → StepsUnits old new
all_frames zero bytes old new out (is, none) = kept old new (units_of old new is)
all_frames (suc n) bytes old new out x = after_cut (cut_frame bytes) n bytes old new out (all_frames n) x

fed_by : (bytes : List ℕ) (old new : Vehicle) (deaf : Bool) → MatchBool deaf (new ≡ old) (FeedsHearing bytes old new) → StepsUnits old new
fed_by bytes old new true x = kept old new (units_of old new x)
fed_by bytes old new false x =
    then_kept old x.mid new (ap (λ (v : Vehicle). v.units) x.becomes) (all_frames (suc (length (old.gateway.unfinished ++ bytes))) (old.gateway.unfinished ++ bytes) old x.mid x.out x.all)

fed : (bytes : List ℕ) (old new : Vehicle) → Feeds bytes old new → StepsUnits old new
fed bytes old new x = fed_by bytes old new old.gateway.deaf x

part : (bytes : List ℕ) (old new : Vehicle) → FeedsPart bytes old new → StepsUnits old new
part bytes old new x = elim x.broken [
  | inl is ↦ then_kept old x.mid new (units_of x.mid new is) (fed (take x.count bytes) old x.mid x.feeds)
  | inr is ↦ then_kept old x.mid new (ap (λ (v : Vehicle). v.units) is) (fed (take x.count bytes) old x.mid x.feeds)
]

sent_steps : (bytes : List ℕ) (old new : Vehicle) (r : Result Unit DeviceFault) → Sent bytes old new r → StepsUnits old new
sent_steps bytes old new (Ok x) s = fed bytes old new s.ok
sent_steps bytes old new (Err e) s = part bytes old new s.err

received_steps : (old new : Vehicle) → IsReceive old new → StepsUnits old new
received_steps old new x = elim x [
  | inl t ↦ along old.units _ new.units (sym (ap (λ (v : Vehicle). v.units) t.becomes)) (raised_steps (old.gateway.tick + 1) old.gateway.held old.units)
  | inr y ↦ elim y [
    | inl m ↦ kept old new (ap (λ (v : Vehicle). v.units) m.becomes)
    | inr (piece, c) ↦ kept old new (ap (λ (v : Vehicle). v.units) c.becomes)
  ]
]

redialed_steps : (old new : Vehicle) (r : Result Unit DeviceFault) → Redialed old new r → StepsUnits old new
redialed_steps old new (Ok x) s = kept old new (ap (λ (v : Vehicle). v.units) s.ok)
redialed_steps old new (Err e) s = elim s.err [ inl is ↦ kept old new (units_of old new is) | inr is ↦ kept old new (ap (λ (v : Vehicle). v.units) is) ]

pub are_unit_steps : AreUnitSteps
are_unit_steps = record {
  sent = sent_steps;
  received = received_steps;
  redialed = redialed_steps;
  same = λ v. all_same v.units;
  goes_on = λ a b c x y. all_on a.units b.units c.units x y;
}
