-- No call changes the address of a unit, its identifiers, or how many bytes it has.
use Rattle.std.proofs.Common.{◌≡◌, inl, inr, ℕ, suc, Bool, true, false, List, [], ◌∷◌, map, take, length, Option, Some, None, refl, ◌∙◌, ap}
use Rattle.std.specs.Prelude.{◌||◌, ◌==◌, nat_lt, not, ◌+◌, Result, OnOk, OnErr, Ok, Err, if◌then◌else◌}
use Rattle.std.proofs.lemmas.Bool.{cases_Bool}
use Rattle.doip_frame.specs.declared.frame.Bad.{Bad}
use Rattle.doip_frame.specs.declared.frame.Frame.{Frame}
use Rattle.flash_base.specs.ByteMaps.{MemoryMap, fill, has_each, put}
use Rattle.uds_codec.specs.Request.{Range, range_of, request_of, sid_of}
use Rattle.uds_codec.specs.declared.request.Request.{Request}
use Rattle.uds_codec.specs.declared.request.Request.TheVariants.{Session, Reset, ReadId, Seed, Key, Routine, Download, Upload, Transfer, Pull, Exit, Setting, Messages}
use Rattle.unit_model.specs.Unit.{ControlUnit, OpenTransfer, check_in, erase_in, exit_in, finish_in, give_in, has_level, ident_of, in_default, in_session, is_locked, is_repeat, key_in, block_number, obedient, obey, obey_in, programming, read_in, receive_in, refuse, routine}
use Rattle.unit_model.specs.Vehicle.{HeldAnswer, Vehicle}
use Rattle.unit_model.specs.declared.spec.Act.{Act}
use Rattle.unit_model.specs.declared.spec.Act.TheVariants as act
use Rattle.unit_model.specs.declared.spec.Until.{Until}
use Rattle.unit_model.specs.declared.spec.Until.TheVariants.{Times, Heard}
use Rattle.unit_sim.specs.Acting.{acting}
use Rattle.unit_sim.specs.Done.{acted, acted_in, at_once, fails, routine_of, waits}
use Rattle.unit_sim.specs.Sims.{Sim}
use Rattle.gateway_sim.specs.Handling.{Sent, handled}
use Rattle.gateway_sim.specs.Handling as sent
use Rattle.vehicle_world.specs.Feeding.{after, does, frame_done, frames_done, hears, is_known, nacked}
use Rattle.vehicle_world.specs.Running.{WentAll, WentPart}
use Rattle.vehicle_world.specs.Shapes.{Shape, shape, shapes}
use Rattle.vehicle_world.specs.States.{State, change_at, sim_at, unit_in, vehicle_in}
use Rattle.vehicle_world.specs.Worlds.{all_raised, raised, ticks_on}

-- ------ memory
fill_length : (at n x : ℕ) (m : MemoryMap) → length (fill at n x m) ≡ length m
fill_length at n x [] = refl
fill_length at n x (p ∷ ps) = ap suc (fill_length at n x ps)

put_length : (at : ℕ) (xs : List ℕ) (m : MemoryMap) → length (put at xs m) ≡ length m
put_length at xs [] = refl
put_length at xs (p ∷ ps) = ap suc (put_length at xs ps)

with_size : (u : ControlUnit) (m : MemoryMap) → length m ≡ length u.memory → shape (record u { memory = m }) ≡ shape u
with_size u m e = λ i. record { address = u.address; idents = u.idents; size = e i }

-- ------ the obedient step
abbrev Step : Type 0
Step = ControlUnit × List ℕ

abbrev Same : {B : Type 0} → ControlUnit → ControlUnit × B → Type 0
Same u step = shape step.0 ≡ shape u

either : {B : Type 0} (u : ControlUnit) (c : Bool) (a b : ControlUnit × B) → Same u a → Same u b → Same u (if c then a else b)
either u true a b p q = p
either u false a b p q = q

read_same : (u : ControlUnit) (did : ℕ) (value : Option (List ℕ)) → Same u (read_in u did value)
read_same u did None = refl
read_same u did (Some value) = refl

key_same : (u : ControlUnit) (level : ℕ) (key : List ℕ) (seed : Option (List ℕ)) → Same u (key_in u level key seed)
key_same u level key None = refl
key_same u level key (Some seed) = either u _ _ _ refl refl

erase_same : (u : ControlUnit) (range : Option Range) → Same u (erase_in u range)
erase_same u None = refl
erase_same u (Some r) =
    either u (r.size == 0 || not (length r.more == 0)) _ _ refl
    (either u (not (has_each r.at r.size u.memory)) _ _ refl (with_size u (fill r.at r.size 255 u.memory) (fill_length r.at r.size 255 u.memory)))

check_same : (u : ControlUnit) (id : ℕ) (range : Option Range) → Same u (check_in u id range)
check_same u id None = refl
check_same u id (Some r) =
    either u (r.size == 0 || not (length r.more == 32)) _ _ refl (either u (not (has_each r.at r.size u.memory)) _ _ refl (either u _ _ _ refl refl))

finish_same : (u : ControlUnit) (checked : List (ℕ × ℕ)) → Same u (finish_in u checked)
finish_same u [] = refl
finish_same u (r ∷ rs) = refl

routine_same : (u : ControlUnit) (id : ℕ) (option : List ℕ) → Same u (routine u id option)
routine_same u id option =
    either u (id == 65280) _ _ (either u (is_locked u) _ _ refl (erase_same u (range_of option)))
    (either u (is_locked u) _ _ refl
    (either u (id == 65281) _ _ (finish_same u u.checked) (either u (id == u.check) _ _ (check_same u id (range_of option)) refl)))

receive_same : (u : ControlUnit) (transfer : Option OpenTransfer) (counter : ℕ) (body : List ℕ) → Same u (receive_in u transfer counter body)
receive_same u None counter body = refl
receive_same u (Some t) counter body =
    either u t.up _ _ refl (either u (is_repeat t counter) _ _ refl (either u (not (counter == t.counter)) _ _ refl
    (either u (nat_lt (block_number u) (length body + 2)) _ _ refl (either u (nat_lt t.rest (length body)) _ _ refl
    (with_size u (put t.at body u.memory) (put_length t.at body u.memory))))))

give_same : (u : ControlUnit) (transfer : Option OpenTransfer) (counter : ℕ) → Same u (give_in u transfer counter)
give_same u None counter = refl
give_same u (Some t) counter =
    either u (not t.up) _ _ refl (either u (is_repeat t counter) _ _ refl (either u (t.rest == 0) _ _ refl (either u (not (counter == t.counter)) _ _ refl refl)))

exit_same : (u : ControlUnit) (transfer : Option OpenTransfer) → Same u (exit_in u transfer)
exit_same u None = refl
exit_same u (Some t) = either u (t.rest == 0) _ _ refl refl

kind_same : (u : ControlUnit) (kind : ℕ) (c : Bool) → shape (if c then in_default u else in_session u kind) ≡ shape u
kind_same u kind true = refl
kind_same u kind false = refl

programmed : (u : ControlUnit) (sid : ℕ) (step : Step) → Same u step → Same u (programming u sid step)
programmed u sid step same = either u (u.session == 2) step (refuse u sid 127) same refl

obey_same : (u : ControlUnit) (r : Request) → Same u (obey u r)
obey_same u (Session kind) = kind_same u kind (kind == 1)
obey_same u Reset = refl
obey_same u (ReadId did) = read_same u did (ident_of u.idents did)
obey_same u (Seed level) = programmed u 39 _ (either u (has_level u.key level) _ _ refl refl)
obey_same u (Key level key) = programmed u 39 _ (either u (has_level u.key level) _ _ (key_same u level key u.last_seed) refl)
obey_same u (Routine id option) = programmed u 49 _ (routine_same u id option)
obey_same u (Download width at size) = programmed u 52 _ (either u (is_locked u) _ _ refl (either u (not (has_each at size u.memory)) _ _ refl refl))
obey_same u (Upload width at size) = programmed u 53 _ (either u (is_locked u) _ _ refl (either u (not (has_each at size u.memory)) _ _ refl refl))
obey_same u (Transfer counter body) = programmed u 54 _ (receive_same u u.transfer counter body)
obey_same u (Pull counter) = programmed u 54 _ (give_same u u.transfer counter)
obey_same u Exit = programmed u 55 _ (exit_same u u.transfer)
obey_same u (Setting off) = either u (u.session == 1) _ _ refl refl
obey_same u (Messages off) = either u (u.session == 1) _ _ refl refl

obedient_same : (u : ControlUnit) (bytes : List ℕ) → Same u (obedient u bytes)
obedient_same u bytes = go (request_of bytes)
  where
    go : (r : Option Request) → Same u (obey_in u (sid_of bytes) r)
    go None = refl
    go (Some r) = obey_same u r

-- ------ the step with its troubles
fails_same : (u : ControlUnit) (id : Option ℕ) (status : ℕ) (step : Step) (bytes : List ℕ) (tick : ℕ) → Same u step → Same u (fails id status u step bytes tick)
fails_same u None status step bytes tick same = same
fails_same u (Some id) status step bytes tick same = either u _ _ (at_once step tick) refl same

waits_same : (u : ControlUnit) (ticks : ℕ) (until : Until) (step : Step) (bytes : List ℕ) (tick : ℕ) → Same u step → Same u (waits ticks until step bytes tick)
waits_same u ticks (Times times) step bytes tick same = same
waits_same u ticks (Heard unit sid) step bytes tick same = same

acted_same : (a : Act) (u : ControlUnit) (step : Step) (bytes : List ℕ) (tick : ℕ) → Same u step → Same u (acted a u step bytes tick)
acted_same (act.Refuse nrc) u step bytes tick same = either u _ (at_once step tick) _ same refl
acted_same (act.Odd body) u step bytes tick same = either u _ _ (at_once step tick) refl same
acted_same (act.Fail status) u step bytes tick same = fails_same u (routine_of (request_of bytes)) status step bytes tick same
acted_same act.Mute u step bytes tick same = refl
acted_same (act.Delay ticks) u step bytes tick same = same
acted_same (act.Busy times) u step bytes tick same = refl
acted_same (act.Pending ticks until) u step bytes tick same = waits_same u ticks until step bytes tick same

acted_in_same : (o : Option Act) (u : ControlUnit) (step : Step) (bytes : List ℕ) (tick : ℕ) → Same u step → Same u (acted_in o u step bytes tick)
acted_in_same None u step bytes tick same = same
acted_in_same (Some a) u step bytes tick same = acted_same a u step bytes tick same

-- ------ units in their order
abbrev Keeps : (Sim → Sim) → Type 0
Keeps f = (s : Sim) → shape (f s).unit ≡ shape s.unit

hear_keeps : (body : List ℕ) (tick : ℕ) → Keeps (after body tick)
hear_keeps body tick s = acted_in_same (acting (sid_of body) s.troubles) s.unit (obedient s.unit body) body tick (obedient_same s.unit body)

raise_keeps : (tick : ℕ) (h : HeldAnswer) → Keeps (raised tick h)
raise_keeps tick h s = elim (cases_Bool (s.unit.address == h.unit)) [ inl e ↦ rw e refl | inr e ↦ rw e refl ]

abbrev shapes_in : List Sim → List Shape
shapes_in sims = map shape (map unit_in sims)

change_keeps : (target : ℕ) (f : Sim → Sim) → Keeps f → (sims : List Sim) → shapes_in (change_at target f sims) ≡ shapes_in sims
change_keeps target f keeps [] = refl
change_keeps target f keeps (s ∷ ss) = go (s.unit.address == target) (change_keeps target f keeps ss)
  where
    go : (c : Bool) → shapes_in (change_at target f ss) ≡ shapes_in ss → shapes_in (if c then f s ∷ ss else s ∷ change_at target f ss) ≡ shapes_in (s ∷ ss)
    go true later = ap (λ (x : Shape). x ∷ shapes_in ss) (keeps s)
    go false later = ap (λ (xs : List Shape). shape s.unit ∷ xs) later

map_keeps : (f : Sim → Sim) → Keeps f → (sims : List Sim) → shapes_in (map f sims) ≡ shapes_in sims
map_keeps f keeps [] = refl
map_keeps f keeps (s ∷ ss) = (λ i. keeps s i ∷ map_keeps f keeps ss i)

raises_keep : (tick : ℕ) (held : List HeldAnswer) (sims : List Sim) → shapes_in (all_raised tick held sims) ≡ shapes_in sims
raises_keep tick [] sims = refl
raises_keep tick (h ∷ hs) sims = raises_keep tick hs (map (raised tick h) sims) ∙ map_keeps (raised tick h) (raise_keeps tick h) sims

-- ------ frames
hears_keep : (target : ℕ) (body : List ℕ) (o : Option Sim) (s : State) → shapes_in (hears target body o s).0.sims ≡ shapes_in s.sims
hears_keep target body None s = refl
hears_keep target body (Some u) s = change_keeps target (after body s.gate.gateway.tick) (hear_keeps body s.gate.gateway.tick) s.sims

does_keep : (what : Sent) (s : State) → shapes_in (does what s).0.sims ≡ shapes_in s.sims
does_keep sent.Nothing s = refl
does_keep (sent.Heard unit body) s = hears_keep unit body (sim_at unit s.sims) s
does_keep (sent.Refused unit code) s = change_keeps unit (nacked code) (λ t. refl) s.sims

frames_keep : (fs : List Frame) (s : State) → shapes_in (frames_done fs s).0.sims ≡ shapes_in s.sims
frames_keep [] s = refl
frames_keep (f ∷ fs) s =
    frames_keep fs (frame_done f s).0 ∙ does_keep (handled f (is_known f s) s.gate).1 (record s { gate = (handled f (is_known f s) s.gate).0 })

-- ------ calls
pub part_keeps : (fs : List Frame) (old : State) (new : Vehicle) → WentPart fs old new → shapes new ≡ shapes (vehicle_in old)
part_keeps fs old new w =
    ap shapes w.leaves ∙ ap (λ (s : State). shapes_in s.sims) w.went.state ∙ frames_keep (take w.count fs) old

pub all_keep : (fs : List Frame) (bad : Option Bad) (old new : State) → WentAll fs bad old new → shapes (vehicle_in new) ≡ shapes (vehicle_in old)
all_keep fs bad old new w =
    ap (λ (s : State). shapes_in s.sims) w.becomes ∙ ap (λ (s : State). shapes_in s.sims) w.went.state ∙ frames_keep fs old

-- a tick passed, or there was no memory
pub passed : {A E : Type 0} (r : Result A E) (s new : State) → OnOk r (new ≡ ticks_on s) → OnErr r (new ≡ s) → shapes (vehicle_in new) ≡ shapes (vehicle_in s)
passed (Ok x) s new ok err = ap (λ (t : State). shapes_in t.sims) ok ∙ raises_keep (s.gate.gateway.tick + 1) s.held s.sims
passed (Err e) s new ok err = ap (λ (t : State). shapes_in t.sims) err
