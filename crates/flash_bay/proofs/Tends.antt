-- The steps of a link that is tended: what each phase allows, and what a receive brings.
use Rattle.std.proofs.Common.{◌≡◌, ℕ, ◌+◌, ◌-◌, ◌≤◌, true, false, List, Ok, Err, Result, None, Some, refl, sym, ◌∙◌, ap, subst, arith}
use Rattle.std.specs.Prelude.{Bool, Option, not, ◌&&◌, nat_lt, is_none, if◌then◌else◌, IfOk, IfErr}
use Rattle.std.proofs.lemmas.Bool.{false≢true, and_parts}
use Rattle.bay_core.specs.Core.{link_stop, refused_stop}
use Rattle.bay_core.specs.declared.event.Event.TheVariants.{Tended}
use Rattle.bay_core.specs.declared.event.Heard.{Heard}
use Rattle.bay_core.specs.declared.event.Heard.TheVariants as heard
use Rattle.bay_core.specs.declared.event.Tend.TheVariants.{Dialed, Asked, Said, Polled}
use Rattle.bay_law.specs.Device.{HearsOnce, HeardAs}
use Rattle.bay_replay.specs.Bytes.{brings_bytes}
use Rattle.disk_model.specs.declared.device.DeviceFault.{DeviceFault}
use Rattle.flash_bay.proofs.Links.{tending_fed, tend_may}
use Rattle.flash_bay.specs.Receiving.{heard_of, is_tending}
use Rattle.flash_bay.specs.State.{BayState}
use Rattle.flash_plan.specs.declared.outcome.Outcome.{Outcome}
use Rattle.flash_plan.specs.declared.outcome.Outcome.TheVariants.{LinkLost, LinkRefused}
use Rattle.flash_run.specs.Need.{is_linked}
use Rattle.flash_run.specs.Run.{RunState, IsKept, core_of_run, is_stopped, may_take, starving, with_room}
use Rattle.gateway_link.specs.Calls.{CameAs, ReceivesOnce, SendsOnce, Spells, StraysOnce}
use Rattle.gateway_link.specs.declared.calls.Came.{Came}
use Rattle.run_model.specs.Link.{Phase, is_up}
use Rattle.run_model.specs.Link as phase
use Rattle.shop_model.specs.History.{History}
use Rattle.unit_model.specs.declared.reply.Got.{Got}
use Rattle.unit_model.specs.declared.reply.Got.TheVariants.{Quiet, Bytes}

-- ------ the state that a bay is seen as
pub tending_in : {S : Type 0} (b : BayState S) (r : RunState) (first shop : S) (a : ℕ) → ◌≡◌ {A = BayState S} (record { run = r; first = first; shop = shop; slots = a }) b → is_tending b.run ≡ true → is_tending r ≡ true
tending_in {S = S} b r first shop a view due = subst (λ (x : BayState S). is_tending x.run ≡ true) (sym view) due

pub phase_in : {S : Type 0} (b : BayState S) (r : RunState) (first shop : S) (a : ℕ) (p : Phase) → ◌≡◌ {A = BayState S} (record { run = r; first = first; shop = shop; slots = a }) b → (core_of_run b.run).link.phase ≡ p → (core_of_run r).link.phase ≡ p
phase_in {S = S} b r first shop a p view is = subst (λ (x : BayState S). (core_of_run x.run).link.phase ≡ p) (sym view) is

-- ------ what each phase allows
pub dial_may : (r : RunState) (lost : Bool) → is_tending r ≡ true → (core_of_run r).link.phase ≡ phase.Down → may_take r (Tended (Dialed lost)) ≡ true
dial_may r lost due is = tend_may r (Dialed lost) due (ap (λ (p : Phase). phase.is_down p) is)

pub ask_may : (r : RunState) (lost : Bool) → is_tending r ≡ true → (core_of_run r).link.phase ≡ phase.Dialed → may_take r (Tended (Asked lost)) ≡ true
ask_may r lost due is = tend_may r (Asked lost) due (ap (λ (p : Phase). phase.is_dialed p) is)

owes_up : (up owes : Bool) → not (up && not owes) ≡ true → up ≡ true → (up && owes) ≡ true
owes_up true true not_both is = refl
owes_up true false not_both is = absurd (false≢true not_both)
owes_up false owes not_both is = is

pub say_may : (r : RunState) (lost : Bool) → is_tending r ≡ true → (core_of_run r).link.phase ≡ phase.Up → may_take r (Tended (Said lost)) ≡ true
say_may r lost due is =
    tend_may r (Said lost) due
    (owes_up (is_up (core_of_run r).link.phase) (core_of_run r).link.owes (and_parts (not (is_stopped r)) (not (is_linked (core_of_run r))) due).1 (ap (λ (p : Phase). is_up p) is))

-- a receive is no message that was kept
pub not_kept : (out : List ℕ) (a : Result Got DeviceFault) → HeardAs out a heard.Kept → ⊥
not_kept out (Ok Quiet) is = kept_quiet is
  where
    kept_quiet : heard.Kept ≡ heard.Quiet → ⊥
    kept_quiet e = cc
not_kept out (Ok (Bytes n)) is = kept_piece _ is.0
  where
    kept_piece : (bytes : List ℕ) → heard.Kept ≡ heard.Piece bytes → ⊥
    kept_piece bytes e = cc
not_kept out (Err x) is = kept_lost is
  where
    kept_lost : heard.Kept ≡ heard.Lost → ⊥
    kept_lost e = cc

pub poll_may : (tv : Bool) (old new : History) (r : RunState) (h : Heard) → HearsOnce tv old new h → is_tending r ≡ true → (core_of_run r).link.phase ≡ phase.Asked → may_take r (Tended (Polled h)) ≡ true
poll_may tv old new r heard.Kept did due is = absurd (not_kept did.out did.answer did.says)
poll_may tv old new r heard.Quiet did due is = tend_may r (Polled heard.Quiet) due (ap (λ (p : Phase). phase.is_asked p) is)
poll_may tv old new r (heard.Piece bytes) did due is = tend_may r (Polled (heard.Piece bytes)) due (ap (λ (p : Phase). phase.is_asked p) is)
poll_may tv old new r heard.Lost did due is = tend_may r (Polled heard.Lost) due (ap (λ (p : Phase). phase.is_asked p) is)

-- a bay that is not stopped has no denied activation
pub not_refused : (r : RunState) (code : ℕ) → IsKept r → is_tending r ≡ true → phase.Refused code ≡ (core_of_run r).link.phase → ⊥
not_refused r code is_kept due is =
    stops (nat_lt r.rules.relinks (core_of_run r).link.losses) (LinkLost (core_of_run r).link.losses)
    (ap (λ (p : Phase). if nat_lt r.rules.relinks (core_of_run r).link.losses then Some (LinkLost (core_of_run r).link.losses) else refused_stop p) is ∙ running)
  where
    none_of : (o : Option Outcome) → is_none o ≡ true → o ≡ None
    none_of None e = refl
    none_of (Some x) e = absurd (false≢true e)

    stops : (b : Bool) (o : Outcome) → (if b then Some o else Some (LinkRefused code)) ≡ None → ⊥
    stops true o e = cc
    stops false o e = cc

    running : link_stop r.rules (core_of_run r).link ≡ None
    running = is_kept.settled.running (none_of (core_of_run r).halt.stop (tending_fed r due).1)

-- ------ frames
pub frame_is : {E : Type 0} (made : Result (List ℕ) E) (b bytes : List ℕ) → made ≡ Ok b → IfOk made (Spells bytes) → Spells bytes b
frame_is {E = E} made b bytes is says = subst (λ (x : Result (List ℕ) E). IfOk x (Spells bytes)) is says

-- ------ a receive
came_as : (out : List ℕ) (a : Result Got DeviceFault) (c : Came) → CameAs out a c → HeardAs out a (heard_of c)
came_as out (Ok Quiet) c is = ap heard_of is
came_as out (Ok (Bytes n)) c is = (ap heard_of is.0, is.1, is.2)
came_as out (Err x) c is = ap heard_of is

pub heard_once : (tv : Bool) (old new : History) (c : Came) (h : Heard) → h ≡ heard_of c → ReceivesOnce tv old new c → HearsOnce tv old new h
heard_once tv old new c h is did =
    subst (λ (x : Heard). HearsOnce tv old new x) (sym is)
    (record { out = did.out; room = omega (arith, did.size); answer = did.answer; says = came_as did.out did.answer c did.says; call = did.call; linked = did.linked; vehicle = did.vehicle })

bytes_of : (out : List ℕ) (a : Result Got DeviceFault) (h : Heard) → brings_bytes h ≡ true → HeardAs out a h → (size : ℕ) × (a ≡ Ok (Bytes size))
bytes_of out (Ok Quiet) h brings is = absurd (false≢true (sym (ap (λ (x : Heard). brings_bytes x) is) ∙ brings))
bytes_of out (Ok (Bytes n)) h brings is = (n, refl)
bytes_of out (Err x) h brings is = absurd (false≢true (sym (ap (λ (x : Heard). brings_bytes x) is) ∙ brings))

-- bytes for which there was no memory afterwards
pub stray_of : (tv : Bool) (old new : History) (h : Heard) → brings_bytes h ≡ true → HearsOnce tv old new h → StraysOnce tv old new
stray_of tv old new h brings did =
    let bytes = bytes_of did.out did.answer h brings did.says in
    record { out = did.out; size = bytes.0; answer = did.answer; says = bytes.1; call = did.call; linked = did.linked; vehicle = did.vehicle }

pub brings_of : (b : Bool) → (b ≡ false → false ≡ true) → b ≡ true
brings_of true free = refl
brings_of false free = absurd (false≢true (free refl))

-- ------ a run that no memory stopped behind a receive
pub starving_is : (r r1 r2 : RunState) → r1 ≡ with_room 1 r → r2 ≡ starving r1 → r2 ≡ record r { starved = true; room = r.room + 1 - 1 }
starving_is r r1 r2 room did = did ∙ ap (λ (x : RunState). starving x) room

pub starved_is : (r r1 r2 : RunState) → r1 ≡ with_room 1 r → r2 ≡ record r1 { starved = true } → r2 ≡ record r { starved = true; room = r.room + 1 }
starved_is r r1 r2 room did = did ∙ ap (λ (x : RunState). record x { starved = true }) room

pub room_back : (n : ℕ) → n ≤ n + 1 - 1
room_back n = omega arith

pub room_more : (n : ℕ) → n ≤ n + 1
room_more n = omega arith

-- ------ a frame that was sent is the one that is due
pub sent_as_due : (tv : Bool) (old new : History) (lost : Bool) (slice frame said due : List ℕ) → slice ≡ frame → frame ≡ said → said ≡ due → SendsOnce tv slice old new lost → SendsOnce tv due old new lost
sent_as_due tv old new lost slice frame said due a b d did = subst (λ (f : List ℕ). SendsOnce tv f old new lost) (a ∙ b ∙ d) did

pub if_err : {A E : Type 0} (r : Result A E) (P : Type 0) → P → IfErr r (λ x. P)
if_err (Ok x) P holds = tt
if_err (Err e) P holds = holds
