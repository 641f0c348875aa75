-- What a call of the link keeps: a dial, any send, any receive, and a receive for which there was no memory.
use Rattle.std.proofs.Common.{◌≡◌, ◌⊎◌, inl, inr, ℕ, ◌+◌, ◌<◌, ◌≤◌, true, false, List, [], ◌∷◌, ◌++◌, length, take, Ok, Err, refl, sym, ◌∙◌, ap, subst, arith, Result, length-append, length-take}
use Rattle.std.specs.Prelude.{Bool, IsTrue, IsErr, IsOk, is_err, not, min, ◌==◌, ◌-◌, ◌^◌}
use Rattle.std.proofs.lemmas.Bool.{false≢true, and_from, eq-eqb}
use Rattle.barrier_board.specs.Board.{has_entry as is_found}
use Rattle.bay_core.specs.Core.{Core, core_after}
use Rattle.bay_core.specs.Legal.{is_allowed}
use Rattle.bay_core.specs.Moves.{MovesVehicle, MovesRecords, Receives, FeedsOr, DialsOr, request_frame}
use Rattle.bay_core.specs.declared.event.Event.{Event}
use Rattle.bay_core.specs.declared.event.Event.TheVariants.{Sent, Collected, Tended}
use Rattle.bay_core.specs.declared.event.Heard.{Heard}
use Rattle.bay_core.specs.declared.event.Tend.TheVariants.{Dialed, Asked, Said, Polled}
use Rattle.disk_model.specs.declared.device.DeviceFault.{DeviceFault}
use Rattle.doip_frame.specs.Frame.{activate_bytes, alive_say_bytes}
use Rattle.flash_base.specs.Counts.{Rises}
use Rattle.flash_base.specs.Lists.{same_bytes}
use Rattle.disk_model.specs.Disk.{DiskState}
use Rattle.flash_plan.specs.declared.unit.LinkRules.{LinkRules}
use Rattle.flash_plan.specs.declared.unit.UnitPlan.{UnitPlan}
use Rattle.flash_run.specs.Run.{RunState, IsKept, core_of_run, with_event}
use Rattle.gateway_link.specs.Calls.{RedialsOnce, SendsOnce}
use Rattle.journal_steps.proofs.Laters.{later_then}
use Rattle.outcome_law.specs.LinkCounting.{is_fault, fault_of, is_heard_fault, is_garbled}
use Rattle.outcome_law.specs.Rising.{RoseBy}
use Rattle.run_model.specs.Link.{Link, dialed_link, is_live as lives}
use Rattle.shop_model.specs.History as model
use Rattle.shop_model.specs.History.{History, Call, LAST, LinkCall, Receive, Received, Redial, Redialed, disk_now, vehicle_now}
use Rattle.shop_model.specs.Through.{IsShownCall, IsShownReceive, AreShown}
use Rattle.unit_model.specs.Poll.{Carries, IsShown, IsPlain}
use Rattle.unit_model.specs.Vehicle.{Vehicle}
use Rattle.unit_model.specs.declared.reply.Got.{Got}
use Rattle.unit_model.specs.declared.reply.Got.TheVariants.{Quiet, Bytes}
use Rattle.bay_law.specs.Bay.{JournalState, IsBay, IsSmallEvent, IsSmall}
use Rattle.bay_law.specs.Device.{HearsOnce, HeardAs}
use Rattle.bay_law.proofs.Keeping.{sentence_link, journal_still}
use Rattle.bay_law.proofs.Parts.{shown_before, shown_call, link_later}
use Rattle.bay_law.proofs.Steps.{event_keeps, told_more, told_joint}

-- ------ any call of the link
-- an event of the link: it records nothing
pub record IsLinkEvent (rules : LinkRules) (P : List UnitPlan) (e : Event) : Type 0 where
  pub recorded : (c : Core) → (core_after rules P e c).recorded ≡ c.recorded
  pub doubted : (c : Core) → (core_after rules P e c).doubted ≡ c.doubted
  pub failed : (c : Core) → (core_after rules P e c).halt.failed ≡ c.halt.failed
  pub still : (R : _) → MovesRecords e R R
  pub small : IsSmallEvent e

pub link_keeps : {T : Type 0} (td tv : Bool) (r : RunState) (e : Event) (call : Call) (first old new : History) (a : Result T DeviceFault) (j : JournalState) (K : DiskState → Type 0) → IsKept r → r.starved ≡ false → is_allowed r.plan (core_of_run r) e ≡ true → IsLinkEvent r.rules r.plan e
    → old.moment ≤ LAST → LinkCall call old new a → (lives (core_after r.rules r.plan e (core_of_run r)).link.phase ≡ true → IsTrue new.linked)
    → (IsTrue tv → IsShownCall call (vehicle_now old) (vehicle_now new) ⊎ IsErr a → MovesVehicle r.rules r.plan (core_of_run r) e (vehicle_now old) (vehicle_now new))
    → (IsTrue tv → RoseBy (fault_of (is_fault e (vehicle_now old) (vehicle_now new))) old.link_faults new.link_faults)
    → IsBay td tv r first old j K → IsBay td tv (with_event e r) first new j K
link_keeps td tv r e call first old new a j K kept fed ok of bounded did linked moves rise is =
    let later = link_later call old new a bounded did in
    let c : Core = core_of_run r in
    event_keeps td tv r e first new j K is.small of.small is.ordered (later_then first old new is.is_later later) linked
    (λ f. let was : c.halt.failed ≡ true = sym (of.failed c) ∙ f in omega (arith, is.failed was, later.disk_faults))
    (journal_still td r.plan c (core_after r.rules r.plan e c) j K (disk_now old) (disk_now new) (of.recorded c) (of.doubted c) (of.failed c) did.disk is.journal)
    (λ t shown. told_more r e first old new fed (moves t (was_shown shown)) (rise t) (is.told t (shown_before first.moment new.moment old new later later.later shown)))
    (λ d t. sentence_link r.rules r.plan (is_found r.found) c e call first old new a kept.accepted ok bounded did (λ s. moves t (inl s)) of.still (is.journal.covers d) (λ shown. told_joint r first old kept fed (is.told t shown)) (is.sentence d t))
  where
    order : (a b : ℕ) → a ≤ b → (a < b) ⊎ (a ≡ b)
    order a b le = grind (arith, le)

    was_shown : AreShown new first.moment new.moment → IsShownCall call (vehicle_now old) (vehicle_now new) ⊎ IsErr a
    was_shown shown = elim (order old.moment LAST bounded) [
      | inl lt ↦ inl (shown_call call first.moment new.moment old new a did.passes lt is.is_later.later (omega (arith, did.passes.moment, lt)) shown)
      | inr last ↦ inr (did.passes.last last)
    ]

-- ------ a dial
dials_as : (v w : Vehicle) (a : Result Unit DeviceFault) → Redialed v w a → DialsOr (is_err a) v w
dials_as v w (Ok x) r = r.ok
dials_as v w (Err x) r = r.err

dials : (v w : Vehicle) (lost : Bool) (a : Result Unit DeviceFault) → lost ≡ is_err a → Redialed v w a → DialsOr lost v w
dials v w lost a says r = subst (λ (b : Bool). DialsOr b v w) (sym says) (dials_as v w a r)

ok_of : (a : Result Unit DeviceFault) → false ≡ is_err a → IsOk a
ok_of (Ok x) e = refl
ok_of (Err x) e = absurd (false≢true e)

not_err : (a : Result Unit DeviceFault) → false ≡ is_err a → IsErr a → ⊥
not_err a says err = false≢true (says ∙ err)

dial_linked : (tv : Bool) (lost : Bool) (l : Link) (old new : History) → old.moment ≤ LAST → RedialsOnce tv old new lost → lives (dialed_link lost l).phase ≡ true → IsTrue new.linked
dial_linked tv true l old new bounded did live = absurd (false≢true live)
dial_linked tv false l old new bounded did live = elim (below old.moment LAST bounded) [
  | inl lt ↦ (did.linked lt).1 (ok_of did.answer did.says)
  | inr last ↦ absurd (not_err did.answer did.says (did.call.passes.last last))
]
  where
    below : (a b : ℕ) → a ≤ b → (a < b) ⊎ (a ≡ b)
    below a b le = grind (arith, le)

-- ------ a send
sends_as : (frame : List ℕ) (v w : Vehicle) (lost : Bool) (a : Result Unit DeviceFault) → lost ≡ is_err a → model.Sent frame v w a → FeedsOr lost frame v w
sends_as frame v w lost (Ok x) says s = subst (λ (b : Bool). FeedsOr b frame v w) (sym says) s.ok
sends_as frame v w lost (Err x) says s = subst (λ (b : Bool). FeedsOr b frame v w) (sym says) s.err

pub lost_rise : (lost : Bool) (a : Result Unit DeviceFault) (x y : ℕ) → lost ≡ is_err a → x ≤ y → (IsErr a → Rises x y) → RoseBy (fault_of lost) x y
lost_rise true a x y says le fault = omega (arith, fault (sym says))
lost_rise false a x y says le fault = omega (arith, le)

-- ------ a receive
left_cancel : (xs ys zs : List ℕ) → xs ++ ys ≡ xs ++ zs → ys ≡ zs
left_cancel [] ys zs e = e
left_cancel (x ∷ xs) ys zs e = left_cancel xs ys zs (ap tail_of e)
  where
    tail_of : List ℕ → List ℕ
    tail_of [] = []
    tail_of (w ∷ ws) = ws

carried_of : (piece : List ℕ) (v w : Vehicle) → Carries piece v w → w.gateway.carried ≡ v.gateway.carried ++ piece
carried_of piece v w c = ap (λ (x : Vehicle). x.gateway.carried) c.becomes

-- the bytes that came are those that are shown
shown_piece : (piece : List ℕ) (v w : Vehicle) → 1 ≤ length piece → Carries piece v w → IsShownReceive v w → IsShown piece v w
shown_piece piece v w some carries (inl ticks) =
    let later : w.gateway.tick ≡ v.gateway.tick + 1 = ap (λ (x : Vehicle). x.gateway.tick) ticks.becomes in
    let same : w.gateway.tick ≡ v.gateway.tick = ap (λ (x : Vehicle). x.gateway.tick) carries.becomes in
    absurd (omega (arith, later, same))
shown_piece piece v w some carries (inr (inl misses)) =
    let none : w.gateway.carried ≡ v.gateway.carried = ap (λ (x : Vehicle). x.gateway.carried) misses.becomes in
    let more : length w.gateway.carried ≡ length v.gateway.carried + length piece = ap (λ (xs : List ℕ). length xs) (carried_of piece v w carries) ∙ length-append v.gateway.carried piece in
    absurd (omega (arith, more, ap (λ (xs : List ℕ). length xs) none, some))
shown_piece piece v w some carries (inr (inr (other, shown))) =
    let same : other ≡ piece = left_cancel v.gateway.carried other piece (sym (carried_of other v w shown.carries) ∙ carried_of piece v w carries) in
    subst (λ (p : List ℕ). IsShown p v w) same shown

some_taken : (n : ℕ) (out : List ℕ) → 1 ≤ n → n ≤ length out → 1 ≤ length (take n out)
some_taken n out some few = let is : length (take n out) ≡ min n (length out) = length-take n out in omega (arith, is, some, few)

hears_as : (out : List ℕ) (C : Type 0) (v w : Vehicle) (a : Result Got DeviceFault) (h : Heard) → HeardAs out a h → Received out C v w a → IsShownReceive v w ⊎ IsErr a → Receives h v w
hears_as out C v w (Ok Quiet) h says r s = subst (λ (x : Heard). Receives x v w) (sym says) r
hears_as out C v w (Ok (Bytes n)) h says r (inl s) = subst (λ (x : Heard). Receives x v w) (sym says.0) (shown_piece (take n out) v w (some_taken n out says.1 says.2) r.0 s)
hears_as out C v w (Ok (Bytes n)) h says r (inr s) = absurd (false≢true s)
hears_as out C v w (Err e) h says r s = subst (λ (x : Heard). Receives x v w) (sym says) r

same_self : (xs : List ℕ) → same_bytes xs xs ≡ true
same_self [] = refl
same_self (x ∷ xs) = and_from (x == x) (same_bytes xs xs) (eq-eqb x x refl) (same_self xs)

rises_or : (x y : ℕ) → Rises x y ⊎ (Rises x y → ⊥)
rises_or x y = elim (over (min (x + 1) (2 ^ 64 - 1)) y) [ inl le ↦ inl le | inr lt ↦ inr (λ r. omega (arith, r, lt)) ]
  where
    over : (a b : ℕ) → (a ≤ b) ⊎ (b < a)
    over a b = grind arith

-- what was garbled was counted
garbled_rise : (piece : List ℕ) (v w : Vehicle) (x y : ℕ) → x ≤ y → ((Rises x y → ⊥) → IsPlain piece v w) → RoseBy (fault_of (is_garbled piece v w)) x y
garbled_rise piece v w x y le plain = elim (rises_or x y) [
  | inl rose ↦ at_most (is_garbled piece v w) rose
  | inr clean ↦ (let is : is_garbled piece v w ≡ false = ap (λ (b : Bool). not b) (ap (λ (xs : List ℕ). same_bytes xs (piece ++ w.gateway.ready)) (plain clean).ready ∙ same_self (piece ++ w.gateway.ready)) in
      subst (λ (b : Bool). RoseBy (fault_of b) x y) (sym is) (omega (arith, le)))
]
  where
    at_most : (b : Bool) → Rises x y → RoseBy (fault_of b) x y
    at_most true rose = omega (arith, rose)
    at_most false rose = omega (arith, le)

heard_rise : (out : List ℕ) (v w : Vehicle) (x y : ℕ) (a : Result Got DeviceFault) (h : Heard) → HeardAs out a h → Received out (Rises x y → ⊥) v w a → x ≤ y → (IsErr a → Rises x y) → RoseBy (fault_of (is_heard_fault h v w)) x y
heard_rise out v w x y (Ok Quiet) h says r le fault = subst (λ (k : Heard). RoseBy (fault_of (is_heard_fault k v w)) x y) (sym says) (omega (arith, le))
heard_rise out v w x y (Ok (Bytes n)) h says r le fault = subst (λ (k : Heard). RoseBy (fault_of (is_heard_fault k v w)) x y) (sym says.0) (garbled_rise (take n out) v w x y le r.1)
heard_rise out v w x y (Err e) h says r le fault = subst (λ (k : Heard). RoseBy (fault_of (is_heard_fault k v w)) x y) (sym says) (omega (arith, fault refl))

small_heard : (out : List ℕ) (a : Result Got DeviceFault) (h : Heard) → length out ≤ 4096 → HeardAs out a h → IsSmall h
small_heard out (Ok Quiet) h room says = subst (λ (x : Heard). IsSmall x) (sym says) tt
small_heard out (Ok (Bytes n)) h room says =
    let few : length (take n out) ≡ min n (length out) = length-take n out in
    let high : length (take n out) ≤ 4096 = omega (arith, few, room) in
    subst (λ (x : Heard). IsSmall x) (sym says.0) (some_taken n out says.1 says.2, high)
small_heard out (Err e) h room says = subst (λ (x : Heard). IsSmall x) (sym says) tt

module _ (td tv : Bool) (r : RunState) (first old new : History) (j : JournalState) (K : DiskState → Type 0) (kept : IsKept r) (fed : r.starved ≡ false) (bounded : old.moment ≤ LAST) (is : IsBay td tv r first old j K) where
  pub dial_keeps : (lost : Bool) → is_allowed r.plan (core_of_run r) (Tended (Dialed lost)) ≡ true → RedialsOnce tv old new lost → IsBay td tv (with_event (Tended (Dialed lost)) r) first new j K
  dial_keeps lost ok did =
      link_keeps td tv r (Tended (Dialed lost)) Redial first old new did.answer j K kept fed ok (record { recorded = λ c. refl; doubted = λ c. refl; failed = λ c. refl; still = λ R. refl; small = tt }) bounded did.call
      (λ live. dial_linked tv lost (core_of_run r).link old new bounded did live)
      (λ t s. dials (vehicle_now old) (vehicle_now new) lost did.answer did.says (did.vehicle t))
      (λ t. lost_rise lost did.answer old.link_faults new.link_faults did.says did.call.never_falls did.call.fault) is

  -- the routing activation was asked for
  pub ask_keeps : (lost : Bool) → is_allowed r.plan (core_of_run r) (Tended (Asked lost)) ≡ true → IsTrue old.linked → SendsOnce tv (activate_bytes r.rules.tester) old new lost → IsBay td tv (with_event (Tended (Asked lost)) r) first new j K
  ask_keeps lost ok linked did =
      link_keeps td tv r (Tended (Asked lost)) (model.Send (activate_bytes r.rules.tester)) first old new did.answer j K kept fed ok (record { recorded = λ c. refl; doubted = λ c. refl; failed = λ c. refl; still = λ R. refl; small = tt }) bounded did.call (λ l. did.linked ∙ linked)
      (λ t s. sends_as (activate_bytes r.rules.tester) (vehicle_now old) (vehicle_now new) lost did.answer did.says (did.vehicle t))
      (λ t. lost_rise lost did.answer old.link_faults new.link_faults did.says did.call.never_falls did.call.fault) is

  -- an alive check was answered
  pub say_keeps : (lost : Bool) → is_allowed r.plan (core_of_run r) (Tended (Said lost)) ≡ true → IsTrue old.linked → SendsOnce tv (alive_say_bytes r.rules.tester) old new lost → IsBay td tv (with_event (Tended (Said lost)) r) first new j K
  say_keeps lost ok linked did =
      link_keeps td tv r (Tended (Said lost)) (model.Send (alive_say_bytes r.rules.tester)) first old new did.answer j K kept fed ok (record { recorded = λ c. refl; doubted = λ c. refl; failed = λ c. refl; still = λ R. refl; small = tt }) bounded did.call (λ l. did.linked ∙ linked)
      (λ t s. sends_as (alive_say_bytes r.rules.tester) (vehicle_now old) (vehicle_now new) lost did.answer did.says (did.vehicle t))
      (λ t. lost_rise lost did.answer old.link_faults new.link_faults did.says did.call.never_falls did.call.fault) is

  -- a request was sent: the frame is that of the script's next request
  pub sent_keeps : (u number : ℕ) (lost : Bool) → is_allowed r.plan (core_of_run r) (Sent u number lost) ≡ true → IsTrue old.linked → SendsOnce tv (request_frame r.rules r.plan (core_of_run r) u) old new lost → IsBay td tv (with_event (Sent u number lost) r) first new j K
  sent_keeps u number lost ok linked did =
      link_keeps td tv r (Sent u number lost) (model.Send (request_frame r.rules r.plan (core_of_run r) u)) first old new did.answer j K kept fed ok (record { recorded = λ c. refl; doubted = λ c. refl; failed = λ c. refl; still = λ R. refl; small = tt }) bounded did.call (λ l. did.linked ∙ linked)
      (λ t s. sends_as (request_frame r.rules r.plan (core_of_run r) u) (vehicle_now old) (vehicle_now new) lost did.answer did.says (did.vehicle t))
      (λ t. lost_rise lost did.answer old.link_faults new.link_faults did.says did.call.never_falls did.call.fault) is

  -- an answer of a unit was looked for by a receive
  pub collected_keeps : (u : ℕ) (h : Heard) → is_allowed r.plan (core_of_run r) (Collected u h) ≡ true → IsTrue old.linked → HearsOnce tv old new h → IsBay td tv (with_event (Collected u h) r) first new j K
  collected_keeps u h ok linked did =
      link_keeps td tv r (Collected u h) Receive first old new did.answer j K kept fed ok (record { recorded = λ c. refl; doubted = λ c. refl; failed = λ c. refl; still = λ R. refl; small = small_heard did.out did.answer h did.room did.says }) bounded did.call (λ l. did.linked ∙ linked)
      (λ t s. hears_as did.out _ (vehicle_now old) (vehicle_now new) did.answer h did.says (did.vehicle t) s)
      (λ t. heard_rise did.out (vehicle_now old) (vehicle_now new) old.link_faults new.link_faults did.answer h did.says (did.vehicle t) did.call.never_falls did.call.fault) is

  -- the answer to the activation was looked for
  pub polled_keeps : (h : Heard) → is_allowed r.plan (core_of_run r) (Tended (Polled h)) ≡ true → IsTrue old.linked → HearsOnce tv old new h → IsBay td tv (with_event (Tended (Polled h)) r) first new j K
  polled_keeps h ok linked did =
      link_keeps td tv r (Tended (Polled h)) Receive first old new did.answer j K kept fed ok (record { recorded = λ c. refl; doubted = λ c. refl; failed = λ c. refl; still = λ R. refl; small = small_heard did.out did.answer h did.room did.says }) bounded did.call (λ l. did.linked ∙ linked)
      (λ t s. hears_as did.out _ (vehicle_now old) (vehicle_now new) did.answer h did.says (did.vehicle t) s)
      (λ t. heard_rise did.out (vehicle_now old) (vehicle_now new) old.link_faults new.link_faults did.answer h did.says (did.vehicle t) did.call.never_falls did.call.fault) is
