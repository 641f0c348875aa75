-- A request that was made before is sent: it may be, its frame is the one that is due, and what it keeps of the bay.
use Rattle.std.proofs.Common.{◌≡◌, ◌≢◌, ℕ, ◌+◌, ◌-◌, ◌≤◌, true, false, List, refl, sym, ◌∙◌, ap, subst, arith}
use Rattle.std.specs.Prelude.{Bool, IsTrue, not, ◌||◌, is_some}
use Rattle.std.proofs.lemmas.Bool.{false≢true, and_parts}
use Rattle.bay_core.proofs.Allowed.{SentFacts, sent_facts}
use Rattle.bay_core.specs.Legal.{is_allowed}
use Rattle.bay_core.specs.Moves.{request_frame}
use Rattle.bay_core.specs.declared.event.Event.{Event}
use Rattle.bay_core.specs.declared.event.Event.TheVariants.{Sent}
use Rattle.bay_law.proofs.Links.{sent_keeps}
use Rattle.gateway_link.specs.Calls.{SendsOnce}
use Rattle.doip_frame.specs.Frame.{message_bytes}
use Rattle.flash_bay.proofs.Links.{roomed_event}
use Rattle.flash_bay.specs.Calls.{SendsRequest}
use Rattle.flash_bay.specs.Sending.{IsReadyFor, SendsReady, sent_as, spot_in}
use Rattle.flash_bay.specs.State.{BayState, IsBayOf, state_of}
use Rattle.flash_bay.specs.declared.sending.SentReady.{SentReady}
use Rattle.flash_bay.specs.declared.sending.SentReady.TheVariants.{Stale}
use Rattle.flash_journal.specs.Kept.{IsKeptOn}
use Rattle.flash_journal.specs.declared.journal.Journal.{Journal}
use Rattle.flash_plan.specs.Plan.{plan_of}
use Rattle.flash_plan.specs.declared.unit.UnitPlan.{UnitPlan}
use Rattle.flash_run.specs.Need.{AreDue, need_of}
use Rattle.flash_run.specs.Run.{RunState, IsKept, core_of_run, with_event, with_room, may_take, is_closing}
use Rattle.flash_run.specs.declared.need.Need.TheVariants as need
use Rattle.run_model.proofs.Phases.{up_live}
use Rattle.run_model.specs.Places.{needs_request}
use Rattle.run_model.specs.Script.{Place, AtIdent, AtBegin, AtProgram, AtSeed, AtKey, AtErase, AtDownload, AtBlock, AtExit, AtCheck, AtMark, AtFinish, AtReset, AtDone, AtEnd, request_at}
use Rattle.shop_model.specs.History.{History, LAST}
use Rattle.unit_session.specs.Prepared.{ReadyState, ready_bytes}
use Rattle.unit_session.specs.Spots.{IsAsking, IsSpotOf, request_by}
use Rattle.unit_session.specs.declared.spot.Spot.{Spot}

-- ------ what is due
needs_of : (u : UnitPlan) (p : Place) → is_some (request_at u p) ≡ true → needs_request p ≡ true
needs_of u (AtIdent w ws) e = refl
needs_of u AtBegin e = absurd (false≢true e)
needs_of u AtProgram e = refl
needs_of u (AtSeed level) e = refl
needs_of u (AtKey level seed) e = refl
needs_of u (AtErase c) e = refl
needs_of u (AtDownload c) e = refl
needs_of u (AtBlock c b) e = refl
needs_of u (AtExit c) e = refl
needs_of u (AtCheck c) e = refl
needs_of u (AtMark c) e = absurd (false≢true e)
needs_of u AtFinish e = refl
needs_of u AtReset e = refl
needs_of u AtDone e = absurd (false≢true e)
needs_of u (AtEnd outcome) e = absurd (false≢true e)

module _ (r : RunState) (u : ℕ) (due : AreDue r) (is : need_of r u ≡ need.Send) where
  pub may_send : (n : ℕ) (lost : Bool) → n ≡ ((core_of_run r).slots u).talk.number → may_take r (Sent u n lost) ≡ true
  may_send n lost number = subst (λ (k : ℕ). may_take r (Sent u k lost) ≡ true) (sym number) (due.send u lost is)

  facts : SentFacts r.plan (core_of_run r) u ((core_of_run r).slots u).talk.number
  facts =
      let e : Event = Sent u ((core_of_run r).slots u).talk.number false in
      sent_facts r.plan (core_of_run r) u ((core_of_run r).slots u).talk.number false (and_parts (not r.starved || is_closing e) (is_allowed r.plan (core_of_run r) e) (due.send u false is)).1

  pub fed_send : r.starved ≡ false
  fed_send =
      let e : Event = Sent u ((core_of_run r).slots u).talk.number false in
      by r.starved (and_parts (not r.starved || is_closing e) (is_allowed r.plan (core_of_run r) e) (due.send u false is)).0
    where
      by : (b : Bool) → (not b || false) ≡ true → b ≡ false
      by true e = absurd (false≢true e)
      by false e = refl

  needs : needs_request ((core_of_run r).slots u).talk.place ≡ true
  needs = needs_of (plan_of r.plan u) ((core_of_run r).slots u).talk.place facts.request

  pub asks_send : (P : List UnitPlan) (s : Spot) → P ≡ r.plan → IsSpotOf (plan_of r.plan u) ((core_of_run r).slots u).talk.place s → IsAsking (plan_of P u) s
  asks_send P s same of = subst (λ (Q : List UnitPlan). IsAsking (plan_of Q u) s) (sym same) (of.asks needs)

  pub linked_send : (td tv : Bool) (first now : History) (j : Journal) → IsBayOf td tv r first now j → IsTrue now.linked
  linked_send td tv first now j bay = bay.linked (up_live (core_of_run r).link.phase facts.up)

  -- the bytes are those of the request that is due
  frame_is : (ready : ReadyState) (s : Spot) (frame : List ℕ) → IsReadyFor r u ready → ready.spot ≡ s → IsSpotOf (plan_of r.plan u) ((core_of_run r).slots u).talk.place s → frame ≡ ready_bytes ready → frame ≡ request_frame r.rules r.plan (core_of_run r) u
  frame_is ready s frame made same of bytes =
      let p : UnitPlan = plan_of r.plan u in
      bytes
      ∙ (λ i. message_bytes (made.tester i) (made.unit i).address (request_by (made.unit i) (same i)))
      ∙ ap (λ (body : List ℕ). message_bytes r.rules.tester p.address body) (of.request needs)

-- ------ the state that a bay is seen as
pub due_in : {S : Type 0} (b : BayState S) (r : RunState) (first shop : S) (a u : ℕ) → ◌≡◌ {A = BayState S} (record { run = r; first = first; shop = shop; slots = a }) b → need_of b.run u ≡ need.Send → need_of r u ≡ need.Send
due_in {S = S} b r first shop a u view due = subst (λ (x : BayState S). need_of x.run u ≡ need.Send) (sym view) due

pub ready_in : {S : Type 0} (b : BayState S) (r : RunState) (first shop : S) (a u : ℕ) (ready : ReadyState) → ◌≡◌ {A = BayState S} (record { run = r; first = first; shop = shop; slots = a }) b → IsReadyFor b.run u ready → IsReadyFor r u ready
ready_in {S = S} b r first shop a u ready view made = subst (λ (x : BayState S). IsReadyFor x.run u ready) (sym view) made

pub spot_here : {S : Type 0} (b : BayState S) (r : RunState) (first shop : S) (a u : ℕ) (s : Spot) → ◌≡◌ {A = BayState S} (record { run = r; first = first; shop = shop; slots = a }) b → s ≡ spot_in r u → s ≡ spot_in b.run u
spot_here {S = S} b r first shop a u s view is = is ∙ ap (λ (x : BayState S). spot_in x.run u) view

pub plan_here : {S : Type 0} (b : BayState S) (r : RunState) (first shop : S) (a : ℕ) (P : List UnitPlan) → ◌≡◌ {A = BayState S} (record { run = r; first = first; shop = shop; slots = a }) b → P ≡ b.run.plan → P ≡ r.plan
plan_here {S = S} b r first shop a P view is = is ∙ ap (λ (x : BayState S). x.run.plan) (sym view)

-- ------ what it keeps
pub send_keeps : (td tv : Bool) (r r2 : RunState) (u n : ℕ) (lost : Bool) (first old new : History) (j : Journal) (ready : ReadyState) (s : Spot) (frame : List ℕ) → IsKept r → AreDue r → need_of r u ≡ need.Send → old.moment ≤ LAST → n ≡ ((core_of_run r).slots u).talk.number → IsReadyFor r u ready
    → ready.spot ≡ s → IsSpotOf (plan_of r.plan u) ((core_of_run r).slots u).talk.place s → frame ≡ ready_bytes ready → SendsOnce tv frame old new lost → r2 ≡ with_event (Sent u n lost) (with_room 1 r) → IsBayOf td tv r first old j → IsBayOf td tv r2 first new j
send_keeps td tv r r2 u n lost first old new j ready s frame kept due is bounded number made same of bytes sent did bay =
    let e : Event = Sent u n lost in
    let ok : is_allowed r.plan (core_of_run r) e ≡ true = (and_parts (not r.starved || is_closing e) (is_allowed r.plan (core_of_run r) e) (may_send r u due is n lost number)).1 in
    let call : SendsOnce tv (request_frame r.rules r.plan (core_of_run r) u) old new lost = subst (λ (b : List ℕ). SendsOnce tv b old new lost) (frame_is r u due is ready s frame made same of bytes) sent in
    roomed_event td tv r r2 e first new j did (sent_keeps td tv r first old new (state_of j) (IsKeptOn j) kept (fed_send r u due is) bounded bay u n lost ok (linked_send r u due is td tv first old j bay) call)

-- ------ what it answers
answers : {S : Type 0} (tv : Bool) (history : S → History) (u : ℕ) (ready : ReadyState) (old new : BayState S) (lost : Bool) → ready.spot ≡ spot_in old.run u → SendsRequest tv history u old lost new → SendsReady tv history u ready old (sent_as lost) new
answers tv history u ready old new true same sent = (same, sent)
answers tv history u ready old new false same sent = (same, sent)

room_same : (n : ℕ) → n ≤ n + 1 - 1
room_same n = omega arith

pub send_is : {S : Type 0} (tv : Bool) (history : S → History) (b : BayState S) (r r2 : RunState) (first shop shop2 : S) (a u n : ℕ) (lost : Bool) (said : SentReady) (ready : ReadyState) (s : Spot) (frame : List ℕ) → ◌≡◌ {A = BayState S} (record { run = r; first = first; shop = shop; slots = a }) b
    → AreDue r → need_of r u ≡ need.Send → n ≡ ((core_of_run r).slots u).talk.number → IsReadyFor r u ready → ready.spot ≡ s → IsSpotOf (plan_of r.plan u) ((core_of_run r).slots u).talk.place s → frame ≡ ready_bytes ready → SendsOnce tv frame (history shop) (history shop2) lost
    → r2 ≡ with_event (Sent u n lost) (with_room 1 r) → said ≡ sent_as lost → SendsReady tv history u ready b said (record { run = r2; first = first; shop = shop2; slots = a })
send_is {S = S} tv history b r r2 first shop shop2 a u n lost said ready s frame view due is number made same of bytes sent did says =
    let k : ℕ = ((core_of_run r).slots u).talk.number in
    let r3 : RunState = with_event (Sent u k lost) (with_room 1 r) in
    let same3 : r2 ≡ r3 = did ∙ ap (λ (m : ℕ). with_event (Sent u m lost) (with_room 1 r)) number in
    let call : SendsOnce tv (request_frame r.rules r.plan (core_of_run r) u) (history shop) (history shop2) lost =
    subst (λ (x : List ℕ). SendsOnce tv x (history shop) (history shop2) lost) (frame_is r u due is ready s frame made same of bytes) sent in
    let here : SendsRequest tv history u (record { run = r; first = first; shop = shop; slots = a }) lost (record { run = r3; first = first; shop = shop2; slots = a }) = record {
      step = record { adds = record { opening = record { plan = refl; rules = refl; found = refl; first = refl }; events = refl; starved = refl; room = room_same r.room }; allowed = due.send u lost is; slots = refl };
      call = call;
    } in
    let there : SendsReady tv history u ready (record { run = r; first = first; shop = shop; slots = a }) (sent_as lost) (record { run = r3; first = first; shop = shop2; slots = a }) =
    answers tv history u ready (record { run = r; first = first; shop = shop; slots = a }) (record { run = r3; first = first; shop = shop2; slots = a }) lost (same ∙ of.is) here in
    subst (λ (x : BayState S × SentReady × RunState). SendsReady tv history u ready x.0 x.1 (record { run = x.2; first = first; shop = shop2; slots = a })) (λ i. (view i, sym says i, sym same3 i)) there

-- the unit stands elsewhere, and nothing was called
pub stale_is : {S : Type 0} (tv : Bool) (history : S → History) (b : BayState S) (r : RunState) (first shop : S) (a u : ℕ) (ready : ReadyState) (s : Spot) → ◌≡◌ {A = BayState S} (record { run = r; first = first; shop = shop; slots = a }) b
    → s ≡ spot_in r u → (ready.spot ≡ s → ⊥) → SendsReady tv history u ready b Stale (record { run = r; first = first; shop = shop; slots = a })
stale_is {S = S} tv history b r first shop a u ready s view here other = (λ e. other (e ∙ sym (spot_here b r first shop a u s view here)), view)
