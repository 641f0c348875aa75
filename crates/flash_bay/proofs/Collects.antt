-- A look for an answer: that it may be made, what it keeps of the bay, and what it answers.
use Rattle.std.proofs.Common.{◌≡◌, ◌≢◌, inl, inr, ℕ, ◌+◌, ◌-◌, ◌≤◌, true, false, List, None, Some, refl, sym, ◌∙◌, ap, subst, arith}
use Rattle.std.specs.Prelude.{Bool, Option, IsTrue, not, ◌||◌, ◌==◌, nat_lt, is_some, if◌then◌else◌}
use Rattle.std.proofs.lemmas.Bool.{cases_Bool, false≢true, and_parts, eq-eqb, ne_eqb, le-ltb, lt-ltb}
use Rattle.bay_core.proofs.Allowed.{CollectedFacts, collected_facts}
use Rattle.bay_core.specs.Core.{Core, Slot, collects, core_after, heard_link, link_after, slots_lost, with_slot, with_talk}
use Rattle.bay_core.specs.Legal.{fits_inbox, has_message, is_allowed}
use Rattle.bay_core.specs.declared.event.Event.{Event}
use Rattle.bay_core.specs.declared.event.Event.TheVariants.{Collected}
use Rattle.bay_core.specs.declared.event.Heard.{Heard}
use Rattle.bay_core.specs.declared.event.Heard.TheVariants as heard
use Rattle.bay_law.proofs.Links.{collected_keeps}
use Rattle.bay_law.proofs.Quiet.{quiet_keeps, kept_quiet}
use Rattle.bay_law.proofs.Steps.{core_with}
use Rattle.bay_law.specs.Device.{HearsOnce}
use Rattle.flash_bay.proofs.Links.{noted_is, roomed_event}
use Rattle.flash_bay.proofs.Tends.{not_kept}
use Rattle.flash_bay.specs.Collecting.{Collects, LooksOnce, collected_as, collected_by, differs, is_quiet, looked_for}
use Rattle.flash_bay.specs.State.{BayState, IsBayOf, state_of}
use Rattle.flash_bay.specs.declared.answers.Collected as answer
use Rattle.flash_bay.specs.declared.answers.Collected.TheVariants as says
use Rattle.flash_bay.specs.declared.answers.Why.TheVariants as why
use Rattle.flash_journal.specs.Kept.{IsKeptOn}
use Rattle.flash_journal.specs.declared.journal.Journal.{Journal}
use Rattle.flash_plan.specs.Plan.{plan_of}
use Rattle.flash_plan.specs.declared.outcome.Entry.{Entry}
use Rattle.flash_plan.specs.declared.outcome.Outcome.{Outcome}
use Rattle.flash_plan.specs.declared.unit.LinkRules.{LinkRules}
use Rattle.flash_plan.specs.declared.unit.UnitPlan.{UnitPlan}
use Rattle.flash_run.specs.Need.{AreDue, need_of}
use Rattle.flash_run.specs.Run.{RunState, IsKept, core_of_run, may_take, with_event, with_room}
use Rattle.flash_run.specs.Waiting.{waiting_in, waiting_of}
use Rattle.flash_run.specs.declared.need.Need.TheVariants as need
use Rattle.run_model.proofs.Phases.{up_live}
use Rattle.run_model.specs.Link.{Link, first_message}
use Rattle.run_model.specs.Talk.{Talk, end_talk, talk_judged, talk_takes}
use Rattle.run_model.specs.Ways.{UnitMessage, Reply, Nacked}
use Rattle.shop_model.specs.History.{History, LAST}
use Rattle.uds_codec.specs.Answer.{Verdict, Pending, Busy, Refusal, Accepted, BadStatus, Malformed}

-- ------ what is due
module _ (r : RunState) (u : ℕ) (due : AreDue r) (is : need_of r u ≡ need.Collect) where
  pub may_collect : (h : Heard) → fits_inbox h (has_message r.plan (core_of_run r) u) ≡ true → may_take r (Collected u h) ≡ true
  may_collect h fits = due.collect u h is fits

  some_heard : (h : Heard) × (fits_inbox h (has_message r.plan (core_of_run r) u) ≡ true)
  some_heard = elim (cases_Bool (has_message r.plan (core_of_run r) u)) [ inl has ↦ (heard.Kept, has) | inr none ↦ (heard.Quiet, ap (λ (b : Bool). not b) none) ]

  allowed : (h : Heard) → fits_inbox h (has_message r.plan (core_of_run r) u) ≡ true → is_allowed r.plan (core_of_run r) (Collected u h) ≡ true
  allowed h fits = (and_parts (not r.starved || false) (is_allowed r.plan (core_of_run r) (Collected u h)) (may_collect h fits)).1

  facts : CollectedFacts r.plan (core_of_run r) u some_heard.0
  facts = collected_facts r.plan (core_of_run r) u some_heard.0 (allowed some_heard.0 some_heard.1)

  pub fed_collect : r.starved ≡ false
  fed_collect = by r.starved (and_parts (not r.starved || false) (is_allowed r.plan (core_of_run r) (Collected u some_heard.0)) (may_collect some_heard.0 some_heard.1)).0
    where
      by : (b : Bool) → (not b || false) ≡ true → b ≡ false
      by true e = absurd (false≢true e)
      by false e = refl

  awaits : ((core_of_run r).slots u).talk.awaiting ≡ true
  awaits = facts.awaiting

  pub linked_collect : (td tv : Bool) (first now : History) (j : Journal) → IsBayOf td tv r first now j → IsTrue now.linked
  linked_collect td tv first now j bay = bay.linked (up_live (core_of_run r).link.phase facts.up)

-- a receive is made where the inbox is empty
pub fits_heard : (tv : Bool) (old new : History) (h : Heard) (has : Bool) → HearsOnce tv old new h → has ≡ false → fits_inbox h has ≡ true
fits_heard tv old new heard.Kept has did none = absurd (not_kept did.out did.answer did.says)
fits_heard tv old new heard.Quiet has did none = ap (λ (b : Bool). not b) none
fits_heard tv old new (heard.Piece bytes) has did none = ap (λ (b : Bool). not b) none
fits_heard tv old new heard.Lost has did none = ap (λ (b : Bool). not b) none

pub hears_looks : {S : Type 0} (tv : Bool) (history : S → History) (h : Heard) (shop shop2 : S) → HearsOnce tv (history shop) (history shop2) h → LooksOnce tv history h shop shop2
hears_looks tv history heard.Kept shop shop2 did = absurd (not_kept did.out did.answer did.says)
hears_looks tv history heard.Quiet shop shop2 did = did
hears_looks tv history (heard.Piece bytes) shop shop2 did = did
hears_looks tv history heard.Lost shop shop2 did = did

-- ------ the state that a bay is seen as
pub collect_in : {S : Type 0} (b : BayState S) (r : RunState) (first shop : S) (a u : ℕ) → ◌≡◌ {A = BayState S} (record { run = r; first = first; shop = shop; slots = a }) b → need_of b.run u ≡ need.Collect → need_of r u ≡ need.Collect
collect_in {S = S} b r first shop a u view due = subst (λ (x : BayState S). need_of x.run u ≡ need.Collect) (sym view) due

pub inbox_in : {S : Type 0} (b : BayState S) (r : RunState) (first shop : S) (a u : ℕ) (has : Bool) → ◌≡◌ {A = BayState S} (record { run = r; first = first; shop = shop; slots = a }) b → has_message b.run.plan (core_of_run b.run) u ≡ has → has_message r.plan (core_of_run r) u ≡ has
inbox_in {S = S} b r first shop a u has view is = subst (λ (x : BayState S). has_message x.run.plan (core_of_run x.run) u ≡ has) (sym view) is

-- ------ what it keeps
pub look_keeps : (td tv : Bool) (r r1 r2 : RunState) (u : ℕ) (h : Heard) (first old new : History) (j : Journal) → IsKept r → AreDue r → need_of r u ≡ need.Collect → old.moment ≤ LAST → has_message r.plan (core_of_run r) u ≡ false
    → HearsOnce tv old new h → r1 ≡ with_room 1 r → r2 ≡ with_event (Collected u h) r1 → IsBayOf td tv r first old j → IsBayOf td tv r2 first new j
look_keeps td tv r r1 r2 u h first old new j kept due is bounded none did room noted bay =
    let fits : fits_inbox h (has_message r.plan (core_of_run r) u) ≡ true = fits_heard tv old new h (has_message r.plan (core_of_run r) u) did none in
    roomed_event td tv r r2 (Collected u h) first new j (noted_is r r1 r2 (Collected u h) room noted)
    (collected_keeps td tv r first old new (state_of j) (IsKeptOn j) kept (fed_collect r u due is) bounded bay u h (allowed r u due is h fits) (linked_collect r u due is td tv first old j bay) did)

pub word_keeps : (td tv : Bool) (r r1 r2 : RunState) (u : ℕ) (first now : History) (j : Journal) → r1 ≡ with_room 1 r → r2 ≡ with_event (Collected u heard.Kept) r1 → IsBayOf td tv r first now j → IsBayOf td tv r2 first now j
word_keeps td tv r r1 r2 u first now j room noted bay =
    roomed_event td tv r r2 (Collected u heard.Kept) first now j (noted_is r r1 r2 (Collected u heard.Kept) room noted)
    (quiet_keeps td tv r (Collected u heard.Kept) first now (state_of j) (IsKeptOn j) (kept_quiet r.rules r.plan u) bay)

-- ------ a message changes what a unit waits for
none_differs : (t : Talk) → t.awaiting ≡ true → differs (waiting_of t) None ≡ true
none_differs t e = ap (λ (b : Bool). differs (if b then Some t.pendings else None) None) e

same_waits : (w : Option ℕ) → differs w w ≡ false
same_waits None = refl
same_waits (Some n) = ap (λ (b : Bool). not b) (eq-eqb n n refl)

one_more : (n : ℕ) → not (n + 1 == n) ≡ true
one_more n = ap (λ (b : Bool). not b) (ne_eqb (n + 1) n (λ (e : n + 1 ≡ n). omega (arith, e)))

judged_differs : (p : UnitPlan) (tick : ℕ) (v : Verdict) (t : Talk) → t.awaiting ≡ true → differs (waiting_of t) (waiting_of (talk_judged p tick v t)) ≡ true
judged_differs p tick Pending t e = by (t.pendings == 200) _
  where
    by : (b : Bool) (o : Outcome) → differs (waiting_of t) (waiting_of (if b then end_talk o t else record t { since = tick; pendings = t.pendings + 1 })) ≡ true
    by true o = none_differs t e
    by false o = ap (λ (b : Bool). differs (if b then Some t.pendings else None) (if b then Some (t.pendings + 1) else None)) e ∙ one_more t.pendings
judged_differs p tick Busy t e = by (t.busies == 20) _
  where
    by : (b : Bool) (o : Outcome) → differs (waiting_of t) (waiting_of (if b then end_talk o t else record t { awaiting = false; pendings = 0; busies = t.busies + 1 })) ≡ true
    by true o = none_differs t e
    by false o = none_differs t e
judged_differs p tick (Refusal nrc) t e = none_differs t e
judged_differs p tick (Accepted rest) t e = none_differs t e
judged_differs p tick (BadStatus status) t e = none_differs t e
judged_differs p tick Malformed t e = none_differs t e

takes_differs : (p : UnitPlan) (tick : ℕ) (m : Option UnitMessage) (t : Talk) → t.awaiting ≡ true → differs (waiting_of t) (waiting_of (talk_takes p tick m t)) ≡ is_some m
takes_differs p tick None t e = same_waits (waiting_of t)
takes_differs p tick (Some (Reply body)) t e = judged_differs p tick _ t e
takes_differs p tick (Some (Nacked code)) t e = none_differs t e

-- ------ what it answers
unlost : (P : List UnitPlan) (R : Entry → Bool) (b : Bool) (slots : ℕ → Slot) (n : ℕ) → b ≡ false → slots_lost P R b slots n ≡ slots n
unlost P R true slots n e = absurd (false≢true (sym e))
unlost P R false slots n e = refl

own_slot : (f : Talk → Talk) (slots : ℕ → Slot) (u : ℕ) → with_slot u (with_talk f (slots u)) slots u ≡ with_talk f (slots u)
own_slot f slots u = ap (λ (b : Bool). if b then with_talk f (slots u) else slots u) (eq-eqb u u refl)

chosen : {X : Type 0} (b : Bool) (x y z : X) → (b ≡ false → y ≡ z) → ◌≡◌ {A = X} (if b then x else y) (if b then x else z)
chosen true x y z same = refl
chosen false x y z same = same refl

pub looks_as : (rules : LinkRules) (P : List UnitPlan) (u : ℕ) (h : Heard) (c : Core) → (c.slots u).talk.awaiting ≡ true → (h ≡ heard.Kept → ⊥)
    → collected_by c.link.losses (core_after rules P (Collected u h) c).link.losses (is_quiet h) (differs (waiting_of (c.slots u).talk) (waiting_of ((core_after rules P (Collected u h) c).slots u).talk)) ≡ collected_as rules P u h c.link
looks_as rules P u heard.Kept c awaiting other = absurd (other refl)
looks_as rules P u heard.Quiet c awaiting other = refl
looks_as rules P u (heard.Piece bytes) c awaiting other =
    let h : Heard = heard.Piece bytes in
    let lost : Bool = nat_lt c.link.losses (link_after rules P (Collected u h) c.link).losses in
    let word : Bool = differs (waiting_of (c.slots u).talk) (waiting_of ((core_after rules P (Collected u h) c).slots u).talk) in
    chosen lost says.Lost (if word then says.Heard else says.NotYet why.Others) (looked_for rules P u h c.link) (λ none. ap (λ (b : Bool). if b then says.Heard else says.NotYet why.Others) (heard_it none))
  where
    heard_it : nat_lt c.link.losses (link_after rules P (Collected u (heard.Piece bytes)) c.link).losses ≡ false
        → differs (waiting_of (c.slots u).talk) (waiting_of ((core_after rules P (Collected u (heard.Piece bytes)) c).slots u).talk) ≡ is_some (first_message (plan_of P u).address (heard_link rules P (heard.Piece bytes) c.link).inbox)
    heard_it none =
        ap (λ (s : Slot). differs (waiting_of (c.slots u).talk) (waiting_of s.talk))
        (unlost P c.recorded (nat_lt c.link.losses (link_after rules P (Collected u (heard.Piece bytes)) c.link).losses) (with_slot u (with_talk (collects P rules u (heard.Piece bytes) c.link) (c.slots u)) c.slots) u none
        ∙ own_slot (collects P rules u (heard.Piece bytes) c.link) c.slots u)
        ∙ takes_differs (plan_of P u) c.link.ticks (first_message (plan_of P u).address (heard_link rules P (heard.Piece bytes) c.link).inbox) (c.slots u).talk awaiting
looks_as rules P u heard.Lost c awaiting other = chosen_lost (nat_lt c.link.losses (c.link.losses + 1)) (lt-ltb c.link.losses (c.link.losses + 1) (omega arith))
  where
    chosen_lost : (b : Bool) → b ≡ true → ◌≡◌ {A = answer.Collected} (if b then says.Lost else (if differs (waiting_of (c.slots u).talk) (waiting_of ((core_after rules P (Collected u heard.Lost) c).slots u).talk) then says.Heard else says.NotYet why.Others)) (if b then says.Lost else says.Lost)
    chosen_lost true e = refl
    chosen_lost false e = absurd (false≢true e)

room_same : (n : ℕ) → n ≤ n + 1 - 1
room_same n = omega arith

pub collects_is : {S : Type 0} (tv : Bool) (history : S → History) (b : BayState S) (r r1 r2 : RunState) (first shop shop2 : S) (a u : ℕ) (h : Heard) (said : answer.Collected) → ◌≡◌ {A = BayState S} (record { run = r; first = first; shop = shop; slots = a }) b
    → may_take r (Collected u h) ≡ true → r1 ≡ with_room 1 r → r2 ≡ with_event (Collected u h) r1 → LooksOnce tv history h shop shop2 → said ≡ collected_as r.rules r.plan u h (core_of_run r).link
    → Collects tv history u b said (record { run = r2; first = first; shop = shop2; slots = a })
collects_is {S = S} tv history b r r1 r2 first shop shop2 a u h said view may room noted call says_so =
    let r3 : RunState = with_event (Collected u h) (with_room 1 r) in
    let same : r2 ≡ r3 = noted_is r r1 r2 (Collected u h) room noted in
    let here : Collects tv history u (record { run = r; first = first; shop = shop; slots = a }) said (record { run = r3; first = first; shop = shop2; slots = a }) = record {
      heard_is = h;
      adds = record { adds = record { opening = record { plan = refl; rules = refl; found = refl; first = refl }; events = refl; starved = refl; room = room_same r.room }; allowed = may; slots = refl };
      call = call;
      answer_is = says_so;
    } in
    subst (λ (x : BayState S × RunState). Collects tv history u x.0 said (record { run = x.1; first = first; shop = shop2; slots = a })) (λ i. (view i, sym same i)) here

-- by what is kept before and after
pub looked_is : (r r1 r2 : RunState) (u : ℕ) (h : Heard) (before : ℕ) (quiet : Bool) (waiting : Option ℕ) (said : answer.Collected) → AreDue r → need_of r u ≡ need.Collect → (h ≡ heard.Kept → ⊥) → r1 ≡ with_room 1 r → r2 ≡ with_event (Collected u h) r1
    → before ≡ (core_of_run r).link.losses → quiet ≡ is_quiet h → waiting ≡ waiting_in r u → said ≡ collected_by before (core_of_run r2).link.losses quiet (differs waiting (waiting_in r2 u)) → said ≡ collected_as r.rules r.plan u h (core_of_run r).link
looked_is r r1 r2 u h before quiet waiting said due is other room noted was silent waited says_so =
    let e : Event = Collected u h in
    let same : core_of_run r2 ≡ core_after r.rules r.plan e (core_of_run r) = ap (λ (x : RunState). core_of_run x) (noted_is r r1 r2 e room noted) ∙ core_with (with_room 1 r) e in
    says_so ∙ (λ i. collected_by (was i) (same i).link.losses (silent i) (differs (waited i) (waiting_of ((same i).slots u).talk))) ∙ looks_as r.rules r.plan u h (core_of_run r) (awaits r u due is) other

pub never_kept : (tv : Bool) (old new : History) (h : Heard) → HearsOnce tv old new h → h ≡ heard.Kept → ⊥
never_kept tv old new h did is = let d : HearsOnce tv old new heard.Kept = subst (λ (x : Heard). HearsOnce tv old new x) is did in not_kept d.out d.answer d.says

pub word_is : (rules : LinkRules) (P : List UnitPlan) (u : ℕ) (l : Link) → says.Heard ≡ collected_as rules P u heard.Kept l
word_is rules P u l = sym (ap (λ (b : Bool). if b then says.Lost else says.Heard) (le-ltb l.losses l.losses (omega arith)))
