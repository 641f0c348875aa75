-- A run that takes an event is kept by its type's invariant.
use Rattle.std.proofs.Common.{◌≡◌, ℕ, ◌+◌, ◌-◌, ◌<◌, ◌≤◌, ◌*◌, ◌^◌, true, false, List, [], ◌∷◌, ◌++◌, length, Result, Ok, Err, refl, sym, ◌∙◌, ap, subst, arith}
use Rattle.std.specs.Prelude.{Bool, Option, is_some, not, ◌&&◌, ◌||◌, IsOk, OnOk, if◌then◌else◌}
use Rattle.std.proofs.lemmas.Bool.{and_parts, ltb-true, false≢true}
use Rattle.barrier_board.specs.Board.{has_entry}
use Rattle.barrier_board.specs.declared.post.Post.{Post}
use Rattle.bay_core.specs.Core.{Core, Halt, core_start, core_after}
use Rattle.bay_core.proofs.Sane.{sane_kept, sane_start}
use Rattle.bay_core.specs.Joint.{IsSane}
use Rattle.bay_core.specs.Legal.{is_allowed, is_ready, is_open_unit, has_message}
use Rattle.run_model.specs.Link.{Phase}
use Rattle.bay_core.specs.declared.event.Event.{Event}
use Rattle.bay_core.specs.declared.event.Event.TheVariants.{Claimed}
use Rattle.bay_replay.specs.Held.{Holds, IsBoardOf, told_after, shut}
use Rattle.bay_replay.specs.Replays.{core_by, told_by}
use Rattle.bay_replay.specs.declared.state.Core as kept
use Rattle.flash_run.specs.Notes.{NotesState, noted, narrower}
use Rattle.flash_run.specs.Run.{RunState, IsLogged, IsKept, seen_core, told_seen, left_in, may_take, core_of_run, is_closing, is_open, IsCompleteKept}
use Rattle.flash_run.proofs.Lists.{core_more, legal_more, ticks_below}
use Rattle.flash_run.proofs.Rooms.{start_left, left_claimed, ready_fresh}
use Rattle.flash_run.proofs.Settled.{settled_start, settled_kept}
use Rattle.flash_run.proofs.Shut.{same_allowed, same_after}
use Rattle.flash_run.proofs.Needs.{need_seen, need_open, due_seen, stop_seen as halt_seen, faulted_seen}
use Rattle.flash_run.specs.Need.{is_linked, need_by, need_of, seen_ask, stop_or, stop_for, ended_or, due_outcome}
use Rattle.flash_run.specs.Run.{IsSettled, is_stopped}
use Rattle.flash_run.specs.declared.need.Need.{Need}
use Rattle.unit_session.specs.declared.session.Ask.{Ask}
use Rattle.flash_plan.specs.declared.outcome.Outcome.{Outcome}
use Rattle.flash_plan.specs.declared.outcome.Outcome.TheVariants.{DiskFault, NoMemory}
use Rattle.flash_plan.specs.Plan.{IsAccepted, count_of}
use Rattle.flash_plan.specs.declared.outcome.Entry.{Entry}
use Rattle.flash_plan.specs.declared.unit.LinkRules.{LinkRules}
use Rattle.flash_plan.specs.declared.unit.UnitPlan.{UnitPlan}

pub seen_allowed : (P : List UnitPlan) (c : Core) (e : Event) (starved : Bool) → (not starved || is_closing e) ≡ true → is_allowed P (seen_core P starved c) e ≡ is_allowed P c e
seen_allowed P c e true may = same_allowed P c e may
seen_allowed P c e false may = refl

seen_after : (rules : LinkRules) (P : List UnitPlan) (c : Core) (e : Event) (starved : Bool) → IsSettled rules c → (not starved || is_closing e) ≡ true → core_after rules P e (seen_core P starved c) ≡ seen_core P starved (core_after rules P e c)
seen_after rules P c e true settled may = same_after rules P c e settled may
seen_after rules P c e false settled may = refl

-- what is kept goes on with the plan that a call is lent: it is the one that the run remembers
module _ (P : List UnitPlan) (rules : LinkRules) (found : List Entry) (l : NotesState) (starved : Bool) (k k2 : kept.Core) (e : Event) where
  taken_here : IsLogged P rules found l starved k → (not starved || is_closing e) ≡ true → is_allowed P (core_by rules P found l.events) e ≡ true → Holds P k2 (told_after P e (told_seen P rules found l.events starved))
      → left_in P (core_after rules P e (core_by rules P found l.events)) + 1 ≤ l.room → IsLogged P rules found (noted e l) starved k2
  taken_here is may ok holds room =
      let c : Core = core_by rules P found l.events in
      let more : core_by rules P found (l.events ++ e ∷ []) ≡ core_after rules P e c = core_more rules P (core_start P (has_entry found)) l.events e in
      let fits : left_in P (core_after rules P e c) ≤ l.room - 1 = omega (arith, room) in
      let seen : Holds P k2 (record { rules = rules; core = seen_core P starved (core_after rules P e c) }) = subst (λ (x : Core). Holds P k2 (record { rules = rules; core = x })) (seen_after rules P c e starved is.settled may) holds in
      record {
        accepted = is.accepted;
        legal = legal_more rules P (core_start P (has_entry found)) l.events e is.legal ok;
        holds = subst (λ (x : Core). Holds P k2 (record { rules = rules; core = seen_core P starved x })) (sym more) seen;
        sane = subst (λ (x : Core). IsSane P x) (sym more) (sane_kept rules P c is.accepted is.sane e ok);
        settled = subst (λ (x : Core). IsSettled rules x) (sym more) (settled_kept rules P e c is.settled);
        room = subst (λ (x : Core). left_in P x ≤ l.room - 1) (sym more) fits;
      }

pub taken_logged : (P Q : List UnitPlan) (rules : LinkRules) (found : List Entry) (l l2 : NotesState) (starved : Bool) (k k2 : kept.Core) (e : Event) → P ≡ Q → l2 ≡ noted e l → IsLogged Q rules found l starved k
    → (not starved || is_closing e) ≡ true → is_allowed P (core_by rules P found l.events) e ≡ true → Holds P k2 (told_after P e (told_seen P rules found l.events starved)) → left_in Q (core_after rules Q e (core_by rules Q found l.events)) + 1 ≤ l.room
    → IsLogged Q rules found l2 starved k2
taken_logged P Q rules found l l2 starved k k2 e same is_noted is may ok holds room =
    subst (λ (x : List UnitPlan × NotesState). IsLogged x.0 rules found x.1 starved k2) (λ i. (same i, sym is_noted i))
    (taken_here P rules found l starved k k2 e (subst (λ (X : List UnitPlan). IsLogged X rules found l starved k) (sym same) is) may ok holds
    (subst (λ (X : List UnitPlan). left_in X (core_after rules X e (core_by rules X found l.events)) + 1 ≤ l.room) (sym same) room))

-- a receive found no memory: the same events, the link shut, and the room given back
pub starved_logged : (P Q : List UnitPlan) (rules : LinkRules) (found : List Entry) (l l2 : NotesState) (k k2 : kept.Core) → P ≡ Q → l2 ≡ narrower l → IsLogged Q rules found l false k
    → Holds P k2 (record { rules = rules; core = shut P (core_by rules P found l.events) }) → left_in Q (core_by rules Q found l.events) + 1 ≤ l.room → IsLogged Q rules found l2 true k2
starved_logged P Q rules found l l2 k k2 same less is holds room =
    let fits : left_in Q (core_by rules Q found l.events) ≤ l.room - 1 = omega (arith, room) in
    subst (λ (x : NotesState). IsLogged Q rules found x true k2) (sym less) (record {
      accepted = is.accepted;
      legal = is.legal;
      holds = subst (λ (X : List UnitPlan). Holds X k2 (told_seen X rules found l.events true)) same holds;
      sane = is.sane;
      settled = is.settled;
      room = fits;
    })

-- a claim has its room
pub claim_room : (P Q : List UnitPlan) (rules : LinkRules) (found : List Entry) (l : NotesState) (starved : Bool) (k : kept.Core) (u : ℕ) → P ≡ Q → IsLogged Q rules found l starved k → is_allowed P (core_by rules P found l.events) (Claimed u) ≡ true
    → left_in Q (core_after rules Q (Claimed u) (core_by rules Q found l.events)) + 1 ≤ l.room
claim_room P Q rules found l starved k u same is ok =
    let c : Core = core_by rules Q found l.events in
    let may : is_allowed Q c (Claimed u) ≡ true = subst (λ (X : List UnitPlan). is_allowed X (core_by rules X found l.events) (Claimed u) ≡ true) same ok in
    let ready : is_ready Q c u ≡ true = (and_parts _ _ (and_parts _ _ may).0).1 in
    let lt : u < count_of Q = ltb-true u (count_of Q) (and_parts _ _ (and_parts _ _ (and_parts _ _ ready).0).0).0 in
    let less = left_claimed rules Q c u lt (ready_fresh Q c u ready) in
    omega (arith, less, is.room)

pub some_room : (a b : ℕ) → a + 1 ≤ b → 0 < b
some_room a b le = omega (arith, le)

pub started : (P Q : List UnitPlan) (rules : LinkRules) (found : List Entry) (l : NotesState) (k : kept.Core) → P ≡ Q → IsAccepted P → l ≡ record { events = []; room = 4 * count_of P } → Holds P k (told_by rules P found []) → IsLogged Q rules found l false k
started P Q rules found l k same accepted empty holds =
    subst (λ (x : List UnitPlan × NotesState). IsLogged x.0 rules found x.1 false k) (λ i. (same i, sym empty i)) (record {
      accepted = accepted;
      legal = refl;
      holds = holds;
      sane = sane_start P (has_entry found) accepted;
      settled = settled_start rules P (has_entry found);
      room = start_left P (has_entry found);
    })

-- fewer ticks than events
seen_ticks : (P : List UnitPlan) (c : Core) (starved : Bool) → (seen_core P starved c).link.ticks ≡ c.link.ticks
seen_ticks P c true = refl
seen_ticks P c false = refl

pub few_ticks_of : (P : List UnitPlan) (rules : LinkRules) (found : List Entry) (events : List Event) (starved : Bool) → length events < 2 ^ 63 → (seen_core P starved (core_by rules P found events)).link.ticks < 2 ^ 63
few_ticks_of P rules found events starved few =
    let below = ticks_below rules P (core_start P (has_entry found)) events refl in
    let same = seen_ticks P (core_by rules P found events) starved in
    omega (arith, below, few, same)

seen_board : (P : List UnitPlan) (c : Core) (starved : Bool) (posts : List Post) → IsBoardOf P (seen_core P starved c) posts → IsBoardOf P c posts
seen_board P c true posts is = record { size = is.size; after = is.after; claimed = is.claimed; outcome = is.outcome }
seen_board P c false posts is = is

pub board_of : (r : RunState) (posts : List Post) → IsBoardOf r.plan (seen_core r.plan r.starved (core_of_run r)) posts → IsBoardOf r.plan (core_of_run r) posts
board_of r posts is = seen_board r.plan (core_of_run r) r.starved posts is

seen_complete : (P : List UnitPlan) (rules : LinkRules) (found : List Entry) (events : List Event) (starved : Bool) (k : kept.Core) → Holds P k (told_seen P rules found events starved) → IsCompleteKept P (core_by rules P found events)
seen_complete P rules found events true k holds = λ n lt. (holds.body.slots n lt).complete
seen_complete P rules found events false k holds = λ n lt. (holds.body.slots n lt).complete

pub kept_of : (r : RunState) (Q : List UnitPlan) (rules : LinkRules) (found : List Entry) (l : NotesState) (starved : Bool) (k : kept.Core) → record { plan = Q; rules = rules; found = found; events = l.events; starved = starved; room = l.room } ≡ r → IsLogged Q rules found l starved k → IsKept r
kept_of r Q rules found l starved k view is =
    subst (λ (x : RunState). IsKept x) view (record { accepted = is.accepted; legal = is.legal; sane = is.sane; settled = is.settled; complete = seen_complete Q rules found l.events starved k is.holds; room = is.room })

-- ------ tests
seen_open : (P : List UnitPlan) (c : Core) (starved : Bool) (u : ℕ) → is_open_unit P (seen_core P starved c) u ≡ is_open_unit P c u
seen_open P c true u = refl
seen_open P c false u = refl

pub open_of : (r : RunState) (u : ℕ) → is_open_unit r.plan (seen_core r.plan r.starved (core_of_run r)) u ≡ is_open r u
open_of r u = seen_open r.plan (core_of_run r) r.starved u

-- ------ what an answer of the run says, by what is kept
module _ (r : RunState) (P Q : List UnitPlan) (rules : LinkRules) (found : List Entry) (l : NotesState) (starved : Bool) (same : P ≡ Q)
    (view : ◌≡◌ {A = RunState} (record { plan = Q; rules = rules; found = found; events = l.events; starved = starved; room = l.room }) r) where
  abbrev core : List UnitPlan → Core
  core X = core_by rules X found l.events

  -- an event that the run may take is allowed of what is kept
  pub note_may : (e : Event) → may_take r e ≡ true → ((not starved || is_closing e) ≡ true) × (is_allowed P (core P) e ≡ true)
  note_may e may =
      let m : ((not starved || is_closing e) && is_allowed Q (core Q) e) ≡ true = subst (λ (x : RunState). may_take x e ≡ true) (sym view) may in
      let p = and_parts (not starved || is_closing e) (is_allowed Q (core Q) e) m in
      (p.0, subst (λ (X : List UnitPlan). is_allowed X (core X) e ≡ true) (sym same) p.1)

  pub note_seen : (e : Event) → may_take r e ≡ true → is_allowed P (seen_core P starved (core P)) e ≡ true
  note_seen e may = let p = note_may e may in seen_allowed P (core P) e starved p.0 ∙ p.1

  pub note_holds : (k : kept.Core) → Holds Q k (told_seen Q rules found l.events starved) → Holds P k (told_seen P rules found l.events starved)
  note_holds k holds = subst (λ (X : List UnitPlan). Holds X k (told_seen X rules found l.events starved)) (sym same) holds

  pub note_room : (e : Event) → left_in r.plan (core_after r.rules r.plan e (core_of_run r)) + 1 ≤ r.room → left_in Q (core_after rules Q e (core Q)) + 1 ≤ l.room
  note_room e room = subst (λ (x : RunState). left_in x.plan (core_after x.rules x.plan e (core_of_run x)) + 1 ≤ x.room) (sym view) room

  pub may_seen : (e : Event) (b x : Bool) → x ≡ (not starved || is_closing e) → x ≡ true → b ≡ is_allowed P (seen_core P starved (core P)) e → b ≡ may_take r e
  may_seen e b x is go allowed =
      let still : (not starved || is_closing e) ≡ true = sym is ∙ go in
      let here : b ≡ is_allowed Q (core Q) e = allowed ∙ seen_allowed P (core P) e starved still ∙ ap (λ (X : List UnitPlan). is_allowed X (core X) e) same in
      let whole : b ≡ ((not starved || is_closing e) && is_allowed Q (core Q) e) = here ∙ ap (λ (y : Bool). y && is_allowed Q (core Q) e) (sym still) in
      subst (λ (y : RunState). b ≡ may_take y e) view whole

  pub stopped_seen : (b : Bool) (o : Option Outcome) → starved ≡ false → o ≡ (seen_core Q starved (core Q)).halt.stop → b ≡ is_some o → b ≡ is_stopped r
  stopped_seen b o fed is some =
      let here : b ≡ is_some (core Q).halt.stop = some ∙ ap (λ (x : Option Outcome). is_some x) (is ∙ ap (λ (h : Halt). h.stop) (halt_seen Q (core Q) starved)) in
      let whole : b ≡ (starved || is_some (core Q).halt.stop) = here ∙ ap (λ (y : Bool). y || is_some (core Q).halt.stop) (sym fed) in
      subst (λ (y : RunState). b ≡ is_stopped y) view whole

  pub stop_seen : (u : ℕ) (f : Bool) (o : Option Outcome) (a : Outcome) → f ≡ ((seen_core P starved (core P)).slots u).faulted → f ≡ false → starved ≡ false → o ≡ (seen_core Q starved (core Q)).halt.stop → a ≡ stop_or o → a ≡ stop_for r u
  stop_seen u f o a faulted sound fed is said =
      let none : ((core Q).slots u).faulted ≡ false = sym (faulted_seen Q (core Q) starved u) ∙ sym (faulted ∙ ap (λ (X : List UnitPlan). ((seen_core X starved (core X)).slots u).faulted) same) ∙ sound in
      let here : a ≡ stop_or (core Q).halt.stop = said ∙ ap stop_or (is ∙ ap (λ (h : Halt). h.stop) (halt_seen Q (core Q) starved)) in
      let fed_so : a ≡ (if starved then NoMemory else stop_or (core Q).halt.stop) = here ∙ ap (λ (y : Bool). if y then NoMemory else stop_or (core Q).halt.stop) (sym fed) in
      let whole : a ≡ (if ((core Q).slots u).faulted then DiskFault else (if starved then NoMemory else stop_or (core Q).halt.stop)) =
      fed_so ∙ ap (λ (y : Bool). if y then DiskFault else (if starved then NoMemory else stop_or (core Q).halt.stop)) (sym none) in
      subst (λ (y : RunState). a ≡ stop_for y u) view whole

  pub need_is : (u : ℕ) (n : Need) (f s k : Bool) (a : Ask) → is_open r u ≡ true → f ≡ (seen_core Q starved (core Q)).halt.failed → s ≡ is_stopped r → k ≡ is_linked (seen_core Q starved (core Q)) → a ≡ seen_ask r u → n ≡ need_by f s k a → n ≡ need_of r u
  need_is u n f s k a opens failed stopped linked asks said =
      let f2 : f ≡ (core_of_run r).halt.failed = failed ∙ ap (λ (h : Halt). h.failed) (halt_seen Q (core Q) starved) ∙ ap (λ (x : RunState). (core_of_run x).halt.failed) view in
      let k2 : k ≡ is_linked (seen_core r.plan r.starved (core_of_run r)) = linked ∙ ap (λ (x : RunState). is_linked (seen_core x.plan x.starved (core_of_run x))) view in
      need_open r u n opens (said ∙ (λ i. need_by (f2 i) (stopped i) (k2 i) (asks i)) ∙ need_seen r u)

pub due_is : (r : RunState) (u : ℕ) (o s : Outcome) (a : Ask) → a ≡ seen_ask r u → s ≡ stop_for r u → o ≡ ended_or a s → o ≡ due_outcome r u
due_is r u o s a asks stop said = said ∙ (λ i. ended_or (asks i) (stop i)) ∙ due_seen r u (stop_for r u)

pub on_ok : {T E : Type 0} (x : Result T E) (X : Type 0) → IsOk x → OnOk x X → X
on_ok (Ok y) X is on = on
on_ok (Err y) X is on = absurd (false≢true is)

pub may_fed : (b x : Bool) → b ≡ false → (not b || x) ≡ true
may_fed true x e = absurd (false≢true (sym e))
may_fed false x e = refl

pub claim_holds : (P : List UnitPlan) (rules : LinkRules) (found : List Entry) (events : List Event) (starved : Bool) (k : kept.Core) (e : Event) → starved ≡ false → Holds P k (told_after P e (told_by rules P found events)) → Holds P k (told_after P e (told_seen P rules found events starved))
claim_holds P rules found events starved k e fed holds = subst (λ (b : Bool). Holds P k (told_after P e (told_seen P rules found events b))) (sym fed) holds

-- ------ the link, by what is kept
losses_seen : (P : List UnitPlan) (c : Core) (starved : Bool) → (seen_core P starved c).link.losses ≡ c.link.losses
losses_seen P c true = refl
losses_seen P c false = refl

pub fed_core : (P : List UnitPlan) (c : Core) (starved : Bool) → starved ≡ false → seen_core P starved c ≡ c
fed_core P c true e = absurd (false≢true (sym e))
fed_core P c false e = refl

pub losses_is : (r : RunState) (n : ℕ) → n ≡ (seen_core r.plan r.starved (core_of_run r)).link.losses → n ≡ (core_of_run r).link.losses
losses_is r n is = is ∙ losses_seen r.plan (core_of_run r) r.starved

pub phase_is : (r : RunState) (p : Phase) → r.starved ≡ false → p ≡ (seen_core r.plan r.starved (core_of_run r)).link.phase → p ≡ (core_of_run r).link.phase
phase_is r p fed is = is ∙ ap (λ (c : Core). c.link.phase) (fed_core r.plan (core_of_run r) r.starved fed)

pub message_is : (r : RunState) (P : List UnitPlan) (rules : LinkRules) (found : List Entry) (events : List Event) (starved : Bool) (u : ℕ) (b : Bool) → P ≡ r.plan → rules ≡ r.rules → found ≡ r.found → events ≡ r.events → starved ≡ r.starved → r.starved ≡ false
    → b ≡ has_message P (seen_core P starved (core_by rules P found events)) u → b ≡ has_message r.plan (core_of_run r) u
message_is r P rules found events starved u b p q f e s fed is =
    is ∙ (λ i. has_message (p i) (seen_core (p i) (s i) (core_by (q i) (p i) (f i) (e i))) u) ∙ ap (λ (c : Core). has_message r.plan c u) (fed_core r.plan (core_of_run r) r.starved fed)
