-- Units that get their outcome at the end of a run: what an end leaves, and that in the end each has one.
use Rattle.std.proofs.Common.{◌≡◌, ◌≢◌, ◌⊎◌, inl, inr, ℕ, zero, suc, ◌+◌, ◌-◌, ◌<◌, ◌≤◌, true, false, List, [], ◌∷◌, ◌++◌, length, None, Some, refl, sym, ◌∙◌, ap, subst, arith}
use Rattle.std.specs.Prelude.{Bool, Option, not, ◌&&◌, ◌||◌, ◌==◌, nat_lt, is_some, is_none, if◌then◌else◌, Contains, slice_index, slice_index_or}
use Rattle.std.specs.List.{IsDistinct, AllByRecursion, list_any}
use Rattle.std.proofs.lemmas.Bool.{cases_Bool, false≢true, and_parts, and_from, eqb-true, eq-eqb, ne_eqb, le-ltb, lt-ltb}
use Rattle.std.proofs.lemmas.Grind.{get_or_default_zero}
use Rattle.std.proofs.lemmas.Map.Steps.{length-le_from_distinct_below}
use Rattle.barrier_board.specs.Board.{has_entry}
use Rattle.bay_core.specs.Core.{Core, Slot, core_start, core_after, link_stop, slots_lost, stop_after, with_slot}
use Rattle.bay_core.specs.Legal.{is_blocked, is_blocker, is_end, is_memory, is_ready, is_running, is_stop, may_end, may_claim}
use Rattle.bay_core.specs.declared.event.Event.{Event}
use Rattle.bay_core.specs.declared.event.Event.TheVariants.{Claimed, Ended}
use Rattle.flash_base.specs.Lists.{Each, all_of}
use Rattle.flash_base.specs.Numbers.{each_below}
use Rattle.flash_plan.specs.Outcomes.{same_outcome}
use Rattle.flash_plan.specs.Plan.{IsAccepted, StandsBefore, next_to, before, plan_of, count_of}
use Rattle.flash_plan.specs.declared.outcome.Entry.{Entry}
use Rattle.flash_plan.specs.declared.outcome.Entry.TheVariants as entry
use Rattle.flash_plan.specs.declared.outcome.Outcome.{Outcome}
use Rattle.flash_plan.specs.declared.outcome.Outcome.TheVariants.{Blocked, DiskFault, NoMemory}
use Rattle.flash_plan.specs.declared.unit.LinkRules.{LinkRules}
use Rattle.flash_plan.specs.declared.unit.UnitPlan.{UnitPlan}
use Rattle.run_model.specs.Link.{Link}
use Rattle.flash_run.proofs.Dues.{same_self}
use Rattle.flash_run.proofs.Lists.{core_more}
use Rattle.flash_run.proofs.Rooms.{left_ended}
use Rattle.flash_run.specs.Ending.{AllEnded, EndsNow, EndsSome, Finishes, IsBlocking, IsOver, NoneReady, are_ends, blocked_by, first_lacking, is_end_event, lacks_outcome, left_outcome}
use Rattle.flash_run.specs.Group.{takes_all, TakesAll}
use Rattle.flash_run.specs.Need.{stop_for, stop_or}
use Rattle.flash_run.specs.Run.{RunState, IsKept, IsSettled, core_of_run, is_open, is_stopped, left_in, may_take, with_event}

-- ------ tests
may_any : (b : Bool) → (not b || true) ≡ true
may_any true = refl
may_any false = refl

or_left : (a b : Bool) → a ≡ true → (a || b) ≡ true
or_left true b e = refl
or_left false b e = absurd (false≢true e)

or_right : (a b : Bool) → b ≡ true → (a || b) ≡ true
or_right true b e = refl
or_right false b e = e

or_cases : (a b : Bool) → (a || b) ≡ true → (a ≡ true) ⊎ (b ≡ true)
or_cases true b e = inl refl
or_cases false b e = inr e

not_both : (a b : Bool) → (a && b) ≡ false → a ≡ true → b ≡ false
not_both true b e is = e
not_both false b e is = absurd (false≢true is)

and_none : (a : Bool) → (a && false) ≡ false
and_none true = refl
and_none false = refl

not_some : {T : Type 0} (o : Option T) → is_some o ≡ false → is_none o ≡ true
not_some None e = refl
not_some (Some x) e = absurd (false≢true (sym e))

not_true : (b : Bool) → not b ≡ true → b ≡ false
not_true true e = sym e
not_true false e = refl

-- ------ a unit that has no outcome may get that there was no memory
pub lacks_test : (r : RunState) (n : ℕ) → n < count_of r.plan → may_take r (Ended n NoMemory) ≡ lacks_outcome r n
lacks_test r n lt = elim (cases_Bool (lacks_outcome r n)) [
  | inl e ↦ and_from (not r.starved || true) (may_end r.plan (core_of_run r) n NoMemory) (may_any r.starved) (ends (nat_lt n (count_of r.plan)) (lacks_outcome r n) _ (is_blocked r.plan (core_of_run r) n NoMemory) (lt-ltb n (count_of r.plan) lt) e) ∙ sym e
  | inr e ↦ elim (cases_Bool (may_take r (Ended n NoMemory))) [
    | inl is ↦
        let parts = and_parts (nat_lt n (count_of r.plan) && lacks_outcome r n) _ (and_parts (not r.starved || true) (may_end r.plan (core_of_run r) n NoMemory) is).1 in
        absurd (false≢true (sym e ∙ (and_parts (nat_lt n (count_of r.plan)) (lacks_outcome r n) parts.0).1))
    | inr is ↦ is ∙ sym e
  ]
]
  where
    ends : (a b x blocked : Bool) → a ≡ true → b ≡ true → (a && b && (x || true || blocked)) ≡ true
    ends a b x blocked ea eb = and_from (a && b) (x || true || blocked) (and_from a b ea eb) (or_left (x || true) blocked (or_right x true refl))

-- ------ what stopped the run may end each unit
stop_ends : (b : Bool) (o : Option Outcome) (starved : Bool) → (starved || is_some o) ≡ true
    → ((if b then same_outcome DiskFault (if b then DiskFault else if starved then NoMemory else stop_or o) else is_stop o (if b then DiskFault else if starved then NoMemory else stop_or o)) ≡ true)
    ⊎ (is_memory (if b then DiskFault else if starved then NoMemory else stop_or o) ≡ true)
stop_ends true o starved is = inl refl
stop_ends false o true is = inr refl
stop_ends false None false is = absurd (false≢true is)
stop_ends false (Some x) false is = inl (same_self x)

pub stop_may : (r : RunState) (n : ℕ) → n < count_of r.plan → lacks_outcome r n ≡ true → is_stopped r ≡ true → may_take r (Ended n (stop_for r n)) ≡ true
stop_may r n lt lacks stopped =
    let c : Core = core_of_run r in
    let o : Outcome = stop_for r n in
    and_from (not r.starved || true) (may_end r.plan c n o) (may_any r.starved)
    (and_from (nat_lt n (count_of r.plan) && lacks_outcome r n) _ (and_from (nat_lt n (count_of r.plan)) (lacks_outcome r n) (lt-ltb n (count_of r.plan) lt) lacks)
    (any ((c.slots n).claimed && is_end (c.slots n).talk.place o) (if (c.slots n).faulted then same_outcome DiskFault o else is_stop c.halt.stop o) (is_memory o) (is_blocked r.plan c n o) (stop_ends (c.slots n).faulted c.halt.stop r.starved stopped)))
  where
    any : (a b m k : Bool) → (b ≡ true) ⊎ (m ≡ true) → (a || b || m || k) ≡ true
    any a b m k (inl e) = or_left (a || b || m) k (or_left (a || b) m (or_right a b e))
    any a b m k (inr e) = or_left (a || b || m) k (or_right (a || b) m e)

-- ------ what blocks a unit
blocker_first : (c : Core) (xs : List ℕ) (w : ℕ) → is_blocker c xs w ≡ true → first_lacking c.recorded xs ≡ Some w
blocker_first c [] w is = absurd (false≢true is)
blocker_first c (x ∷ xs) w is = by (c.recorded (entry.Complete x)) (blocker_first c xs w) is
  where
    by : (b : Bool) → (is_blocker c xs w ≡ true → first_lacking c.recorded xs ≡ Some w) → (if b then is_blocker c xs w else (x == w && is_some (c.slots x).outcome)) ≡ true → (if b then first_lacking c.recorded xs else Some x) ≡ Some w
    by true again e = again e
    by false again e = ap (λ (k : ℕ). Some k) (eqb-true x w (and_parts (x == w) (is_some (c.slots x).outcome) e).0)

unclaimed : (r : RunState) (n : ℕ) → n < count_of r.plan → lacks_outcome r n ≡ true → is_open r n ≡ false → ((core_of_run r).slots n).claimed ≡ false
unclaimed r n lt lacks closed = elim (cases_Bool ((core_of_run r).slots n).claimed) [
  | inl is ↦ absurd (false≢true (sym closed ∙ and_from (nat_lt n (count_of r.plan) && ((core_of_run r).slots n).claimed) (lacks_outcome r n) (and_from (nat_lt n (count_of r.plan)) ((core_of_run r).slots n).claimed (lt-ltb n (count_of r.plan) lt) is) lacks))
  | inr other ↦ other
]

running_none : (r : RunState) → is_stopped r ≡ false → (core_of_run r).halt.stop ≡ None
running_none r is = by r.starved (core_of_run r).halt.stop is
  where
    by : (b : Bool) (o : Option Outcome) → (b || is_some o) ≡ false → o ≡ None
    by true o e = absurd (false≢true (sym e))
    by false None e = refl
    by false (Some x) e = absurd (false≢true (sym e))

-- where a unit may end so, it is blocked so
blocked_for : (r : RunState) (n w : ℕ) → n < count_of r.plan → lacks_outcome r n ≡ true → is_open r n ≡ false → is_stopped r ≡ false → may_take r (Ended n (Blocked w)) ≡ true → is_blocker (core_of_run r) (plan_of r.plan n).after w ≡ true
blocked_for r n w lt lacks closed running may =
    let c : Core = core_of_run r in
    let ends = (and_parts (nat_lt n (count_of r.plan) && lacks_outcome r n) _ (and_parts (not r.starved || true) (may_end r.plan c n (Blocked w)) may).1).1 in
    which (c.slots n).claimed (is_end (c.slots n).talk.place (Blocked w)) (c.slots n).faulted c.halt.stop (is_blocker c (plan_of r.plan n).after w) (unclaimed r n lt lacks closed) (running_none r running) ends
  where
    which : (claimed end faulted : Bool) (stop : Option Outcome) (k : Bool) → claimed ≡ false → stop ≡ None → ((claimed && end) || (if faulted then same_outcome DiskFault (Blocked w) else is_stop stop (Blocked w)) || false || k) ≡ true → k ≡ true
    which true end faulted stop k ec es e = absurd (false≢true (sym ec))
    which false end true stop k ec es e = e
    which false end false None k ec es e = e
    which false end false (Some x) k ec es e = let p : ⊥ = cc in absurd p

pub blocking_now : (r : RunState) (n : ℕ) (o : Option Outcome) → n < count_of r.plan → lacks_outcome r n ≡ true → IsOver r → is_stopped r ≡ false → IsBlocking r n o → EndsNow r n o
blocking_now r n None lt lacks over running is = λ l. (running, is)
blocking_now r n (Some o) lt lacks over running (w, same, may) =
    let first : first_lacking (core_of_run r).recorded (plan_of r.plan n).after ≡ Some w = blocker_first (core_of_run r) (plan_of r.plan n).after w (blocked_for r n w lt lacks (over.closed n) running may) in (
      lacks,
      same ∙ ap (λ (x : Option ℕ). blocked_by x) (sym first) ∙ ap (λ (b : Bool). if b then stop_for r n else blocked_by (first_lacking (core_of_run r).recorded (plan_of r.plan n).after)) (sym running),
      subst (λ (x : Outcome). may_take r (Ended n x) ≡ true) (sym same) may,
    )

pub stopped_now : (r : RunState) (n : ℕ) (o : Outcome) → n < count_of r.plan → lacks_outcome r n ≡ true → is_stopped r ≡ true → o ≡ stop_for r n → EndsNow r n (Some o)
stopped_now r n o lt lacks stopped same = (
  lacks,
  same ∙ ap (λ (b : Bool). if b then stop_for r n else blocked_by (first_lacking (core_of_run r).recorded (plan_of r.plan n).after)) (sym stopped),
  subst (λ (x : Outcome). may_take r (Ended n x) ≡ true) (sym same) (stop_may r n lt lacks stopped),
)

pub ended_now : (r : RunState) (n : ℕ) → lacks_outcome r n ≡ false → EndsNow r n None
ended_now r n has lacks = absurd (false≢true (sym has ∙ lacks))

-- ------ an end
never : (n : ℕ) → nat_lt n n ≡ false
never n = le-ltb n n (omega arith)

unlost : (P : List UnitPlan) (R : Entry → Bool) (b : Bool) (slots : ℕ → Slot) (n : ℕ) → b ≡ false → slots_lost P R b slots n ≡ slots n
unlost P R true slots n e = absurd (false≢true (sym e))
unlost P R false slots n e = refl

core_with : (r : RunState) (e : Event) → core_of_run (with_event e r) ≡ core_after r.rules r.plan e (core_of_run r)
core_with r e = core_more r.rules r.plan (core_start r.plan (has_entry r.found)) r.events e

-- all that it changes is the outcome of the one unit
record EndsOne (u : ℕ) (o : Outcome) (c d : Core) : Type 0 where
  pub stop : d.halt.stop ≡ c.halt.stop
  pub recorded : d.recorded ≡ c.recorded
  pub faulted : (n : ℕ) → (d.slots n).faulted ≡ (c.slots n).faulted
  pub claimed : (n : ℕ) → (d.slots n).claimed ≡ (c.slots n).claimed
  pub own : (d.slots u).outcome ≡ Some o
  pub others : (n : ℕ) → n ≢ u → (d.slots n).outcome ≡ (c.slots n).outcome

stop_same : (rules : LinkRules) (u : ℕ) (o : Outcome) (s : Option Outcome) (l : Link) → (s ≡ None → link_stop rules l ≡ None) → stop_after s (Ended u o) rules l ≡ s
stop_same rules u o (Some x) l free = refl
stop_same rules u o None l free = free refl

slot_is : (rules : LinkRules) (P : List UnitPlan) (c : Core) (u : ℕ) (o : Outcome) (n : ℕ) → (core_after rules P (Ended u o) c).slots n ≡ with_slot u (record (c.slots u) { outcome = Some o }) c.slots n
slot_is rules P c u o n = unlost P c.recorded (nat_lt c.link.losses c.link.losses) (with_slot u (record (c.slots u) { outcome = Some o }) c.slots) n (never c.link.losses)

ends_core : (rules : LinkRules) (P : List UnitPlan) (c : Core) (u : ℕ) (o : Outcome) → IsSettled rules c → EndsOne u o c (core_after rules P (Ended u o) c)
ends_core rules P c u o settled = record {
  stop = stop_same rules u o c.halt.stop c.link settled.running;
  recorded = refl;
  faulted = λ n. ap (λ (s : Slot). s.faulted) (slot_is rules P c u o n) ∙ faulted_in n;
  claimed = λ n. ap (λ (s : Slot). s.claimed) (slot_is rules P c u o n) ∙ claimed_in n;
  own = ap (λ (s : Slot). s.outcome) (slot_is rules P c u o u) ∙ ap (λ (b : Bool). (if b then (record (c.slots u) { outcome = Some o }) else c.slots u).outcome) (eq-eqb u u refl);
  others = λ n ne. ap (λ (s : Slot). s.outcome) (slot_is rules P c u o n) ∙ ap (λ (b : Bool). (if b then (record (c.slots u) { outcome = Some o }) else c.slots n).outcome) (ne_eqb n u ne);
}
  where
    faulted_in : (n : ℕ) → (with_slot u (record (c.slots u) { outcome = Some o }) c.slots n).faulted ≡ (c.slots n).faulted
    faulted_in n = elim (cases_Bool (n == u)) [
      | inl e ↦ ap (λ (b : Bool). (if b then (record (c.slots u) { outcome = Some o }) else c.slots n).faulted) e ∙ ap (λ (k : ℕ). (c.slots k).faulted) (sym (eqb-true n u e))
      | inr e ↦ ap (λ (b : Bool). (if b then (record (c.slots u) { outcome = Some o }) else c.slots n).faulted) e
    ]

    claimed_in : (n : ℕ) → (with_slot u (record (c.slots u) { outcome = Some o }) c.slots n).claimed ≡ (c.slots n).claimed
    claimed_in n = elim (cases_Bool (n == u)) [
      | inl e ↦ ap (λ (b : Bool). (if b then (record (c.slots u) { outcome = Some o }) else c.slots n).claimed) e ∙ ap (λ (k : ℕ). (c.slots k).claimed) (sym (eqb-true n u e))
      | inr e ↦ ap (λ (b : Bool). (if b then (record (c.slots u) { outcome = Some o }) else c.slots n).claimed) e
    ]

module _ (r : RunState) (u : ℕ) (o : Outcome) (settled : IsSettled r.rules (core_of_run r)) where
  one : EndsOne u o (core_of_run r) (core_of_run (with_event (Ended u o) r))
  one = subst (λ (d : Core). EndsOne u o (core_of_run r) d) (sym (core_with r (Ended u o))) (ends_core r.rules r.plan (core_of_run r) u o settled)

  stopped_same : is_stopped (with_event (Ended u o) r) ≡ is_stopped r
  stopped_same = ap (λ (s : Option Outcome). r.starved || is_some s) one.stop

  left_same : (n : ℕ) → left_outcome (with_event (Ended u o) r) n ≡ left_outcome r n
  left_same n = λ i. if stopped_same i then (if one.faulted n i then DiskFault else if r.starved then NoMemory else stop_or (one.stop i)) else blocked_by (first_lacking (one.recorded i) (plan_of r.plan n).after)

  over_kept : IsOver r → IsOver (with_event (Ended u o) r)
  over_kept over = record {
    closed = λ n. elim (cases_Bool (n == u)) [
      | inl e ↦ (let is : n ≡ u = eqb-true n u e in
          ap (λ (x : Option Outcome). nat_lt n (count_of r.plan) && ((core_of_run (with_event (Ended u o) r)).slots n).claimed && is_none x) (ap (λ (k : ℕ). ((core_of_run (with_event (Ended u o) r)).slots k).outcome) is ∙ one.own)
          ∙ and_none (nat_lt n (count_of r.plan) && ((core_of_run (with_event (Ended u o) r)).slots n).claimed))
      | inr e ↦ (λ i. nat_lt n (count_of r.plan) && one.claimed n i && is_none (one.others n (differ n u e) i)) ∙ over.closed n
    ];
    idle = λ running n. elim (cases_Bool (n == u)) [
      | inl e ↦ (let is : n ≡ u = eqb-true n u e in
          let none : is_none ((core_of_run (with_event (Ended u o) r)).slots n).outcome ≡ false = ap (λ (x : Option Outcome). is_none x) (ap (λ (k : ℕ). ((core_of_run (with_event (Ended u o) r)).slots k).outcome) is ∙ one.own) in
          not_ready (nat_lt n (count_of r.plan)) (is_none ((core_of_run (with_event (Ended u o) r)).slots n).outcome) (not ((core_of_run (with_event (Ended u o) r)).slots n).claimed)
          (all_of (plan_of r.plan n).after (λ w. (core_of_run (with_event (Ended u o) r)).recorded (entry.Complete w))) none)
      | inr e ↦ (λ i. nat_lt n (count_of r.plan) && is_none (one.others n (differ n u e) i) && not (one.claimed n i) && all_of (plan_of r.plan n).after (λ w. one.recorded i (entry.Complete w)))
          ∙ over.idle (sym stopped_same ∙ running) n
    ];
  }
    where
      differ : (a b : ℕ) → (a == b) ≡ false → a ≢ b
      differ a b e is = false≢true (sym e ∙ eq-eqb a b is)

      not_ready : (a b x y : Bool) → b ≡ false → (a && b && x && y) ≡ false
      not_ready true true x y e = absurd (false≢true (sym e))
      not_ready true false x y e = refl
      not_ready false b x y e = refl

-- ------ the loop
abbrev IsLeft : RunState → RunState → ℕ → Type 0
IsLeft start now n = (lacks_outcome now n ≡ true) ⊎ (((core_of_run now).slots n).outcome ≡ Some (left_outcome start n))

pub record IsEnding (start now : RunState) : Type 0 where
  pub events : List Event
  pub are : are_ends events ≡ true
  pub takes : TakesAll start events
  pub becomes : now ≡ takes_all events start
  pub plan : now.plan ≡ start.plan
  pub over : IsOver now
  pub left : (n : ℕ) → left_outcome now n ≡ left_outcome start n
  pub stay : (n : ℕ) → lacks_outcome start n ≡ false → ((core_of_run now).slots n).outcome ≡ ((core_of_run start).slots n).outcome
  pub given : (n : ℕ) → lacks_outcome start n ≡ true → IsLeft start now n

pub ending_starts : (r : RunState) → IsOver r → IsEnding r r
ending_starts r over = record { events = []; are = refl; takes = tt; becomes = refl; plan = refl; over = over; left = λ n. refl; stay = λ n has. refl; given = λ n lacks. inl lacks }

ends_more : (es : List Event) (u : ℕ) (o : Outcome) → are_ends es ≡ true → are_ends (es ++ Ended u o ∷ []) ≡ true
ends_more [] u o are = refl
ends_more (e ∷ es) u o are = let p = and_parts (is_end_event e) (are_ends es) are in and_from (is_end_event e) (are_ends (es ++ Ended u o ∷ [])) p.0 (ends_more es u o p.1)

takes_more : (es : List Event) (e : Event) (r : RunState) → TakesAll r es → may_take (takes_all es r) e ≡ true → TakesAll r (es ++ e ∷ [])
takes_more [] e r takes may = (may, tt)
takes_more (x ∷ xs) e r takes may = (takes.0, takes_more xs e (with_event x r) takes.1 may)

all_more : (es : List Event) (e : Event) (r : RunState) → with_event e (takes_all es r) ≡ takes_all (es ++ e ∷ []) r
all_more [] e r = refl
all_more (x ∷ xs) e r = all_more xs e (with_event x r)

pub ending_next : (start now now2 : RunState) (u : ℕ) (o : Outcome) → IsEnding start now → IsKept now → EndsNow now u (Some o) → now2 ≡ with_event (Ended u o) now → IsEnding start now2
ending_next start now now2 u o e kept ends did = subst (λ (x : RunState). IsEnding start x) (sym did) (record {
  events = e.events ++ Ended u o ∷ [];
  are = ends_more e.events u o e.are;
  takes = takes_more e.events (Ended u o) start e.takes (ap (λ (x : RunState). may_take x (Ended u o)) (sym e.becomes) ∙ ends.2);
  becomes = ap (λ (x : RunState). with_event (Ended u o) x) e.becomes ∙ all_more e.events (Ended u o) start;
  plan = e.plan;
  over = over_kept now u o kept.settled e.over;
  left = λ n. left_same now u o kept.settled n ∙ e.left n;
  stay = λ n has. (one now u o kept.settled).others n (λ is. false≢true (sym (ap (λ (x : Option Outcome). is_none x) (e.stay n has) ∙ has) ∙ ap (λ (k : ℕ). lacks_outcome now k) is ∙ ends.0)) ∙ e.stay n has;
  given = λ n lacks. elim (cases_Bool (n == u)) [
    | inl is ↦ (let same : n ≡ u = eqb-true n u is in
        inr (ap (λ (k : ℕ). ((core_of_run (with_event (Ended u o) now)).slots k).outcome) same ∙ (one now u o kept.settled).own ∙ ap (λ (x : Outcome). Some x) (ends.1 ∙ e.left u ∙ ap (λ (k : ℕ). left_outcome start k) (sym same))))
    | inr other ↦ (let ne : n ≢ u = λ is. false≢true (sym other ∙ eq-eqb n u is) in
        elim (e.given n lacks) [
          | inl still ↦ inl (ap (λ (x : Option Outcome). is_none x) ((one now u o kept.settled).others n ne) ∙ still)
          | inr has ↦ inr ((one now u o kept.settled).others n ne ∙ has)
        ])
  ];
})

-- there is room for it
pub end_room : (r : RunState) (u : ℕ) (o : Outcome) → IsKept r → u < count_of r.plan → lacks_outcome r u ≡ true → left_in r.plan (core_after r.rules r.plan (Ended u o) (core_of_run r)) + 1 ≤ r.room
end_room r u o kept lt lacks =
    let less : left_in r.plan (core_after r.rules r.plan (Ended u o) (core_of_run r)) + 1 ≤ left_in r.plan (core_of_run r) = left_ended r.rules r.plan (core_of_run r) u o lacks lt in
    omega (arith, less, kept.room)

pub end_falls : (r r2 : RunState) (u : ℕ) (o : Outcome) → IsKept r → u < count_of r.plan → lacks_outcome r u ≡ true → r2 ≡ with_event (Ended u o) r → r2.room < r.room
end_falls r r2 u o kept lt lacks did = let room = end_room r u o kept lt lacks in let is : r2.room ≡ r.room - 1 = ap (λ (x : RunState). x.room) did in omega (arith, room, is)

-- ------ in the end each has one
all_apart : (n : ℕ) (vs : List ℕ) → Each (λ v. n ≡ v → ⊥) vs → AllByRecursion (λ y. (n == y) ≡ false) vs
all_apart n [] all = tt
all_apart n (v ∷ vs) all = (ne_eqb n v all.0, all_apart n vs all.1)

one_more : (n : ℕ) (vs : List ℕ) → Each (λ v. n ≡ v → ⊥) vs → IsDistinct (λ a b. a == b) vs → IsDistinct (λ a b. a == b) (n ∷ vs)
unfolding IsDistinct
one_more n vs all distinct = (all_apart n vs all, distinct)

none_yet : IsDistinct (λ (a b : ℕ). a == b) []
unfolding IsDistinct
none_yet = tt

any_below : (bound q : ℕ) (vs : List ℕ) → Each (λ v. v < bound) vs → list_any (λ x. q == x) vs ≡ true → q < bound
any_below bound q [] all e = absurd (false≢true e)
any_below bound q (v ∷ vs) all e = elim (cases_Bool (q == v)) [
  | inl f ↦ let is : q ≡ v = eqb-true q v f in let lt : v < bound = all.0 in omega (arith, is, lt)
  | inr f ↦ any_below bound q vs all.1 (rw f at e)
]

few : (bound : ℕ) (vs : List ℕ) → IsDistinct (λ a b. a == b) vs → Each (λ v. v < bound) vs → length vs ≤ bound
few bound vs distinct all = length-le_from_distinct_below vs bound distinct (λ q e. any_below bound q vs all e)

stands_on : (P : List UnitPlan) (w v u : ℕ) → StandsBefore P w v → StandsBefore P v u → StandsBefore P w u
stands_on P w v u a (next_to x c) = before x v c a
stands_on P w v u a (before x y c s) = before x y c (stands_on P w v y a s)

stands_all : (P : List UnitPlan) (w n : ℕ) (vs : List ℕ) → StandsBefore P w n → Each (StandsBefore P n) vs → Each (StandsBefore P w) vs
stands_all P w n [] a all = tt
stands_all P w n (v ∷ vs) a all = (stands_on P w n v a all.0, stands_all P w n vs a all.1)

apart_all : (P : List UnitPlan) (n : ℕ) (vs : List ℕ) → (StandsBefore P n n → ⊥) → Each (StandsBefore P n) vs → Each (λ v. n ≡ v → ⊥) vs
apart_all P n [] no_cycle all = tt
apart_all P n (v ∷ vs) no_cycle all = (λ is. no_cycle (subst (λ (k : ℕ). StandsBefore P n k) (sym is) all.0), apart_all P n vs no_cycle all.1)

each_of : (Q : ℕ → Type 0) (xs : List ℕ) (x : ℕ) → Each Q xs → Contains xs x → Q x
each_of Q [] x all (k, lt, is) = absurd (omega (arith, lt))
each_of Q (y ∷ ys) x all (k, lt, is) = at (λ later. each_of Q ys x all.1 later) k lt is
  where
    at : (Contains ys x → Q x) → (k : ℕ) → k < suc (length ys) → slice_index_or (y ∷ ys) k x ≡ x → Q x
    at again zero lt is = subst Q is all.0
    at again (suc k) lt is = again (k, omega (arith, lt), is)

-- the first of these that is not complete blocks, once it has an outcome
abbrev Blocks : Core → List ℕ → Type 0
Blocks c xs = (w : ℕ) × Contains xs w × (is_blocker c xs w ≡ is_some (c.slots w).outcome)

blocks : (c : Core) (xs : List ℕ) → all_of xs (λ w. c.recorded (entry.Complete w)) ≡ false → Blocks c xs
blocks c [] none = absurd (false≢true (sym none))
blocks c (x ∷ xs) none = elim (cases_Bool (c.recorded (entry.Complete x))) [
  | inl is ↦ (let p : Blocks c xs = blocks c xs (not_both (c.recorded (entry.Complete x)) (all_of xs (λ w. c.recorded (entry.Complete w))) none is) in
      (p.0, later xs x p.0 p.1, ap (λ (b : Bool). if b then is_blocker c xs p.0 else (x == p.0 && is_some (c.slots x).outcome)) is ∙ p.2))
  | inr other ↦ (x, (0, omega arith, refl), ap (λ (b : Bool). if b then is_blocker c xs x else (x == x && is_some (c.slots x).outcome)) other ∙ ap (λ (b : Bool). b && is_some (c.slots x).outcome) (eq-eqb x x refl))
]
  where
    later : (ys : List ℕ) (y w : ℕ) → Contains ys w → Contains (y ∷ ys) w
    later ys y w (k, lt, is) = (suc k, omega (arith, lt), is)

module _ (r : RunState) (accepted : IsAccepted r.plan) (over : IsOver r) (ends : EndsSome r None) where
  -- a unit without outcome waits for another
  next : (n : ℕ) → n < count_of r.plan → lacks_outcome r n ≡ true → (w : ℕ) × Contains (plan_of r.plan n).after w × (lacks_outcome r w ≡ true)
  next n lt lacks =
      let c : Core = core_of_run r in
      let now = ends n lt lacks in
      let not_claimed : not (c.slots n).claimed ≡ true = ap (λ (b : Bool). not b) (unclaimed r n lt lacks (over.closed n)) in
      let first : all_of (plan_of r.plan n).after (λ w. c.recorded (entry.Complete w)) ≡ false =
      not_both (nat_lt n (count_of r.plan) && lacks_outcome r n && not (c.slots n).claimed) (all_of (plan_of r.plan n).after (λ w. c.recorded (entry.Complete w))) (over.idle now.0 n)
      (and_from (nat_lt n (count_of r.plan) && lacks_outcome r n) (not (c.slots n).claimed) (and_from (nat_lt n (count_of r.plan)) (lacks_outcome r n) (lt-ltb n (count_of r.plan) lt) lacks) not_claimed) in
      let p : Blocks c (plan_of r.plan n).after = blocks c (plan_of r.plan n).after first in (
        p.0,
        p.1,
        elim (cases_Bool (is_some (c.slots p.0).outcome)) [
          | inl has ↦ absurd (false≢true (sym (now.1 p.0 p.1) ∙ may (p.0) (p.2 ∙ has)))
          | inr none ↦ not_some (c.slots p.0).outcome none
        ],
      )
    where
      may : (w : ℕ) → is_blocker (core_of_run r) (plan_of r.plan n).after w ≡ true → may_take r (Ended n (Blocked w)) ≡ true
      may w is =
          let c : Core = core_of_run r in
          and_from (not r.starved || true) (may_end r.plan c n (Blocked w)) (may_any r.starved)
          (and_from (nat_lt n (count_of r.plan) && lacks_outcome r n) _ (and_from (nat_lt n (count_of r.plan)) (lacks_outcome r n) (lt-ltb n (count_of r.plan) lt) lacks)
          (or_right (((c.slots n).claimed && is_end (c.slots n).talk.place (Blocked w)) || (if (c.slots n).faulted then same_outcome DiskFault (Blocked w) else is_stop c.halt.stop (Blocked w)) || false) (is_blocker c (plan_of r.plan n).after w) is))

  along : (fuel : ℕ) (vs : List ℕ) (n : ℕ) → n < count_of r.plan → lacks_outcome r n ≡ true → IsDistinct (λ a b. a == b) vs → Each (λ v. v < count_of r.plan) vs → Each (StandsBefore r.plan n) vs → count_of r.plan ≤ fuel + length vs → ⊥
  along zero vs n lt lacks distinct below stands enough =
      let more : suc (length vs) ≤ count_of r.plan = few (count_of r.plan) (n ∷ vs) (one_more n vs (apart_all r.plan n vs (accepted.no_cycle n) stands) distinct) (lt, below) in
      omega (arith, more, enough)
  along (suc fuel) vs n lt lacks distinct below stands enough =
      let w = next n lt lacks in
      let w_lt : w.0 < count_of r.plan = each_of (λ k. k < count_of r.plan) (plan_of r.plan n).after w.0 (accepted.after n lt) w.1 in
      let by : StandsBefore r.plan w.0 n = next_to n w.1 in
      along fuel (n ∷ vs) w.0 w_lt w.2 (one_more n vs (apart_all r.plan n vs (accepted.no_cycle n) stands) distinct) (lt, below) (by, stands_all r.plan w.0 n vs by stands) (omega (arith, enough))

  pub all_ended : AllEnded r
  all_ended n lt = elim (cases_Bool (lacks_outcome r n)) [
    | inl lacks ↦ absurd (along (count_of r.plan) [] n lt lacks none_yet tt tt (omega arith))
    | inr has ↦ has
  ]

pub finishes : (start now : RunState) → IsEnding start now → AllEnded now → Finishes start now
finishes start now e all = record {
  events = e.events;
  are = e.are;
  takes = e.takes;
  becomes = e.becomes;
  stay = e.stay;
  given = λ n lt lacks. elim (e.given n lacks) [
    | inl still ↦ absurd (false≢true (sym (all n (subst (λ (P : List UnitPlan). n < count_of P) (sym e.plan) lt)) ∙ still))
    | inr has ↦ has
  ];
}

-- ------ that none would be claimed says that none is ready
least : (f : ℕ → Bool) (n m : ℕ) → m < n → f m ≡ true → (k : ℕ) × (f k ≡ true) × (each_below k (λ w. not (f w)) ≡ true)
least f zero m lt is = absurd (omega (arith, lt))
least f (suc n) m lt is = elim (cases_Bool (each_below n (λ w. not (f w)))) [
  | inl none ↦ at (m == n) refl none
  | inr some ↦ (let p = found f n some in least f n p.0 p.1 p.2)
]
  where
    found : (g : ℕ → Bool) (k : ℕ) → each_below k (λ w. not (g w)) ≡ false → (j : ℕ) × (j < k) × (g j ≡ true)
    found g zero e = absurd (false≢true (sym e))
    found g (suc k) e = elim (cases_Bool (g k)) [
      | inl yes_k ↦ (k, omega arith, yes_k)
      | inr no_k ↦
          let p = found g k (not_both (not (g k)) (each_below k (λ w. not (g w))) (swap (each_below k (λ w. not (g w))) (not (g k)) e) (ap (λ (b : Bool). not b) no_k)) in
          (p.0, (let l : p.0 < k = p.1 in omega (arith, l)), p.2)
    ]
      where
        swap : (a b : Bool) → (a && b) ≡ false → (b && a) ≡ false
        swap true true e' = e'
        swap true false e' = refl
        swap false true e' = refl
        swap false false e' = refl

    at : (b : Bool) → (m == n) ≡ b → each_below n (λ w. not (f w)) ≡ true → (k : ℕ) × (f k ≡ true) × (each_below k (λ w. not (f w)) ≡ true)
    at true e none = let same : m ≡ n = eqb-true m n e in (n, ap f (sym same) ∙ is, none)
    at false e none = let less : m < n = omega (arith, lt, λ (same : m ≡ n). false≢true (sym e ∙ eq-eqb m n same)) in absurd (false≢true (sym (below f n m less none) ∙ is))
      where
        below : (g : ℕ → Bool) (k j : ℕ) → j < k → each_below k (λ w. not (g w)) ≡ true → g j ≡ false
        below g zero j l none' = absurd (omega (arith, l))
        below g (suc k) j l none' = elim (cases_Bool (j == k)) [
          | inl e' ↦ ap g (eqb-true j k e') ∙ not_true (g k) (and_parts (each_below k (λ w. not (g w))) (not (g k)) none').1
          | inr e' ↦ (let less : j < k = omega (arith, l, λ (same : j ≡ k). false≢true (sym e' ∙ eq-eqb j k same)) in below g k j less (and_parts (each_below k (λ w. not (g w))) (not (g k)) none').0)
        ]

pub none_ready : (r : RunState) → ((u : ℕ) → may_take r (Claimed u) ≡ false) → NoneReady r
none_ready r none running n = elim (cases_Bool (is_ready r.plan (core_of_run r) n)) [
  | inl ready ↦ (let p = least (is_ready r.plan (core_of_run r)) (suc n) n (omega arith) ready in absurd (false≢true (sym (none p.0) ∙ claims p.0 p.1 p.2)))
  | inr other ↦ other
]
  where
    fed : (b c : Bool) (o : Option Outcome) → (b || is_some o) ≡ false → ((not b || c) ≡ true) × (is_none o ≡ true)
    fed true c o e = absurd (false≢true (sym e))
    fed false c None e = (refl, refl)
    fed false c (Some x) e = absurd (false≢true (sym e))

    claims : (u : ℕ) → is_ready r.plan (core_of_run r) u ≡ true → each_below u (λ w. not (is_ready r.plan (core_of_run r) w)) ≡ true → may_take r (Claimed u) ≡ true
    claims u ready lowest =
        let f = fed r.starved false (core_of_run r).halt.stop running in
        and_from (not r.starved || false) (may_claim r.plan (core_of_run r) u) f.0
        (and_from (is_running (core_of_run r) && is_ready r.plan (core_of_run r) u) (each_below u (λ w. not (is_ready r.plan (core_of_run r) w))) (and_from (is_running (core_of_run r)) (is_ready r.plan (core_of_run r) u) f.1 ready) lowest)

-- ------ the loop over the units that are to be complete before
pub none_blocks : (r : RunState) (n i : ℕ) (xs : List ℕ) → xs ≡ (plan_of r.plan n).after → ((k : ℕ) → k < i → may_take r (Ended n (Blocked (slice_index xs k))) ≡ false) → length xs ≤ i → IsBlocking r n None
none_blocks r n i xs of none all = λ w has.
    let here : Contains xs w = subst (λ (ys : List ℕ). Contains ys w) (sym of) has in
    let k : ℕ = here.0 in
    let lt : k < length xs = here.1 in
    let same : slice_index xs k ≡ w = sym (get_or_default_zero xs k w lt) ∙ here.2 in
    subst (λ (x : ℕ). may_take r (Ended n (Blocked x)) ≡ false) same (none k (omega (arith, lt, all)))

pub plan_after : (r : RunState) (P : List UnitPlan) (n : ℕ) (u : UnitPlan) (xs : List ℕ) → P ≡ r.plan → u ≡ plan_of P n → xs ≡ u.after → xs ≡ (plan_of r.plan n).after
plan_after r P n u xs same of is = is ∙ ap (λ (x : UnitPlan). x.after) of ∙ ap (λ (Q : List UnitPlan). (plan_of Q n).after) same

pub within_run : (r : RunState) (P : List UnitPlan) (n : ℕ) → P ≡ r.plan → n < count_of P → n < count_of r.plan
within_run r P n same lt = subst (λ (Q : List UnitPlan). n < count_of Q) same lt
