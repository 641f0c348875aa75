-- What each event keeps of the core beside its sanity.
use Rattle.std.proofs.Common.{◌≡◌, inl, inr, ℕ, ◌+◌, true, false, List, [], ◌∷◌, ◌++◌, length, None, Some, refl, sym, ◌∙◌, ap, subst, arith}
use Rattle.std.specs.Prelude.{Bool, Option, ◌==◌, ◌||◌, nat_lt, nat_le, is_some, if◌then◌else◌}
use Rattle.std.proofs.lemmas.Bool.{cases_Bool, false≢true, eqb-true, le-ltb}
use Rattle.bay_core.specs.Core.{Core, Slot, Halt, core_after, core_start, with_slot, slots_lost, slots_own, link_after, heard_link, collects, recorded_after, stop_after, link_stop, refused_stop, is_disk_failure, halt_after}
use Rattle.bay_core.specs.declared.event.Event.{Event}
use Rattle.bay_core.specs.declared.event.Event.TheVariants.{Claimed, Began, Sent, Collected, Tended, Marked, Completed, DiskFailed, Ended}
use Rattle.bay_core.specs.declared.event.Heard.{Heard}
use Rattle.bay_core.specs.declared.event.Heard.TheVariants.{Kept, Quiet, Piece, Lost}
use Rattle.flash_base.specs.declared.unit.KeyRule.{KeyRule}
use Rattle.flash_base.specs.declared.unit.KeyRule.TheVariants.{Free, Xor, Digest}
use Rattle.flash_plan.specs.Plan.{plan_of}
use Rattle.flash_plan.specs.declared.outcome.Entry.{Entry}
use Rattle.flash_plan.specs.declared.outcome.Entry.TheVariants as entry
use Rattle.flash_plan.specs.declared.outcome.Outcome.{Outcome}
use Rattle.flash_plan.specs.declared.outcome.Outcome.TheVariants.{DiskFault, LinkLost, PendingLimit, BusyLimit, NoAnswer}
use Rattle.flash_plan.specs.declared.unit.LinkRules.{LinkRules}
use Rattle.flash_plan.specs.declared.unit.Segment.{Segment}
use Rattle.flash_plan.specs.declared.unit.UnitPlan.{UnitPlan}
use Rattle.flash_plan.specs.declared.unit.Wanted.{Wanted}
use Rattle.flash_plan.specs.Outcomes.{with_entry}
use Rattle.run_model.specs.Entries.{with_mark}
use Rattle.run_model.specs.Link.{Link, link_start, first_message}
use Rattle.run_model.specs.Script.{Cursor, Blocks, Place, AtIdent, AtBegin, AtProgram, AtSeed, AtKey, AtErase, AtDownload, AtBlock, AtExit, AtCheck, AtMark, AtFinish, AtReset, AtDone, AtEnd, idents_from, segments_from, start_place, after_program, place_next, place_marked, after_block, is_empty, bytes_at}
use Rattle.run_model.specs.Talk.{Talk, talk_start, end_talk, sid_at, keeps_on_loss, talk_lost, talk_judged, talk_takes, talk_quiet}
use Rattle.run_model.specs.Ways.{UnitMessage, Reply, Nacked}
use Rattle.uds_codec.specs.Answer.{Verdict, Pending, Busy, Refusal, Accepted, BadStatus, Malformed, judge}
use Rattle.uds_codec.specs.Key.{all_zero}
use Rattle.flash_run.specs.Run.{IsSettled, is_early}

none_some : {T : Type 0} (o : Option T) → o ≡ None → is_some o ≡ true → ⊥
none_some o none some = false≢true (ap (λ (x : Option _). is_some x) (sym none) ∙ some)

-- a link that stops nothing was not denied
pub link_free : (rules : LinkRules) (l : Link) → link_stop rules l ≡ None → refused_stop l.phase ≡ None
link_free rules l none = elim (cases_Bool (nat_lt rules.relinks l.losses)) [
  | inl e ↦ absurd (none_some (link_stop rules l) none (lost_some (nat_lt rules.relinks l.losses) e))
  | inr e ↦ sym (past (nat_lt rules.relinks l.losses) e) ∙ none
]
  where
    lost_some : (b : Bool) → b ≡ true → is_some (if b then Some (LinkLost l.losses) else refused_stop l.phase) ≡ true
    lost_some true e = refl
    lost_some false e = absurd (false≢true e)

    past : (b : Bool) → b ≡ false → (if b then Some (LinkLost l.losses) else refused_stop l.phase) ≡ refused_stop l.phase
    past true e = absurd (false≢true (sym e))
    past false e = refl

stop_free : (o : Option Outcome) (e : Event) (rules : LinkRules) (l : Link) → stop_after o e rules l ≡ None → link_stop rules l ≡ None
stop_free (Some x) e rules l none = absurd (none_some (Some x) none refl)
stop_free None e rules l none = by (is_disk_failure e) none
  where
    by : (b : Bool) → (if b then Some DiskFault else link_stop rules l) ≡ None → link_stop rules l ≡ None
    by true none' = absurd (none_some (Some DiskFault) none' refl)
    by false none' = none'

-- a failed append stops a run
stop_fails : (o : Option Outcome) (e : Event) (rules : LinkRules) (l : Link) → is_disk_failure e ≡ true → is_some (stop_after o e rules l) ≡ true
stop_fails (Some x) e rules l is = refl
stop_fails None e rules l is = rw is refl

stop_stays : (o : Option Outcome) (e : Event) (rules : LinkRules) (l : Link) → is_some o ≡ true → is_some (stop_after o e rules l) ≡ true
stop_stays (Some x) e rules l is = refl
stop_stays None e rules l is = absurd (false≢true is)

lost_faulted : (P : List UnitPlan) (R : Entry → Bool) (lost : Bool) (slots : ℕ → Slot) (n : ℕ) → (slots_lost P R lost slots n).faulted ≡ (slots n).faulted
lost_faulted P R true slots n = refl
lost_faulted P R false slots n = refl

with_faulted : (u n : ℕ) (s : Slot) (slots : ℕ → Slot) → s.faulted ≡ (slots u).faulted → (with_slot u s slots n).faulted ≡ (slots n).faulted
with_faulted u n s slots same = elim (cases_Bool (n == u)) [
  | inl e ↦ rw e (same ∙ ap (λ (k : ℕ). (slots k).faulted) (sym (eqb-true n u e)))
  | inr e ↦ rw e refl
]

-- whether a unit's append failed changes by a failed append alone
own_faulted : (rules : LinkRules) (P : List UnitPlan) (e : Event) (c : Core) (n : ℕ) → is_disk_failure e ≡ false → (slots_own rules P e c n).faulted ≡ (c.slots n).faulted
own_faulted rules P (Claimed u) c n nope = with_faulted u n _ c.slots refl
own_faulted rules P (Began u) c n nope = with_faulted u n _ c.slots refl
own_faulted rules P (Sent u place lost) c n nope = with_faulted u n _ c.slots refl
own_faulted rules P (Collected u h) c n nope = with_faulted u n _ c.slots refl
own_faulted rules P (Tended step) c n nope = refl
own_faulted rules P (Marked u s) c n nope = with_faulted u n _ c.slots refl
own_faulted rules P (Completed u) c n nope = with_faulted u n _ c.slots refl
own_faulted rules P (DiskFailed u entry) c n nope = absurd (false≢true (sym nope))
own_faulted rules P (Ended u why) c n nope = with_faulted u n _ c.slots refl

-- ------ places before Begin
idents_early : (ws : List Wanted) → is_early (idents_from ws) ≡ true
idents_early [] = refl
idents_early (w ∷ ws) = refl

either_early : (b : Bool) (p q : Place) → is_early p ≡ false → is_early q ≡ false → is_early (if b then p else q) ≡ false
either_early true p q here there = here
either_early false p q here there = there

not_early : (skipped : ℕ → Bool) (done ss : List Segment) → is_early (segments_from skipped done ss) ≡ false
not_early skipped done [] = refl
not_early skipped done (s ∷ ss) = either_early (skipped (length done)) (segments_from skipped (done ++ (s ∷ [])) ss) (AtErase (record { done = done; now = s; left = ss })) (not_early skipped (done ++ (s ∷ [])) ss) refl

key_early : (u : UnitPlan) (skipped : ℕ → Bool) (k : KeyRule) → is_early (after_program u skipped k) ≡ false
key_early u skipped Free = not_early skipped [] u.segments
key_early u skipped (Xor level mask) = refl
key_early u skipped (Digest level size secret) = refl

seed_early : (b : Bool) (u : UnitPlan) (skipped : ℕ → Bool) (level : ℕ) (rest : List ℕ) → is_early (if b then segments_from skipped [] u.segments else AtKey level rest) ≡ false
seed_early true u skipped level rest = not_early skipped [] u.segments
seed_early false u skipped level rest = refl

blocks_early : (x : Bool) (c : Cursor) (b : Blocks) → is_early (if x then AtExit c else AtBlock c b) ≡ false
blocks_early true c b = refl
blocks_early false c b = refl

never_early : {X : Type 0} (b : Bool) → b ≡ false → b ≡ true → X
never_early b is_not is = absurd (false≢true (sym is_not ∙ is))

early_next : (u : UnitPlan) (skipped : ℕ → Bool) (place : Place) (rest : List ℕ) → is_early (place_next u skipped place rest) ≡ true → is_early place ≡ true
early_next u skipped (AtIdent w ws) rest is = refl
early_next u skipped AtBegin rest is = refl
early_next u skipped AtProgram rest is = never_early _ (key_early u skipped u.key) is
early_next u skipped (AtSeed level) rest is = never_early _ (seed_early (all_zero rest) u skipped level rest) is
early_next u skipped (AtKey level seed) rest is = never_early _ (not_early skipped [] u.segments) is
early_next u skipped (AtErase c) rest is = absurd (false≢true is)
early_next u skipped (AtDownload c) rest is = never_early _ (blocks_early (is_empty c.now.body) c _) is
early_next u skipped (AtBlock c b) rest is = never_early _ (blocks_early (is_empty (after_block b).rest) c (after_block b)) is
early_next u skipped (AtExit c) rest is = absurd (false≢true is)
early_next u skipped (AtCheck c) rest is = absurd (false≢true is)
early_next u skipped (AtMark c) rest is = absurd (false≢true is)
early_next u skipped AtFinish rest is = absurd (false≢true is)
early_next u skipped AtReset rest is = absurd (false≢true is)
early_next u skipped AtDone rest is = absurd (false≢true is)
early_next u skipped (AtEnd outcome) rest is = absurd (false≢true is)

early_judged : (u : UnitPlan) (tick : ℕ) (v : Verdict) (t : Talk) → is_early (talk_judged u tick v t).place ≡ true → is_early t.place ≡ true
early_judged u tick Pending t is = by (t.pendings == 200) is
  where
    by : (b : Bool) → is_early (if b then end_talk (PendingLimit (sid_at u t)) t else record t { since = tick; pendings = t.pendings + 1 }).place ≡ true → is_early t.place ≡ true
    by true is' = absurd (false≢true is')
    by false is' = is'
early_judged u tick Busy t is = by (t.busies == 20) is
  where
    by : (b : Bool) → is_early (if b then end_talk (BusyLimit (sid_at u t)) t else record t { awaiting = false; pendings = 0; busies = t.busies + 1 }).place ≡ true → is_early t.place ≡ true
    by true is' = absurd (false≢true is')
    by false is' = is'
early_judged u tick (Refusal nrc) t is = absurd (false≢true is)
early_judged u tick (Accepted rest) t is = early_next u t.marks t.place rest is
early_judged u tick (BadStatus status) t is = absurd (false≢true is)
early_judged u tick Malformed t is = absurd (false≢true is)

early_takes : (u : UnitPlan) (tick : ℕ) (o : Option UnitMessage) (t : Talk) → is_early (talk_takes u tick o t).place ≡ true → is_early t.place ≡ true
early_takes u tick None t is = is
early_takes u tick (Some (Reply body)) t is = early_judged u tick (judge (bytes_at u t.place) body) t is
early_takes u tick (Some (Nacked code)) t is = absurd (false≢true is)

early_quiet : (u : UnitPlan) (tick : ℕ) (t : Talk) → is_early (talk_quiet u tick t).place ≡ true → is_early t.place ≡ true
early_quiet u tick t is = by (nat_le (t.since + 1000) tick) is
  where
    by : (b : Bool) → is_early (if b then end_talk (NoAnswer (sid_at u t)) t else t).place ≡ true → is_early t.place ≡ true
    by true is' = absurd (false≢true is')
    by false is' = is'

early_collects : (P : List UnitPlan) (rules : LinkRules) (u : ℕ) (h : Heard) (l : Link) (t : Talk) → is_early (collects P rules u h l t).place ≡ true → is_early t.place ≡ true
early_collects P rules u Kept l t is = early_takes (plan_of P u) l.ticks (first_message (plan_of P u).address l.inbox) t is
early_collects P rules u Quiet l t is = early_quiet (plan_of P u) (l.ticks + 1) t is
early_collects P rules u (Piece bytes) l t is = early_takes (plan_of P u) l.ticks (first_message (plan_of P u).address (heard_link rules P (Piece bytes) l).inbox) t is
early_collects P rules u Lost l t is = is

early_place : (skipped : ℕ → Bool) (p : Place) → is_early (place_marked skipped p) ≡ true → is_early p ≡ true
early_place skipped (AtIdent w ws) is = is
early_place skipped AtBegin is = is
early_place skipped AtProgram is = is
early_place skipped (AtSeed level) is = is
early_place skipped (AtKey level seed) is = is
early_place skipped (AtErase c) is = is
early_place skipped (AtDownload c) is = is
early_place skipped (AtBlock c b) is = is
early_place skipped (AtExit c) is = is
early_place skipped (AtCheck c) is = is
early_place skipped (AtMark c) is = never_early _ (not_early skipped (c.done ++ (c.now ∷ [])) c.left) is
early_place skipped AtFinish is = is
early_place skipped AtReset is = is
early_place skipped AtDone is = is
early_place skipped (AtEnd outcome) is = is

early_start : (u : UnitPlan) (begun : Bool) → is_early (start_place u begun) ≡ true → begun ≡ false
early_start u true is = absurd (false≢true is)
early_start u false is = refl

early_lost : (u : UnitPlan) (begun : Bool) (t : Talk) → (is_early t.place ≡ true → begun ≡ false) → is_early (talk_lost u begun t).place ≡ true → begun ≡ false
early_lost u begun t was is = by (keeps_on_loss t.place) is
  where
    by : (b : Bool) → is_early (if b then t else talk_start u begun t.marks).place ≡ true → begun ≡ false
    by true is' = was is'
    by false is' = early_start u begun is'

abbrev AreEarly : (ℕ → Slot) → (Entry → Bool) → Type 0
AreEarly slots R = (n : ℕ) → is_early (slots n).talk.place ≡ true → R (entry.Begun n) ≡ false

-- one slot changes, and of the others no Begun comes
with_early : (u : ℕ) (s : Slot) (slots : ℕ → Slot) (R R2 : Entry → Bool) → (is_early s.talk.place ≡ true → R2 (entry.Begun u) ≡ false) → ((n : ℕ) → (n == u) ≡ false → R2 (entry.Begun n) ≡ R (entry.Begun n)) → AreEarly slots R
    → AreEarly (with_slot u s slots) R2
with_early u s slots R R2 here others are n is = elim (cases_Bool (n == u)) [
  | inl e ↦ subst (λ (k : ℕ). R2 (entry.Begun k) ≡ false) (sym (eqb-true n u e)) (here (ap (λ (b : Bool). is_early (if b then s else slots n).talk.place) (sym e) ∙ is))
  | inr e ↦ others n e ∙ are n (ap (λ (b : Bool). is_early (if b then s else slots n).talk.place) (sym e) ∙ is)
]

own_early : (rules : LinkRules) (P : List UnitPlan) (e : Event) (c : Core) → AreEarly c.slots c.recorded → AreEarly (slots_own rules P e c) (recorded_after e c.recorded)
own_early rules P (Claimed u) c are = with_early u _ c.slots c.recorded c.recorded (early_start (plan_of P u) (c.recorded (entry.Begun u))) (λ n ne. refl) are
own_early rules P (Began u) c are = with_early u _ c.slots c.recorded (with_entry (entry.Begun u) c.recorded) (λ is. absurd (false≢true is)) (λ n ne. ap (λ (b : Bool). b || c.recorded (entry.Begun n)) ne) are
own_early rules P (Sent u place lost) c are = with_early u _ c.slots c.recorded c.recorded (are u) (λ n ne. refl) are
own_early rules P (Collected u h) c are = with_early u _ c.slots c.recorded c.recorded (λ is. are u (early_collects P rules u h c.link (c.slots u).talk is)) (λ n ne. refl) are
own_early rules P (Tended step) c are = are
own_early rules P (Marked u s) c are =
    with_early u _ c.slots c.recorded (with_entry (entry.Marked u s) c.recorded) (λ is. are u (early_place (with_mark s (c.slots u).talk.marks) (c.slots u).talk.place is)) (λ n ne. refl) are
own_early rules P (Completed u) c are = with_early u _ c.slots c.recorded (with_entry (entry.Complete u) c.recorded) (are u) (λ n ne. refl) are
own_early rules P (DiskFailed u x) c are = with_early u _ c.slots c.recorded c.recorded (are u) (λ n ne. refl) are
own_early rules P (Ended u why) c are = with_early u _ c.slots c.recorded c.recorded (are u) (λ n ne. refl) are

lost_early : (P : List UnitPlan) (R : Entry → Bool) (lost : Bool) (slots : ℕ → Slot) → AreEarly slots R → AreEarly (slots_lost P R lost slots) R
lost_early P R true slots are n is = early_lost (plan_of P n) (R (entry.Begun n)) (slots n).talk (are n) is
lost_early P R false slots are n is = are n is

never_less : (rules : LinkRules) → link_stop rules link_start ≡ None
never_less rules = let below : nat_lt rules.relinks 0 ≡ false = le-ltb _ _ (omega arith) in rw below refl

pub settled_start : (rules : LinkRules) (P : List UnitPlan) (found : Entry → Bool) → IsSettled rules (core_start P found)
settled_start rules P found = record { before = λ e. refl; running = λ e. never_less rules; early = λ n is. early_start (plan_of P n) (found (entry.Begun n)) is; faulted = λ n e. absurd (false≢true e); failed = λ e. absurd (false≢true e) }

pub settled_kept : (rules : LinkRules) (P : List UnitPlan) (e : Event) (c : Core) → IsSettled rules c → IsSettled rules (core_after rules P e c)
settled_kept rules P e c is = elim (cases_Bool (is_disk_failure e)) [
  | inl fails ↦ record {
    before = λ f. absurd (false≢true (sym f ∙ or_first (is_disk_failure e) c.halt.failed fails));
    running = λ none. stop_free c.halt.stop e rules (link_after rules P e c.link) none;
    early = lost_early P (recorded_after e c.recorded) (nat_lt c.link.losses (link_after rules P e c.link).losses) (slots_own rules P e c) (own_early rules P e c is.early);
    faulted = λ n f. or_first (is_disk_failure e) c.halt.failed fails;
    failed = λ f. stop_fails c.halt.stop e rules (link_after rules P e c.link) fails;
  }
  | inr nope ↦ record {
    before = λ f. same_before (is_disk_failure e) c.before (halt_after c.halt e rules (link_after rules P e c.link)) nope;
    running = λ none. stop_free c.halt.stop e rules (link_after rules P e c.link) none;
    early = lost_early P (recorded_after e c.recorded) (nat_lt c.link.losses (link_after rules P e c.link).losses) (slots_own rules P e c) (own_early rules P e c is.early);
    faulted = λ n f.
        or_second (is_disk_failure e) c.halt.failed (is.faulted n
        (sym (lost_faulted P (recorded_after e c.recorded) (nat_lt c.link.losses (link_after rules P e c.link).losses) (slots_own rules P e c) n ∙ own_faulted rules P e c n nope) ∙ f));
    failed = λ f. stop_stays c.halt.stop e rules (link_after rules P e c.link) (is.failed (or_left (is_disk_failure e) c.halt.failed nope f));
  }
]
  where
    or_first : (a b : Bool) → a ≡ true → (a || b) ≡ true
    or_first a b e' = rw e' refl

    or_second : (a b : Bool) → b ≡ true → (a || b) ≡ true
    or_second true b e' = refl
    or_second false b e' = e'

    or_left : (a b : Bool) → a ≡ false → (a || b) ≡ true → b ≡ true
    or_left true b nay is' = absurd (false≢true (sym nay))
    or_left false b nay is' = is'

    same_before : (a : Bool) (x y : Halt) → a ≡ false → (if a then x else y) ≡ y
    same_before true x y nay = absurd (false≢true (sym nay))
    same_before false x y nay = refl
