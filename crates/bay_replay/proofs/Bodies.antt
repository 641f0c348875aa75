-- What an event's own effect leaves held.
use Rattle.std.proofs.Common.{◌≡◌, ◌≢◌, ℕ, ◌^◌, ◌<◌, true, false, List, length, Some, None, refl, sym, ◌∙◌, ap, subst, arith}
use Rattle.std.specs.Prelude.{Bool, Option, set, is_some, is_none, ◌==◌, ◌&&◌, ◌||◌, not, if◌then◌else◌}
use Rattle.std.proofs.lemmas.Bool.{false≢true, and_parts, and_left, and_right, ltb-true}
use Rattle.std.proofs.Math.ListN.{length-set}
use Rattle.barrier_board.specs.Board.{post_of, post_start, at_unit, give, take_up, says_complete, has_entry}
use Rattle.barrier_board.specs.declared.post.Post.{Post}
use Rattle.barrier_board.proofs.Posts.{post_set, post_put}
use Rattle.bay_core.specs.Core.{Core, Slot, with_slot, with_talk, addresses_of, slot_claimed, slot_start}
use Rattle.bay_core.specs.Legal.{is_open_unit, may_send, may_record, may_end, is_clear, without_failures}
use Rattle.bay_core.specs.declared.event.Event.TheVariants as event
use Rattle.bay_core.proofs.Allowed.{begin_facts, mark_facts, finish_facts, running_stop}
use Rattle.bay_core.proofs.Piecing.{known_address}
use Rattle.flash_plan.specs.declared.outcome.Entry.{Entry}
use Rattle.flash_plan.specs.declared.outcome.Entry.TheVariants as entry
use Rattle.flash_plan.specs.declared.outcome.Outcome.{Outcome}
use Rattle.flash_plan.specs.declared.outcome.Outcome.TheVariants.{Complete}
use Rattle.flash_plan.specs.declared.unit.UnitPlan.{UnitPlan}
use Rattle.flash_plan.specs.Plan.{IsAcceptedUnit, plan_of, count_of}
use Rattle.link_state.specs.Inboxes.{message_of}
use Rattle.link_state.specs.declared.inbox.Message.{Message}
use Rattle.link_state.specs.State.{Shows, IsOf, SameLabels, units_of, loss_count}
use Rattle.link_state.specs.declared.state.LinkState.{LinkState}
use Rattle.flash_plan.specs.Outcomes.{with_entry}
use Rattle.run_model.specs.Entries.{marks_of}
use Rattle.run_model.specs.Link.{Link, take_message, first_message, is_known}
use Rattle.run_model.specs.Places.{is_ended, needs_request}
use Rattle.run_model.specs.Script.{request_at}
use Rattle.run_model.specs.Talk.{Talk, talk_takes, talk_hears, talk_start, talk_marked}
use Rattle.run_model.specs.Ways.{UnitMessage}
use Rattle.unit_session.specs.Session as session
use Rattle.unit_session.specs.Session.{talk_of, is_begun}
use Rattle.unit_session.specs.declared.session.UnitSession.{UnitSession}
use Rattle.bay_replay.specs.declared.state.Core as kept
use Rattle.bay_replay.specs.declared.units.Unit.{Unit as Kept}
use Rattle.bay_replay.specs.Units.{unit_of, IsFresh, low_marks, kept_talk}
use Rattle.bay_replay.specs.Held.{Told, HoldsSlot, HoldsSlots, HoldsBody, Holds, told_own}
use Rattle.bay_replay.specs.Hears.{told_heard, HasHeard}
use Rattle.bay_replay.specs.Verdict.{EndsRightly}
use Rattle.bay_replay.proofs.Marks.{hears_low}
use Rattle.bay_replay.proofs.Slots.{SameOf, same_of, slots_put, unit_slots, unit_set, unit_put, same_slots, talked_slot, entry_here, begun_else, mark_here, mark_else}
use Rattle.bay_replay.proofs.Verdicts.{start_right, marked_right}
use Rattle.bay_core.proofs.Sending.{place_goes}

-- ------ labels of a link
pub labels_kept : (tester : ℕ) (addresses : List ℕ) (l l2 : LinkState) → SameLabels l l2 → IsOf tester addresses l → IsOf tester addresses l2
labels_kept tester addresses l l2 same of = record { tester_is = same.tester_same ∙ of.tester_is; units_are = same.units_same ∙ of.units_are }

-- ------ the link changes
pub link_body : (P : List UnitPlan) (k : kept.Core) (t : Told) (l2 : LinkState) (m : Link) → HoldsBody P k t → Shows l2 m → IsOf t.rules.tester (addresses_of P) l2
    → HoldsBody P (record k { link = l2 }) (record t { core = record t.core { link = m } })
link_body P k t l2 m b shows labels = record { posts = b.posts; units = b.units; slots = b.slots; link = shows; labels = labels; halt = b.halt; before = b.before; right = b.right }

-- ------ the link changes, and one conversation
pub talked_body : (P : List UnitPlan) (k : kept.Core) (t : Told) (u : ℕ) (said : UnitSession) (f : Talk → Talk) (l2 : LinkState) (m : Link) (units2 : List Kept)
    → u < count_of P → HoldsBody P k t → Shows l2 m → IsOf t.rules.tester (addresses_of P) l2 → units2 ≡ set k.units u (record (unit_of k.units u) { session = said })
    → (t.core.slots u).claimed ≡ true → is_begun said ≡ is_begun (unit_of k.units u).session → talk_of (plan_of P u) said ≡ kept_talk (f (t.core.slots u).talk)
    → ((n : ℕ) → (f (t.core.slots u).talk).marks n ≡ (t.core.slots u).talk.marks n) → session.IsOf (plan_of P u) said → EndsRightly (f (t.core.slots u).talk).place
    → HoldsBody P (record k { link = l2; units = units2 }) (record t { core = record t.core { link = m; slots = with_slot u (with_talk f (t.core.slots u)) t.core.slots } })
talked_body P k t u said f l2 m units2 lt b shows labels units_are claimed known talk marks fits ends = record {
  posts = b.posts;
  units = ap (λ (us : List Kept). length us) units_are ∙ length-set k.units u _ ∙ b.units;
  slots = unit_slots P k.board k.units units2 t.core.recorded t.core.slots u (with_talk f (t.core.slots u)) (record (unit_of k.units u) { session = said }) (omega (arith, lt, b.units)) units_are b.slots
      (talked_slot (plan_of P u) (post_of k.board u) (unit_of k.units u) t.core.recorded u (t.core.slots u) said f (b.slots u lt) claimed known talk marks fits ends);
  link = shows;
  labels = labels;
  halt = b.halt;
  before = b.before;
  right = b.right;
}

-- ------ the message of a unit
-- there is none: the unit hears nothing
pub unheard_body : (P : List UnitPlan) (k : kept.Core) (t : Told) (u : ℕ) (l2 : LinkState) → u < count_of P → HoldsBody P k t → Shows l2 (take_message (plan_of P u).address t.core.link) → IsOf t.rules.tester (addresses_of P) l2
    → first_message (plan_of P u).address t.core.link.inbox ≡ None → HoldsBody P (record k { link = l2 }) (told_heard P u t)
unheard_body P k t u l2 lt b shows labels none = record {
  posts = b.posts;
  units = b.units;
  slots = subst (λ (w : Option UnitMessage). HoldsSlots P k.board k.units t.core.recorded (with_slot u (with_talk (talk_takes (plan_of P u) t.core.link.ticks w) (t.core.slots u)) t.core.slots)) (sym none)
      (same_slots P k.board k.units t.core.recorded t.core.slots u lt b.slots);
  link = shows;
  labels = labels;
  halt = b.halt;
  before = b.before;
  right = b.right;
}

-- ------ an outcome of a unit
pub given_body : (P : List UnitPlan) (k : kept.Core) (t : Told) (u : ℕ) (o : Outcome) (posts2 : List Post) (R2 : Entry → Bool)
    → u < count_of P → HoldsBody P k t → posts2 ≡ at_unit u (give o) k.board
    → ((n : ℕ) → n ≢ u → SameOf t.core.recorded R2 n) → R2 (entry.Begun u) ≡ t.core.recorded (entry.Begun u) → ((n : ℕ) → R2 (entry.Marked u n) ≡ t.core.recorded (entry.Marked u n)) → says_complete (Some o) ≡ R2 (entry.Complete u)
    → HoldsBody P (record k { board = posts2 }) (record t { core = record t.core { slots = with_slot u (record (t.core.slots u) { outcome = Some o }) t.core.slots; recorded = R2 } })
given_body P k t u o posts2 R2 lt b is others begun marks says = record {
  posts = ap (λ (ps : List Post). length ps) is ∙ length-set k.board u _ ∙ b.posts;
  units = b.units;
  slots = subst (λ (ps : List Post). HoldsSlots P ps k.units R2 (with_slot u (record (t.core.slots u) { outcome = Some o }) t.core.slots)) (sym is)
      (slots_put P k.board (at_unit u (give o) k.board) k.units k.units t.core.recorded R2 t.core.slots u (record (t.core.slots u) { outcome = Some o }) b.slots
      (λ n ne. post_set k.board u n (give o (post_of k.board u)) ne) (λ n ne. refl) others here);
  link = b.link;
  labels = b.labels;
  halt = b.halt;
  before = b.before;
  right = b.right;
}
  where
    here : HoldsSlot (plan_of P u) (post_of (at_unit u (give o) k.board) u) (unit_of k.units u) R2 u (record (t.core.slots u) { outcome = Some o })
    here =
        let h : HoldsSlot (plan_of P u) (post_of k.board u) (unit_of k.units u) t.core.recorded u (t.core.slots u) = b.slots u lt in
        let put : post_of (at_unit u (give o) k.board) u ≡ give o (post_of k.board u) = post_put k.board u (give o (post_of k.board u)) (omega (arith, lt, b.posts)) in
        record {
          after = ap (λ (p : Post). p.after) put ∙ h.after;
          taken = ap (λ (p : Post). p.claimed) put ∙ h.taken;
          outcome = ap (λ (p : Post). p.outcome) put;
          complete = says;
          claimed = h.claimed;
          faulted = h.faulted;
          begun = h.begun ∙ sym begun;
          known = h.known ∙ sym begun;
          talk = h.talk;
          marks = λ n. h.marks n ∙ sym (marks n);
          fresh = λ unclaimed. h.fresh unclaimed ∙ (λ i. talk_start (plan_of P u) (sym begun i) (λ n. sym (marks n) i));
          fits = h.fits;
          ends = h.ends;
        }

-- ------ the oldest message of a unit
pub record TookWord (P : List UnitPlan) (t : Told) (u : ℕ) (l2 : LinkState) (word : Option UnitMessage) : Type 0 where
  pub is : word ≡ first_message (plan_of P u).address t.core.link.inbox
  pub shows : Shows l2 (take_message (plan_of P u).address t.core.link)

-- the address of a unit is one of the link's
pub known_here : (P : List UnitPlan) (k : kept.Core) (t : Told) (u a : ℕ) → u < count_of P → a ≡ (plan_of P u).address → HoldsBody P k t → is_known (units_of k.link) a ≡ true
known_here P k t u a lt address b =
    let in_plan : is_known (addresses_of P) a ≡ true = subst (λ (x : ℕ). is_known (addresses_of P) x ≡ true) (sym address) (known_address P u lt) in
    subst (λ (xs : List ℕ). is_known xs a ≡ true) (sym b.labels.units_are) in_plan

pub taken_from : (P : List UnitPlan) (k : kept.Core) (t : Told) (u a : ℕ) (l2 : LinkState) (word : Option UnitMessage) → u < count_of P → a ≡ (plan_of P u).address → HoldsBody P k t
    → ((l : Link) → Shows k.link l → is_known (units_of k.link) a ≡ true → word ≡ first_message a l.inbox) → ((l : Link) → Shows k.link l → is_known (units_of k.link) a ≡ true → Shows l2 (take_message a l)) → TookWord P t u l2 word
taken_from P k t u a l2 word lt address b words shows =
    let known : is_known (units_of k.link) a ≡ true = known_here P k t u a lt address b in
    record {
      is = words t.core.link b.link known ∙ ap (λ (x : ℕ). first_message x t.core.link.inbox) address;
      shows = subst (λ (x : ℕ). Shows l2 (take_message x t.core.link)) address (shows t.core.link b.link known);
    }

-- what was heard, in the words of the unit's task
pub heard_talk : (plan pl : UnitPlan) (said : UnitSession) (tick tick2 : ℕ) (message : Message) (word : Option UnitMessage) (at unit : Kept) (t : Talk) → IsAcceptedUnit plan → pl ≡ plan → tick ≡ tick2 → word ≡ Some (message_of message)
    → at ≡ unit → talk_of plan unit.session ≡ kept_talk t → HasHeard pl tick message at.session said → talk_of plan said ≡ kept_talk (talk_takes plan tick2 word t)
heard_talk plan pl said tick tick2 message word at unit t ok ep et ew ea is h =
    subst (λ (x : Option UnitMessage). talk_of plan said ≡ kept_talk (talk_takes plan tick2 x t)) (sym ew)
    (sym (λ i. talk_of (ep i) said) ∙ h.talk ∙ (λ i. talk_hears (ep i) (et i) (message_of message) (talk_of (ep i) (ea i).session)) ∙ ap (talk_hears plan tick2 (message_of message)) is ∙ hears_low plan tick2 (message_of message) t ok)

-- a unit that waits has not ended
pub waits_going : (plan : UnitPlan) (post : Post) (unit : Kept) (R : Entry → Bool) (n : ℕ) (s : Slot) → HoldsSlot plan post unit R n s → s.talk.awaiting ≡ true → is_ended s.talk.place ≡ false
waits_going plan post unit R n s h waits =
    place_goes s.talk.place (ap (λ (t : Talk). needs_request t.place) (sym h.talk) ∙ h.fits.awaits (ap (λ (t : Talk). t.awaiting) h.talk ∙ waits))

-- ------ the claim
pub claimed_body : (P : List UnitPlan) (k : kept.Core) (t : Told) (u : ℕ) (posts2 : List Post) (units2 : List Kept)
    → u < count_of P → HoldsBody P k t → (t.core.slots u).claimed ≡ false → posts2 ≡ at_unit u take_up k.board → units2 ≡ set k.units u (record (unit_of k.units u) { claimed = true })
    → HoldsBody P (record k { board = posts2; units = units2 }) (told_own P (event.Claimed u) t)
claimed_body P k t u posts2 units2 lt b unclaimed posts_are units_are = record {
  posts = ap (λ (ps : List Post). length ps) posts_are ∙ length-set k.board u _ ∙ b.posts;
  units = ap (λ (us : List Kept). length us) units_are ∙ length-set k.units u _ ∙ b.units;
  slots = subst (λ (ps : List Post). HoldsSlots P ps units2 t.core.recorded (with_slot u (slot_claimed P t.core u) t.core.slots)) (sym posts_are)
      (subst (λ (us : List Kept). HoldsSlots P (at_unit u take_up k.board) us t.core.recorded (with_slot u (slot_claimed P t.core u) t.core.slots)) (sym units_are)
      (slots_put P k.board (at_unit u take_up k.board) k.units (set k.units u (record (unit_of k.units u) { claimed = true })) t.core.recorded t.core.recorded t.core.slots u (slot_claimed P t.core u) b.slots
      (λ n ne. post_set k.board u n (take_up (post_of k.board u)) ne) (λ n ne. unit_set k.units u n (record (unit_of k.units u) { claimed = true }) ne) (λ n ne. same_of t.core.recorded n)
      (subst (λ (y : Kept). HoldsSlot (plan_of P u) (post_of (at_unit u take_up k.board) u) y t.core.recorded u (slot_claimed P t.core u)) (sym (unit_put k.units u (record (unit_of k.units u) { claimed = true }) (omega (arith, lt, b.units)))) here)));
  link = b.link;
  labels = b.labels;
  halt = b.halt;
  before = b.before;
  right = b.right;
}
  where
    here : HoldsSlot (plan_of P u) (post_of (at_unit u take_up k.board) u) (record (unit_of k.units u) { claimed = true }) t.core.recorded u (slot_claimed P t.core u)
    here =
        let h : HoldsSlot (plan_of P u) (post_of k.board u) (unit_of k.units u) t.core.recorded u (t.core.slots u) = b.slots u lt in
        let put : post_of (at_unit u take_up k.board) u ≡ take_up (post_of k.board u) = post_put k.board u (take_up (post_of k.board u)) (omega (arith, lt, b.posts)) in
        record {
          after = ap (λ (p : Post). p.after) put ∙ h.after;
          taken = ap (λ (p : Post). p.claimed) put;
          outcome = ap (λ (p : Post). p.outcome) put ∙ h.outcome;
          complete = h.complete;
          claimed = refl;
          faulted = h.faulted;
          begun = h.begun;
          known = h.known;
          talk = h.talk ∙ ap kept_talk (h.fresh unclaimed);
          marks = λ n. refl;
          fresh = λ other. absurd (false≢true (sym other));
          fits = h.fits;
          ends = start_right (plan_of P u) (t.core.recorded (entry.Begun u));
        }

-- ------ a record of a unit that was claimed
-- another conversation of it, with one entry more
recorded_body : (P : List UnitPlan) (k : kept.Core) (t : Told) (u : ℕ) (e : Entry) (units2 : List Kept) (x : Kept) (s : Slot)
    → u < count_of P → HoldsBody P k t → units2 ≡ set k.units u x → ((n : ℕ) → n ≢ u → SameOf t.core.recorded (with_entry e t.core.recorded) n)
    → HoldsSlot (plan_of P u) (post_of k.board u) x (with_entry e t.core.recorded) u s
    → HoldsBody P (record k { units = units2 }) (record t { core = record t.core { slots = with_slot u s t.core.slots; recorded = with_entry e t.core.recorded } })
recorded_body P k t u e units2 x s lt b units_are others here = record {
  posts = b.posts;
  units = ap (λ (us : List Kept). length us) units_are ∙ length-set k.units u _ ∙ b.units;
  slots = subst (λ (us : List Kept). HoldsSlots P k.board us (with_entry e t.core.recorded) (with_slot u s t.core.slots)) (sym units_are)
      (slots_put P k.board k.board k.units (set k.units u x) t.core.recorded (with_entry e t.core.recorded) t.core.slots u s b.slots (λ n ne. refl) (λ n ne. unit_set k.units u n x ne) others
      (subst (λ (y : Kept). HoldsSlot (plan_of P u) (post_of k.board u) y (with_entry e t.core.recorded) u s) (sym (unit_put k.units u x (omega (arith, lt, b.units)))) here));
  link = b.link;
  labels = b.labels;
  halt = b.halt;
  before = b.before;
  right = b.right;
}

-- the marks that a conversation has are those recorded below 256
pub marks_kept : (plan : UnitPlan) (post : Post) (unit : Kept) (R : Entry → Bool) (n : ℕ) (s : Slot) → HoldsSlot plan post unit R n s → (talk_of plan unit.session).marks ≡ low_marks (λ x. R (entry.Marked n x))
marks_kept plan post unit R n s h = ap (λ (x : Talk). x.marks) h.talk ∙ (λ i. low_marks (λ x. h.marks x i))

-- Begun
pub begun_body : (P : List UnitPlan) (k : kept.Core) (t : Told) (u : ℕ) (units2 : List Kept) (said : UnitSession)
    → u < count_of P → HoldsBody P k t → (t.core.slots u).claimed ≡ true → units2 ≡ set k.units u (record (unit_of k.units u) { begun = true; session = said })
    → is_begun said ≡ true → talk_of (plan_of P u) said ≡ talk_start (plan_of P u) true (talk_of (plan_of P u) (unit_of k.units u).session).marks → session.IsOf (plan_of P u) said
    → HoldsBody P (record k { units = units2 }) (told_own P (event.Began u) t)
begun_body P k t u units2 said lt b claimed units_are known talk fits =
    recorded_body P k t u (entry.Begun u) units2 (record (unit_of k.units u) { begun = true; session = said }) (with_talk (λ (x : Talk). talk_start (plan_of P u) true (marks_of t.core.recorded u)) (t.core.slots u)) lt b units_are
    (λ n ne. begun_else u n t.core.recorded ne) here
  where
    here : HoldsSlot (plan_of P u) (post_of k.board u) (record (unit_of k.units u) { begun = true; session = said }) (with_entry (entry.Begun u) t.core.recorded) u (with_talk (λ (x : Talk). talk_start (plan_of P u) true (marks_of t.core.recorded u)) (t.core.slots u))
    here =
        let h : HoldsSlot (plan_of P u) (post_of k.board u) (unit_of k.units u) t.core.recorded u (t.core.slots u) = b.slots u lt in
        record {
          after = h.after;
          taken = h.taken;
          outcome = h.outcome;
          complete = h.complete;
          claimed = h.claimed;
          faulted = h.faulted;
          begun = sym (entry_here u t.core.recorded);
          known = known ∙ sym (entry_here u t.core.recorded);
          talk = talk ∙ ap (talk_start (plan_of P u) true) (marks_kept (plan_of P u) (post_of k.board u) (unit_of k.units u) t.core.recorded u (t.core.slots u) h);
          marks = λ n. refl;
          fresh = λ unclaimed. absurd (false≢true (sym unclaimed ∙ claimed));
          fits = fits;
          ends = start_right (plan_of P u) true;
        }

-- Marked
pub marked_body : (P : List UnitPlan) (k : kept.Core) (t : Told) (u s : ℕ) (units2 : List Kept) (said : UnitSession)
    → u < count_of P → HoldsBody P k t → (t.core.slots u).claimed ≡ true → units2 ≡ set k.units u (record (unit_of k.units u) { session = said })
    → is_begun said ≡ is_begun (unit_of k.units u).session → talk_of (plan_of P u) said ≡ kept_talk (talk_marked s (t.core.slots u).talk) → session.IsOf (plan_of P u) said
    → HoldsBody P (record k { units = units2 }) (told_own P (event.Marked u s) t)
marked_body P k t u s units2 said lt b claimed units_are known talk fits =
    recorded_body P k t u (entry.Marked u s) units2 (record (unit_of k.units u) { session = said }) (with_talk (talk_marked s) (t.core.slots u)) lt b units_are
    (λ n ne. mark_else u s n t.core.recorded ne) here
  where
    here : HoldsSlot (plan_of P u) (post_of k.board u) (record (unit_of k.units u) { session = said }) (with_entry (entry.Marked u s) t.core.recorded) u (with_talk (talk_marked s) (t.core.slots u))
    here =
        let h : HoldsSlot (plan_of P u) (post_of k.board u) (unit_of k.units u) t.core.recorded u (t.core.slots u) = b.slots u lt in
        record {
          after = h.after;
          taken = h.taken;
          outcome = h.outcome;
          complete = h.complete;
          claimed = h.claimed;
          faulted = h.faulted;
          begun = h.begun;
          known = known ∙ h.known;
          talk = talk;
          marks = λ n. ap (λ (m : Bool). n == s || m) (h.marks n) ∙ sym (mark_here u s t.core.recorded n);
          fresh = λ unclaimed. absurd (false≢true (sym unclaimed ∙ claimed));
          fits = fits;
          ends = marked_right s (t.core.slots u).talk h.ends;
        }

-- ------ an append that failed
pub failed_body : (P : List UnitPlan) (k : kept.Core) (t : Told) (u : ℕ) (e : Entry) (units2 : List Kept)
    → u < count_of P → HoldsBody P k t → units2 ≡ set k.units u (record (unit_of k.units u) { faulted = true })
    → HoldsBody P (record k { units = units2 }) (told_own P (event.DiskFailed u e) t)
failed_body P k t u e units2 lt b units_are = record {
  posts = b.posts;
  units = ap (λ (us : List Kept). length us) units_are ∙ length-set k.units u _ ∙ b.units;
  slots = unit_slots P k.board k.units units2 t.core.recorded t.core.slots u (record (t.core.slots u) { faulted = true }) (record (unit_of k.units u) { faulted = true }) (omega (arith, lt, b.units)) units_are b.slots here;
  link = b.link;
  labels = b.labels;
  halt = b.halt;
  before = b.before;
  right = b.right;
}
  where
    here : HoldsSlot (plan_of P u) (post_of k.board u) (record (unit_of k.units u) { faulted = true }) t.core.recorded u (record (t.core.slots u) { faulted = true })
    here =
        let h : HoldsSlot (plan_of P u) (post_of k.board u) (unit_of k.units u) t.core.recorded u (t.core.slots u) = b.slots u lt in
        record {
          after = h.after;
          taken = h.taken;
          outcome = h.outcome;
          complete = h.complete;
          claimed = h.claimed;
          faulted = refl;
          begun = h.begun;
          known = h.known;
          talk = h.talk;
          marks = h.marks;
          fresh = h.fresh;
          fits = h.fits;
          ends = h.ends;
        }

-- ------ what a test of the state says
pub not_some : (o : Option Outcome) → is_some o ≡ false → o ≡ None
not_some None is = refl
not_some (Some x) is = absurd (false≢true (sym is))

pub some_there : (o : Option Outcome) → is_some o ≡ true → (x : Outcome) × (o ≡ Some x)
some_there None is = absurd (false≢true is)
some_there (Some x) is = (x, refl)

-- while a run is not stopped, its losses are few
pub few_losses : (P : List UnitPlan) (k : kept.Core) (t : Told) → Holds P k t → t.core.halt.stop ≡ None → loss_count k.link < 2 ^ 31
few_losses P k t h running = omega (arith, h.body.link.body.losses, h.few running, h.byte)

pub clear_stop : (c : Core) → is_clear c ≡ true → c.halt.stop ≡ None
clear_stop c clear = running_stop c (and_parts _ _ (and_parts _ _ clear).0).0

pub not_complete : (o : Outcome) → o ≢ Complete → says_complete (Some o) ≡ false
not_complete Complete ne = absurd (ne refl)
not_complete o ne = refl

pub recorder_below : (P : List UnitPlan) (c : Core) (u : ℕ) (e : Entry) → may_record P c u e ≡ true → u < count_of P
recorder_below P c u (entry.Begun w) is = (begin_facts P (without_failures c) u (and_parts (w == u) _ is).1).below
recorder_below P c u (entry.Marked w s) is = (mark_facts P (without_failures c) u s (and_parts (w == u) _ is).1).below
recorder_below P c u (entry.Complete w) is = (finish_facts P (without_failures c) u (and_parts (w == u) _ is).1).below

pub ender_below : (P : List UnitPlan) (c : Core) (u : ℕ) (o : Outcome) → may_end P c u o ≡ true → u < count_of P
ender_below P c u o is = ltb-true _ _ (and_parts _ _ (and_parts _ _ is).0).0

pub ender_open : (P : List UnitPlan) (c : Core) (u : ℕ) (o : Outcome) → may_end P c u o ≡ true → (c.slots u).outcome ≡ None
ender_open P c u o is = none_is (c.slots u).outcome (and_parts _ _ (and_parts _ _ is).0).1
  where
    none_is : (x : Option Outcome) → is_none x ≡ true → x ≡ None
    none_is None e = refl
    none_is (Some y) e = absurd (false≢true e)

-- the tests of a request, in the words of the kept conversation
pub send_tests : (P : List UnitPlan) (c : Core) (u place : ℕ) (plan : UnitPlan) (t : Talk) → is_open_unit P c u ≡ true → plan ≡ plan_of P u → t ≡ kept_talk (c.slots u).talk
    → may_send P c u place ≡ (is_some (request_at plan t.place) && place == t.number && not t.awaiting && is_clear c)
send_tests P c u place plan t opened ep et = λ i. opened i && is_some (request_at (sym ep i) (sym et i).place) && place == (sym et i).number && not (sym et i).awaiting && is_clear c

pub not_next : (a n d e : Bool) → n ≡ false → (a && n && d && e) ≡ false
not_next a n d e is = and_left _ _ (and_left _ _ (and_right _ _ is))

pub all_next : (a n d e : Bool) → a ≡ true → n ≡ true → d ≡ true → (a && n && d && e) ≡ e
all_next a n d e p q r = λ i. p i && q i && r i && e

-- ------ before any event
pub start_slot : (P : List UnitPlan) (found : List Entry) (posts : List Post) (units : List Kept) (n : ℕ) → IsFresh (plan_of P n) found n (unit_of units n) → post_of posts n ≡ post_start P found n
    → HoldsSlot (plan_of P n) (post_of posts n) (unit_of units n) (has_entry found) n (slot_start P (has_entry found) n)
start_slot P found posts units n f is = record {
  after = ap (λ (p : Post). p.after) is;
  taken = ap (λ (p : Post). p.claimed) is;
  outcome = ap (λ (p : Post). p.outcome) is;
  complete = says (has_entry found (entry.Complete n));
  claimed = f.claimed;
  faulted = f.faulted;
  begun = f.begun;
  known = f.known;
  talk = f.talk;
  marks = λ x. refl;
  fresh = λ unclaimed. refl;
  fits = f.fits;
  ends = start_right (plan_of P n) (has_entry found (entry.Begun n));
}
  where
    says : (b : Bool) → says_complete (if b then Some Complete else None) ≡ b
    says true = refl
    says false = refl
