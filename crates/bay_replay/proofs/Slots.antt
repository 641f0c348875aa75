-- One unit's post and what is kept beside it changes, and no other's.
use Rattle.std.proofs.Common.{◌≡◌, ◌≢◌, inl, inr, get_or-set_other, get_or-set_same, ℕ, zero, suc, ◌<◌, true, false, List, [], ◌∷◌, ◌++◌, length, refl, sym, ◌∙◌, ap, subst, arith}
use Rattle.std.specs.Prelude.{Bool, set, ◌==◌}
use Rattle.std.proofs.lemmas.Bool.{cases_Bool, false≢true, eq-eqb, eqb-true, ne_eqb}
use Rattle.barrier_board.specs.Board.{post_of}
use Rattle.barrier_board.specs.declared.post.Post.{Post}
use Rattle.bay_core.specs.Core.{Slot, with_slot, with_talk}
use Rattle.flash_plan.specs.declared.outcome.Entry.{Entry}
use Rattle.flash_plan.specs.declared.outcome.Entry.TheVariants.{Begun, Marked, Complete}
use Rattle.flash_plan.specs.declared.unit.UnitPlan.{UnitPlan}
use Rattle.flash_plan.specs.Plan.{plan_of, count_of}
use Rattle.flash_plan.specs.Outcomes.{with_entry}
use Rattle.run_model.specs.Entries.{with_mark}
use Rattle.run_model.specs.Talk.{Talk, talk_start}
use Rattle.unit_session.specs.Session.{IsOf, talk_of, is_begun}
use Rattle.unit_session.specs.declared.session.UnitSession.{UnitSession}
use Rattle.bay_replay.specs.declared.units.Unit.{Unit as Kept}
use Rattle.bay_replay.specs.Units.{unit_of, no_unit, kept_talk}
use Rattle.bay_replay.specs.Held.{HoldsSlot, HoldsSlots}
use Rattle.bay_replay.specs.Verdict.{EndsRightly}

-- ------ units by number
pub unit_set : (units : List Kept) (n k : ℕ) (u : Kept) → k ≢ n → unit_of (set units n u) k ≡ unit_of units k
unit_set units n k u ne = get_or-set_other units n k u no_unit ne

pub unit_put : (units : List Kept) (n : ℕ) (u : Kept) → n < length units → unit_of (set units n u) n ≡ u
unit_put units n u lt = get_or-set_same units n u no_unit lt

pub unit_last : (units : List Kept) (u : Kept) → unit_of (units ++ (u ∷ [])) (length units) ≡ u
unit_last [] u = refl
unit_last (x ∷ xs) u = unit_last xs u

pub unit_front : (units : List Kept) (u : Kept) (k : ℕ) → k < length units → unit_of (units ++ (u ∷ [])) k ≡ unit_of units k
unit_front [] u k lt = absurd (omega (arith, lt))
unit_front (x ∷ xs) u zero lt = refl
unit_front (x ∷ xs) u (suc k) lt = unit_front xs u k (omega (arith, lt))

-- ------ the records of one unit are the same
pub record SameOf (R R2 : Entry → Bool) (n : ℕ) : Type 0 where
  pub begun : R2 (Begun n) ≡ R (Begun n)
  pub complete : R2 (Complete n) ≡ R (Complete n)
  pub marks : (k : ℕ) → R2 (Marked n k) ≡ R (Marked n k)

pub same_of : (R : Entry → Bool) (n : ℕ) → SameOf R R n
same_of R n = record { begun = refl; complete = refl; marks = λ k. refl }

-- the first place of an attempt, by records that are the same
pub same_start : (plan : UnitPlan) (R R2 : Entry → Bool) (n : ℕ) → SameOf R R2 n → talk_start plan (R (Begun n)) (λ k. R (Marked n k)) ≡ talk_start plan (R2 (Begun n)) (λ k. R2 (Marked n k))
same_start plan R R2 n same = λ i. talk_start plan (sym same.begun i) (λ k. sym (same.marks k) i)

-- ------ the slot of a unit whose post, kept part and records are the same
moved_slot : (plan : UnitPlan) (post post2 : Post) (unit unit2 : Kept) (R R2 : Entry → Bool) (n : ℕ) (s : Slot) → post2 ≡ post → unit2 ≡ unit
    → SameOf R R2 n → HoldsSlot plan post unit R n s → HoldsSlot plan post2 unit2 R2 n s
moved_slot plan post post2 unit unit2 R R2 n s ep eu same h = record {
  after = ap (λ (p : Post). p.after) ep ∙ h.after;
  taken = ap (λ (p : Post). p.claimed) ep ∙ h.taken;
  outcome = ap (λ (p : Post). p.outcome) ep ∙ h.outcome;
  complete = h.complete ∙ sym same.complete;
  claimed = ap (λ (u : Kept). u.claimed) eu ∙ h.claimed;
  faulted = ap (λ (u : Kept). u.faulted) eu ∙ h.faulted;
  begun = ap (λ (u : Kept). u.begun) eu ∙ h.begun ∙ sym same.begun;
  known = ap (λ (u : Kept). is_begun u.session) eu ∙ h.known ∙ sym same.begun;
  talk = ap (λ (u : Kept). talk_of plan u.session) eu ∙ h.talk;
  marks = λ k. h.marks k ∙ sym (same.marks k);
  fresh = λ unclaimed. h.fresh unclaimed ∙ same_start plan R R2 n same;
  fits = subst (λ (u : Kept). IsOf plan u.session) (sym eu) h.fits;
  ends = h.ends;
}

module _ (P : List UnitPlan) (posts posts2 : List Post) (units units2 : List Kept) (R R2 : Entry → Bool) (slots : ℕ → Slot) (u : ℕ) (s : Slot) (held : HoldsSlots P posts units R slots) (other_posts : (k : ℕ) → k ≢ u → post_of posts2 k ≡ post_of posts k) (other_units : (k : ℕ) → k ≢ u → unit_of units2 k ≡ unit_of units k) (other_records : (k : ℕ) → k ≢ u → SameOf R R2 k) (here : HoldsSlot (plan_of P u) (post_of posts2 u) (unit_of units2 u) R2 u s) where
  pub slots_put : HoldsSlots P posts2 units2 R2 (with_slot u s slots)
  slots_put n lt = elim (cases_Bool (n == u)) [
    | inl e ↦ rw e (subst (λ (m : ℕ). HoldsSlot (plan_of P m) (post_of posts2 m) (unit_of units2 m) R2 m s) (sym (eqb-true n u e)) here)
    | inr e ↦ (let ne : n ≢ u = λ is. false≢true (sym e ∙ eq-eqb n u is) in rw e (moved_slot (plan_of P n) _ _ _ _ R R2 n (slots n) (other_posts n ne) (other_units n ne) (other_records n ne) (held n lt)))
  ]

-- only what is kept beside the board changes
pub unit_slots : (P : List UnitPlan) (posts : List Post) (units units2 : List Kept) (R : Entry → Bool) (slots : ℕ → Slot) (u : ℕ) (s : Slot) (x : Kept)
    → u < length units → units2 ≡ set units u x → HoldsSlots P posts units R slots → HoldsSlot (plan_of P u) (post_of posts u) x R u s → HoldsSlots P posts units2 R (with_slot u s slots)
unit_slots P posts units units2 R slots u s x lt is held here =
    subst (λ (us : List Kept). HoldsSlots P posts us R (with_slot u s slots)) (sym is)
    (slots_put P posts posts units (set units u x) R R slots u s held (λ k ne. refl) (λ k ne. unit_set units u k x ne) (λ k ne. same_of R k)
    (subst (λ (y : Kept). HoldsSlot (plan_of P u) (post_of posts u) y R u s) (sym (unit_put units u x lt)) here))

-- one slot written over itself
pub same_slots : (P : List UnitPlan) (posts : List Post) (units : List Kept) (R : Entry → Bool) (slots : ℕ → Slot) (u : ℕ) → u < count_of P → HoldsSlots P posts units R slots → HoldsSlots P posts units R (with_slot u (slots u) slots)
same_slots P posts units R slots u lt held = slots_put P posts posts units units R R slots u (slots u) held (λ k ne. refl) (λ k ne. refl) (λ k ne. same_of R k) (held u lt)

-- another conversation of a unit that was claimed
pub talked_slot : (plan : UnitPlan) (post : Post) (unit : Kept) (R : Entry → Bool) (n : ℕ) (s : Slot) (said : UnitSession) (f : Talk → Talk)
    → HoldsSlot plan post unit R n s → s.claimed ≡ true → is_begun said ≡ is_begun unit.session → talk_of plan said ≡ kept_talk (f s.talk) → ((k : ℕ) → (f s.talk).marks k ≡ s.talk.marks k)
    → IsOf plan said → EndsRightly (f s.talk).place → HoldsSlot plan post (record unit { session = said }) R n (with_talk f s)
talked_slot plan post unit R n s said f h claimed known talk marks fits ends = record {
  after = h.after;
  taken = h.taken;
  outcome = h.outcome;
  complete = h.complete;
  claimed = h.claimed;
  faulted = h.faulted;
  begun = h.begun;
  known = known ∙ h.known;
  talk = talk;
  marks = λ k. marks k ∙ h.marks k;
  fresh = λ unclaimed. absurd (false≢true (sym unclaimed ∙ claimed));
  fits = fits;
  ends = ends;
}

-- ------ one entry more
pub entry_here : (u : ℕ) (R : Entry → Bool) → with_entry (Begun u) R (Begun u) ≡ true
entry_here u R = let e : (u == u) ≡ true = eq-eqb u u refl in rw e refl

pub begun_else : (u k : ℕ) (R : Entry → Bool) → k ≢ u → SameOf R (with_entry (Begun u) R) k
begun_else u k R ne = record { begun = (let e : (k == u) ≡ false = ne_eqb k u ne in rw e refl); complete = refl; marks = λ s. refl }

pub mark_here : (u s : ℕ) (R : Entry → Bool) (k : ℕ) → with_entry (Marked u s) R (Marked u k) ≡ with_mark s (λ x. R (Marked u x)) k
mark_here u s R k = let e : (u == u) ≡ true = eq-eqb u u refl in rw e refl

pub mark_else : (u s k : ℕ) (R : Entry → Bool) → k ≢ u → SameOf R (with_entry (Marked u s) R) k
mark_else u s k R ne = record { begun = refl; complete = refl; marks = λ x. (let e : (k == u) ≡ false = ne_eqb k u ne in rw e refl) }

pub complete_here : (u : ℕ) (R : Entry → Bool) → with_entry (Complete u) R (Complete u) ≡ true
complete_here u R = let e : (u == u) ≡ true = eq-eqb u u refl in rw e refl

pub complete_else : (u k : ℕ) (R : Entry → Bool) → k ≢ u → SameOf R (with_entry (Complete u) R) k
complete_else u k R ne = record { begun = refl; complete = (let e : (k == u) ≡ false = ne_eqb k u ne in rw e refl); marks = λ s. refl }
