-- A loss, looked at behind an event.
use Rattle.std.proofs.Common.{◌≡◌, inl, inr, ℕ, ◌<◌, ◌≤◌, true, false, List, refl, ◌∙◌, ap}
use Rattle.std.specs.Prelude.{Bool, nat_lt, if◌then◌else◌}
use Rattle.std.proofs.lemmas.Bool.{cases_Bool, lt-ltb, le-ltb}
use Rattle.barrier_board.specs.Board.{post_of}
use Rattle.bay_core.specs.Core.{Slot, addresses_of}
use Rattle.flash_plan.specs.declared.outcome.Entry.{Entry}
use Rattle.flash_plan.specs.declared.outcome.Entry.TheVariants.{Begun}
use Rattle.flash_plan.specs.declared.unit.UnitPlan.{UnitPlan}
use Rattle.flash_plan.specs.Plan.{plan_of}
use Rattle.link_state.specs.State.{Shows, SameLabels}
use Rattle.link_state.specs.declared.state.LinkState.{LinkState}
use Rattle.run_model.specs.Entries.{marks_of}
use Rattle.run_model.specs.Link as phase
use Rattle.run_model.specs.Script.{start_place}
use Rattle.run_model.specs.Talk.{Talk, keeps_on_loss, talk_start, talk_lost}
use Rattle.bay_replay.specs.declared.state.Core as kept
use Rattle.bay_replay.specs.declared.units.Unit.{Unit as Kept}
use Rattle.bay_replay.specs.Units.{unit_of, AreOf, AreLost, IsLostUnit}
use Rattle.bay_replay.specs.Held.{Told, HoldsSlot, HoldsBody, told_lost, told_down}
use Rattle.bay_replay.proofs.Bodies.{labels_kept}
use Rattle.bay_replay.proofs.Marks.{lost_low}
use Rattle.bay_replay.proofs.Verdicts.{lost_right}

pub are_of : (P : List UnitPlan) (k : kept.Core) (t : Told) → HoldsBody P k t → AreOf P k.units
are_of P k t b = record { size = b.units; each = λ n lt. (b.slots n lt).fits }

-- the first place of an attempt is that of another
start_lost : (plan : UnitPlan) (begun : Bool) (marks : ℕ → Bool) → talk_lost plan begun (talk_start plan begun marks) ≡ talk_start plan begun marks
start_lost plan begun marks = same (keeps_on_loss (start_place plan begun)) (talk_start plan begun marks)
  where
    same : (b : Bool) (t : Talk) → (if b then t else t) ≡ t
    same true t = refl
    same false t = refl

lost_marks : (plan : UnitPlan) (begun : Bool) (t : Talk) (k : ℕ) → (talk_lost plan begun t).marks k ≡ t.marks k
lost_marks plan begun t k = elim (cases_Bool (keeps_on_loss t.place)) [ inl e ↦ rw e refl | inr e ↦ rw e refl ]

lost_slot : (plan : UnitPlan) (k : kept.Core) (units2 : List Kept) (R : Entry → Bool) (n : ℕ) (s : Slot) → HoldsSlot plan (post_of k.board n) (unit_of k.units n) R n s → IsLostUnit plan (unit_of k.units n) (unit_of units2 n)
    → HoldsSlot plan (post_of k.board n) (unit_of units2 n) R n (record s { talk = talk_lost plan (R (Begun n)) s.talk })
lost_slot plan k units2 R n s h l = record {
  after = h.after;
  taken = h.taken;
  outcome = h.outcome;
  complete = h.complete;
  claimed = l.claimed ∙ h.claimed;
  faulted = l.faulted ∙ h.faulted;
  begun = l.begun ∙ h.begun;
  known = l.session.known ∙ h.known;
  talk = l.session.talk ∙ (λ i. talk_lost plan (h.known i) (h.talk i)) ∙ lost_low plan (R (Begun n)) s.talk;
  marks = λ x. lost_marks plan (R (Begun n)) s.talk x ∙ h.marks x;
  fresh = λ unclaimed. ap (talk_lost plan (R (Begun n))) (h.fresh unclaimed) ∙ start_lost plan (R (Begun n)) (marks_of R n);
  fits = l.session.fits;
  ends = lost_right plan (R (Begun n)) s.talk h.ends;
}

pub lost_body : (P : List UnitPlan) (k : kept.Core) (t : Told) (before : ℕ) (units2 : List Kept) → before < t.core.link.losses → HoldsBody P k t → AreLost P k.units units2 → HoldsBody P (record k { units = units2 }) (told_lost P before t)
lost_body P k t before units2 more b lost = record {
  posts = b.posts;
  units = lost.size;
  slots = λ n lt. let e : nat_lt before t.core.link.losses ≡ true = lt-ltb _ _ more in rw e (lost_slot (plan_of P n) k units2 t.core.recorded n (t.core.slots n) (b.slots n lt) (lost.each n lt));
  link = b.link;
  labels = b.labels;
  halt = b.halt;
  before = b.before;
  right = b.right;
}

pub unlost_body : (P : List UnitPlan) (k : kept.Core) (t : Told) (before : ℕ) → t.core.link.losses ≤ before → HoldsBody P k t → HoldsBody P k (told_lost P before t)
unlost_body P k t before few b = record {
  posts = b.posts;
  units = b.units;
  slots = λ n lt. let e : nat_lt before t.core.link.losses ≡ false = le-ltb _ _ few in rw e (b.slots n lt);
  link = b.link;
  labels = b.labels;
  halt = b.halt;
  before = b.before;
  right = b.right;
}

-- a link that is used no more
pub down_body : (P : List UnitPlan) (k : kept.Core) (t : Told) (l2 : LinkState) (units2 : List Kept) → HoldsBody P k t → Shows l2 (record t.core.link { phase = phase.Down }) → SameLabels k.link l2 → AreLost P k.units units2
    → HoldsBody P (record k { link = l2; units = units2 }) (told_down P t)
down_body P k t l2 units2 b shows labels lost = record {
  posts = b.posts;
  units = lost.size;
  slots = λ n lt. lost_slot (plan_of P n) k units2 t.core.recorded n (t.core.slots n) (b.slots n lt) (lost.each n lt);
  link = shows;
  labels = labels_kept t.rules.tester (addresses_of P) k.link l2 labels b.labels;
  halt = b.halt;
  before = b.before;
  right = b.right;
}
