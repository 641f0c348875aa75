-- An append to a journal in memory, on its disk.
use Rattle.std.proofs.Common.{◌≡◌, ◌⊎◌, inl, inr, ℕ, zero, suc, ◌+◌, ◌*◌, ◌-◌, ◌<◌, ◌≤◌, Bool, true, false, List, length, get_or, take, length-take, refl, sym, ◌∙◌, ap, subst, arith}
use Rattle.std.specs.Prelude.{min, replicate}
use Rattle.std.proofs.lemmas.Bool.{cases_lt, and_parts, leb-true}
use Rattle.disk_model.specs.Disk.{DiskState}
use Rattle.shop_model.specs.History.{History}
use Rattle.flash_plan.specs.declared.outcome.Entry.{Entry}
use Rattle.journal_model.specs.Records.{Label, Form, new_form, form_of, end_of, slots_of, is_journal, is_filled, is_open, names}
use Rattle.journal_steps.specs.Append.{AddsSome, AddsSomeOf, HasSomeOf, CanAppendGroup, HasAddedGroup, Records, IsPrepared, with_entries}
use Rattle.journal_steps.specs.Later.{HoldsOnDisk}
use Rattle.journal_steps.specs.Tables.{count_true, place_of, open_run, closed_run}
use Rattle.journal_steps.proofs.Group.{retold}
use Rattle.journal_steps.proofs.Moments.{weakens}
use Rattle.journal_steps.proofs.Settled.{all_settled}
use Rattle.journal_steps.proofs.Several.{nth_entry, once_differ, adds_some, all_added}
use Rattle.journal_steps.proofs.Tables.{count_lacks, found_at, place_below}
use Rattle.flash_journal.specs.declared.journal.Journal.{Journal}
use Rattle.flash_journal.specs.Bodies.{bodies_of}
use Rattle.flash_journal.specs.Kept.{journal_label, journal_form, has_entry, first_closed, room_of, MayAppend, MayAppendAll, IsKeptOn}
use Rattle.flash_journal.specs.Layouts.{layout_form}
use Rattle.flash_journal.specs.Noted.{IsRoom, AreNoted}
use Rattle.flash_journal.proofs.Groups.{bodies_size, bodies_at, replicate_at, each_nth, each_take, once_take, take_all, among_first}
use Rattle.flash_journal.proofs.Notes.{form_is, same_label, same_form}
use Rattle.flash_journal.proofs.Runs.{room_inside, run_closed, run_within}

replicate_size : (n x : ℕ) → length (replicate n x) ≡ n
replicate_size zero x = refl
replicate_size (suc n) x = ap (λ (k : ℕ). suc k) (replicate_size n x)

-- the tables have a place for each slot
pub slots_are : (j : Journal) → length j.gates.items ≡ slots_of (journal_form j)
slots_are j = omega (arith, j.slots, j.layout.counts, j.whole)

pub can_group : (j : Journal) (disk : DiskState) (slot : ℕ) (es : List Entry) → IsKeptOn j disk → MayAppendAll j es → IsRoom j slot es
    → CanAppendGroup (journal_label j) (journal_form j) (has_entry j) disk slot (nth_entry es) (length es) (bodies_of es) (replicate (length es) 165)
can_group j disk slot es kept may room = record {
  settled = kept.settled;
  holds = kept.records;
  form = kept.form;
  within = omega (arith, room.within, slots_are j);
  closed = λ k lt. kept.gates (slot + k) (omega (arith, lt, room.within, slots_are j)) ∙ room.closed k lt;
  named = λ k lt. (each_nth (MayAppend j) es k may.each lt).named;
  fresh = λ k lt. (each_nth (MayAppend j) es k may.each lt).fresh;
  differ = once_differ es may.once;
  prepared = λ k lt. (each_nth (MayAppend j) es k may.each lt).prepared;
  bodies_size = bodies_size es;
  spelt = λ k t lt tlt. bodies_at es k t lt tlt;
  gates_size = replicate_size (length es) 165;
  opens = λ k lt. replicate_at (length es) k 165 lt;
}

-- the same, for the bodies and gates that are written
pub can_run : (j : Journal) (disk : DiskState) (slot : ℕ) (es : List Entry) (bodies gates : List ℕ) → bodies ≡ bodies_of es → gates ≡ replicate (length es) 165 → IsKeptOn j disk → MayAppendAll j es → IsRoom j slot es
    → CanAppendGroup (journal_label j) (layout_form j.layout) (has_entry j) disk slot (nth_entry es) (length es) bodies gates
can_run j disk slot es bodies gates bodies_are gates_are kept may room =
    subst (λ (F : Form). CanAppendGroup (journal_label j) F (has_entry j) disk slot (nth_entry es) (length es) bodies gates) (sym (form_is j))
    (subst (λ (b : List ℕ). CanAppendGroup (journal_label j) (journal_form j) (has_entry j) disk slot (nth_entry es) (length es) b gates) (sym bodies_are)
    (subst (λ (x : List ℕ). CanAppendGroup (journal_label j) (journal_form j) (has_entry j) disk slot (nth_entry es) (length es) (bodies_of es) x) (sym gates_are)
    (can_group j disk slot es kept may room)))

pub journal_long : (P : Label) (image : List ℕ) → is_journal P image ≡ true → end_of (form_of P image) ≤ length image
journal_long P image is =
    let filled : is_filled (form_of P image) image ≡ true = (and_parts _ _ (and_parts _ _ is).1).1 in
    let parts = and_parts _ _ (and_parts _ _ (and_parts _ _ filled).0).0 in
    leb-true (end_of (form_of P image)) (length image) parts.0

pub long_enough : (j : Journal) (disk : DiskState) → IsKeptOn j disk → end_of (journal_form j) ≤ length disk.bytes
long_enough j disk kept = subst (λ (F : Form). end_of F ≤ length disk.bytes) kept.form (journal_long (journal_label j) disk.bytes kept.records.journal)

-- what became of the journal in memory
pub record Takes (old new : Journal) (slot : ℕ) (es : List Entry) : Type 0 where
  pub label : journal_label new ≡ journal_label old
  pub form : journal_form new ≡ journal_form old
  pub opened : (k : ℕ) → slot ≤ k → k < slot + length es → get_or new.gates.items k false ≡ true
  pub others : (k : ℕ) → (k < slot) ⊎ (slot + length es ≤ k) → get_or new.gates.items k false ≡ get_or old.gates.items k false
  pub entries : (x : Entry) → has_entry new x ≡ with_entries es (has_entry old) x

pub takes_noted : (old new : Journal) (slot : ℕ) (es : List Entry) → AreNoted old new slot es → Takes old new slot es
takes_noted old new slot es noted = record {
  label = same_label old new noted.same;
  form = same_form old new noted.same;
  opened = noted.opened;
  others = noted.others;
  entries = noted.entries;
}

pub kept_more : (old new : Journal) (before disk : DiskState) (slot : ℕ) (es : List Entry) → IsKeptOn old before → Takes old new slot es
    → HasAddedGroup (journal_label old) (journal_form old) (has_entry old) before.bytes slot (nth_entry es) (length es) disk → IsKeptOn new disk
kept_more old new before disk slot es kept takes added = record {
  settled = added.settled;
  records = now;
  each = λ image left. all_settled (journal_label new) (has_entry new) disk image added.settled now left;
  form = (λ i. form_of (takes.label i) disk.bytes) ∙ added.form ∙ sym takes.form;
  gates = λ k lt. (λ i. is_open (takes.form i) disk.bytes k) ∙ gate k (omega (arith, lt, ap slots_of takes.form));
}
  where
    P : Label
    P = journal_label old

    F : Form
    F = journal_form old

    now : Records (journal_label new) (has_entry new) disk.bytes
    now = subst (λ (Q : Label). Records Q (has_entry new) disk.bytes) (sym takes.label)
        (retold P (with_entries (take (length es) es) (has_entry old)) (has_entry new) disk.bytes (λ x. (λ i. with_entries (take_all es (length es) refl i) (has_entry old) x) ∙ sym (takes.entries x))
        (all_added P (has_entry old) es (length es) (omega arith) F before.bytes slot disk added))

    gate : (k : ℕ) → k < slots_of F → is_open F disk.bytes k ≡ get_or new.gates.items k false
    gate k lt = elim (cases_lt k slot) [
      | inl less ↦ added.others k lt (inl less) ∙ kept.gates k lt ∙ sym (takes.others k (inl less))
      | inr from ↦ elim (cases_lt k (slot + length es)) [
        | inl within ↦ let at : slot + (k - slot) ≡ k = omega (arith, from) in ap (λ (i : ℕ). is_open F disk.bytes i) (sym at) ∙ added.opened (k - slot) (omega (arith, within, from)) ∙ sym (takes.opened k from within)
        | inr past ↦ added.others k lt (inr past) ∙ kept.gates k lt ∙ sym (takes.others k (inr past))
      ]
    ]

-- each moment of the append of a group
pub adds_group : (P : Label) (R : Entry → Bool) (es : List Entry) (n : ℕ) (old new : History) → n ≤ length es → HoldsOnDisk old new (AddsSome P R (nth_entry es) n) → HoldsOnDisk old new (AddsSomeOf P R es)
adds_group P R es n old new le some = weakens (AddsSome P R (nth_entry es) n) (AddsSomeOf P R es) old new (λ d adds. adds_some P R es n le d adds) some

-- those of the first of a list are of the list
some_first : (P : Label) (R : Entry → Bool) (es : List Entry) (n : ℕ) (image : List ℕ) → HasSomeOf P R (take n es) image → HasSomeOf P R es image
some_first P R es n image some = record {
  now = some.now;
  records = some.records;
  keeps = some.keeps;
  adds = λ e there. elim (some.adds e there) [
    | inl old ↦ inl old
    | inr new ↦ inr (among_first es n e new)
  ];
}

pub adds_first : (P : Label) (R : Entry → Bool) (es : List Entry) (n : ℕ) (old new : History) → HoldsOnDisk old new (AddsSomeOf P R (take n es)) → HoldsOnDisk old new (AddsSomeOf P R es)
adds_first P R es n old new some = weakens (AddsSomeOf P R (take n es)) (AddsSomeOf P R es) old new (λ d adds image left. some_first P R es n image (adds image left)) some

-- ------ the run of a group
-- an entry that is not found leaves a gate closed
pub has_room : (j : Journal) (e : Entry) → MayAppend j e → 1 ≤ room_of j
has_room j e may =
    let below : place_of (journal_form j) e < length j.found.items = omega (arith, place_below (journal_form j) e may.named, j.entries, j.layout.counts, j.whole) in
    let lacks : count_true j.found.items < length j.found.items = count_lacks j.found.items (place_of (journal_form j) e) below (sym (found_at (journal_form j) j.found.items e may.named) ∙ may.fresh) in
    room_inside j.gates.items (omega (arith, lacks, j.balance, j.slots, j.entries))

pub first_of : (j : Journal) (es : List Entry) → MayAppendAll j es → 1 ≤ room_of j
first_of j es may = has_room j (nth_entry es 0) (each_nth (MayAppend j) es 0 may.each may.some)

pub room_first : (j : Journal) (es : List Entry) (slot n : ℕ) → slot ≡ first_closed j → n ≡ min (length es) (room_of j) → IsRoom j slot (take n es)
room_first j es slot n at is = subst (λ (s : ℕ). IsRoom j s (take n es)) (sym at) (record {
  within = omega (arith, size, is, run_within j.gates.items);
  closed = λ k lt. run_closed j.gates.items k (omega (arith, lt, size, is));
})
  where
    size : length (take n es) ≡ n
    size = length-take n es ∙ omega (arith, is)

pub may_first : (j : Journal) (es : List Entry) (n : ℕ) → MayAppendAll j es → n ≡ min (length es) (room_of j) → MayAppendAll j (take n es)
may_first j es n may is = record {
  some = omega (arith, size, is, may.some, first_of j es may);
  few = omega (arith, size, is, may.few);
  each = each_take (MayAppend j) es n may.each;
  once = once_take es n may.once;
}
  where
    size : length (take n es) ≡ n
    size = length-take n es ∙ omega (arith, is)
