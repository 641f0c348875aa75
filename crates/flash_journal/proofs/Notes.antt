-- Entries that are noted in the tables, one after another.
use Rattle.std.proofs.Common.{◌≡◌, ◌⊎◌, inl, inr, ℕ, ◌+◌, ◌*◌, ◌<◌, ◌≤◌, Bool, true, false, List, [], ◌∷◌, ◌++◌, length, get_or, set, take, length-set, length-append, length-take, refl, sym, ◌∙◌, ap, subst, arith}
use Rattle.std.specs.Prelude.{◌&&◌, ◌||◌, not, ◌↔◌, nat_lt, IsTrue, Some, None}
use Rattle.std.proofs.lemmas.Bool.{cases_Bool, cases_eq, and_parts, and_from, both_ways, lt-ltb}
use Rattle.std.proofs.lemmas.List.{get_or-set_same, get_or-set_other}
use Rattle.flash_plan.specs.declared.outcome.Entry.{Entry}
use Rattle.flash_plan.specs.declared.outcome.Entry.TheVariants.{Begun, Marked, Complete}
use Rattle.flash_plan.specs.Outcomes.{same_entry, with_entry}
use Rattle.journal_model.specs.Records.{Label, Form, new_form, names}
use Rattle.journal_steps.specs.Append.{IsPrepared, is_entry, with_entries}
use Rattle.journal_steps.specs.Read.{is_among, needs_none}
use Rattle.journal_steps.specs.Tables.{place_of, is_found}
use Rattle.journal_steps.proofs.Listing.{among_push}
use Rattle.journal_steps.proofs.One.{entry_with, same_sym}
use Rattle.journal_steps.proofs.Several.{nth_entry}
use Rattle.journal_steps.proofs.Tables.{place_below, table_more, unit_named}
use Rattle.flash_journal.specs.declared.journal.Journal.{Journal}
use Rattle.flash_journal.specs.Kept.{journal_label, journal_form, has_entry, MayAppend, MayAppendAll}
use Rattle.flash_journal.specs.Layouts.{layout_form, place_in}
use Rattle.flash_journal.specs.Noted.{CanNote, IsSameButTables, IsNoted, AreNoted, IsRoom}
use Rattle.flash_journal.proofs.Groups.{take_nth, each_nth, not_before}

-- the layout's form is that of version 2
pub form_is : (j : Journal) → layout_form j.layout ≡ journal_form j
form_is j = λ i. record { at = j.layout.at; units = j.whole i; segments = j.layout.segments.items }

pub same_label : (old new : Journal) → IsSameButTables old new → journal_label new ≡ journal_label old
same_label old new same = λ i. record { digest = same.digest i; segments = (same.layout i).segments.items }

pub same_form : (old new : Journal) → IsSameButTables old new → journal_form new ≡ journal_form old
same_form old new same = λ i. new_form (same_label old new same i) (same.layout i).at

-- the table with the entry
pub one_more : (old new : Journal) (slot : ℕ) (e : Entry) → names (journal_form old) e ≡ true → IsNoted old new slot e → (x : Entry) → has_entry new x ≡ with_entry e (has_entry old) x
one_more old new slot e named noted x =
    (λ i. is_found (same_form old new noted.same i) (noted.found i) x)
    ∙ table_more (journal_form old) old.found.items e x named (omega (arith, place_below (journal_form old) e named, old.entries, old.layout.counts, old.whole))
    ∙ entry_with (has_entry old) e x

or_nothing : (b : Bool) → b ≡ (false || b)
or_nothing b = refl

pub noted_none : (j : Journal) (slot : ℕ) → AreNoted j j slot []
noted_none j slot = record {
  same = record { digest = refl; layout = refl; live = refl };
  size = refl;
  opened = λ k ge lt. absurd (omega (arith, ge, lt));
  others = λ k side. refl;
  entries = λ x. refl;
}

or_turned : (a b c : Bool) → (a || (b || c)) ≡ ((b || a) || c)
or_turned true true c = refl
or_turned true false c = refl
or_turned false true c = refl
or_turned false false c = refl

-- one more
pub noted_push : (old mid new : Journal) (slot : ℕ) (es : List Entry) (e : Entry) → AreNoted old mid slot es → names (journal_form mid) e ≡ true → slot + length es < length old.gates.items
    → IsNoted mid new (slot + length es) e → AreNoted old new slot (es ++ e ∷ [])
noted_push old mid new slot es e so_far named lt noted = record {
  same = record {
    digest = noted.same.digest ∙ so_far.same.digest;
    layout = noted.same.layout ∙ so_far.same.layout;
    live = noted.same.live ∙ so_far.same.live;
  };
  size = ap length noted.gates ∙ length-set mid.gates.items (slot + length es) true ∙ so_far.size;
  opened = λ k ge klt. ap (λ (gs : List Bool). get_or gs k false) noted.gates ∙ elim (cases_eq k (slot + length es)) [
    | inl same ↦ ap (λ (i : ℕ). get_or (set mid.gates.items (slot + length es) true) i false) same ∙ get_or-set_same mid.gates.items (slot + length es) true false (omega (arith, lt, so_far.size))
    | inr other ↦ get_or-set_other mid.gates.items (slot + length es) k true false other ∙ so_far.opened k ge (omega (arith, klt, other, more))
  ];
  others = λ k side. ap (λ (gs : List Bool). get_or gs k false) noted.gates
      ∙ get_or-set_other mid.gates.items (slot + length es) k true false (λ same. elim side [ inl less ↦ omega (arith, same, less) | inr past ↦ omega (arith, same, past, more) ])
      ∙ so_far.others k (elim side [ inl less ↦ inl less | inr past ↦ inr (omega (arith, past, more)) ]);
  entries = λ x. one_more mid new (slot + length es) e named noted x ∙ (λ i. same_entry x e || so_far.entries x i)
      ∙ (λ i. same_sym x e i || (is_among es x || has_entry old x)) ∙ or_turned (same_entry e x) (is_among es x) (has_entry old x) ∙ (λ i. sym (among_push es e x) i || has_entry old x);
}
  where
    more : length (es ++ e ∷ []) ≡ length es + 1
    more = length-append es (e ∷ [])

-- the next entry of a group may be noted
pub note_next : (old mid : Journal) (slot : ℕ) (es : List Entry) (i : ℕ) → IsRoom old slot es → MayAppendAll old es → i < length es → AreNoted old mid slot (take i es) → CanNote mid (slot + i) (nth_entry es i)
note_next old mid slot es i room may lt so_far =
    let size : length (take i es) ≡ i = length-take i es ∙ omega (arith, lt) in
    let one = each_nth (MayAppend old) es i may.each lt in
    record {
      below = omega (arith, room.within, lt, so_far.size);
      closed = so_far.others (slot + i) (inr (omega (arith, size))) ∙ room.closed i lt;
      named = (λ k. names (same_form old mid so_far.same k) (nth_entry es i)) ∙ one.named;
      fresh = so_far.entries (nth_entry es i) ∙ both_none _ _ (not_before es i may.once lt) one.fresh;
    }
  where
    both_none : (a b : Bool) → a ≡ false → b ≡ false → (a || b) ≡ false
    both_none a b e1 e2 = rw (e1, e2) refl

pub noted_more : (old mid new : Journal) (slot : ℕ) (es : List Entry) (i : ℕ) → IsRoom old slot es → MayAppendAll old es → i < length es
    → AreNoted old mid slot (take i es) → IsNoted mid new (slot + i) (nth_entry es i) → AreNoted old new slot (take (i + 1) es)
noted_more old mid new slot es i room may lt so_far noted =
    subst (λ (xs : List Entry). AreNoted old new slot xs) (sym (take_nth es i lt))
    (noted_push old mid new slot (take i es) (nth_entry es i) so_far (note_next old mid slot es i room may lt so_far).named (omega (arith, size, room.within, lt))
    (subst (λ (k : ℕ). IsNoted mid new k (nth_entry es i)) at noted))
  where
    size : length (take i es) ≡ i
    size = length-take i es ∙ omega (arith, lt)

    at : slot + i ≡ slot + length (take i es)
    at = omega (arith, size)

-- ------ whether an entry may be appended
to_test : (j : Journal) (e : Entry) → MayAppend j e → (names (journal_form j) e && not (has_entry j e) && needs_none j.found.items e) ≡ true
to_test j e may = and_from _ _ (and_from _ _ may.named (λ i. not (may.fresh i))) (behind e may.named may.prepared)
  where
    behind : (x : Entry) → names (journal_form j) x ≡ true → IsPrepared (has_entry j) x → needs_none j.found.items x ≡ true
    behind (Begun u) named is = refl
    behind (Marked u s) named is = (and_parts _ _ is).1
    behind (Complete u) named is = (and_parts _ _ is).1

from_test : (j : Journal) (e : Entry) → (names (journal_form j) e && not (has_entry j e) && needs_none j.found.items e) ≡ true → MayAppend j e
from_test j e is =
    let parts = and_parts _ _ is in
    let first = and_parts _ _ parts.0 in
    record { named = first.0; fresh = none (has_entry j e) first.1; prepared = behind e first.0 parts.1 }
  where
    none : (b : Bool) → not b ≡ true → b ≡ false
    none true e = sym e
    none false e = refl

    begun : (u : ℕ) → u < length j.layout.segments.items → get_or j.found.items (2 * u) false ≡ true → has_entry j (Begun u) ≡ true
    begun u lt at = and_from _ _ (lt-ltb u (length j.layout.segments.items) lt) at

    behind : (x : Entry) → names (journal_form j) x ≡ true → needs_none j.found.items x ≡ true → IsPrepared (has_entry j) x
    behind (Begun u) named at = tt
    behind (Marked u s) named at = begun u (unit_named (journal_form j) (Marked u s) named) at
    behind (Complete u) named at = begun u (unit_named (journal_form j) (Complete u) named) at

pub may_test : (j : Journal) (e : Entry) (b : Bool) → b ≡ (names (journal_form j) e && not (has_entry j e) && needs_none j.found.items e) → IsTrue b ↔ MayAppend j e
may_test j e b is = (λ t. from_test j e (sym is ∙ t), λ may. is ∙ to_test j e may)
