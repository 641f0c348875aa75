-- From the bytes of a disk to the journal in memory.
use Rattle.std.proofs.Common.{◌≡◌, ◌⊎◌, inl, inr, ℕ, ◌+◌, ◌*◌, ◌<◌, ◌≤◌, Bool, true, false, List, length, get_or, refl, sym, ◌∙◌, ap, subst, arith, Result, Ok, Err}
use Rattle.std.specs.Prelude.{nat_le, ◌&&◌, ◌||◌, ◌++◌, ◌==◌, not, slice_index, IfOk, IfErr, replicate}
use Rattle.std.proofs.lemmas.Bool.{ne_eqb, and_left, and_parts, false≢true, ltb-true}
use Rattle.disk_model.specs.Disk.{DiskState, IsCrashImage, IsSettled, Synced}
use Rattle.shop_model.specs.History.{History, Call, LAST, DiskCall, disk_now}
use Rattle.disk_model.specs.declared.device.DeviceFault.{DeviceFault}
use Rattle.flash_plan.specs.declared.outcome.Entry.{Entry}
use Rattle.flash_plan.specs.declared.outcome.Entry.TheVariants.{Begun, Marked, Complete}
use Rattle.journal_model.specs.Records.{Label, Form, unit_of, total, slots_of, old_form, new_form, behind, form_of, end_of, gate_at, is_fresh, is_headed, says_digest, counts, has_second, is_journal, is_new, is_migrated, is_open, is_formed, is_distinct, is_filled, is_ordered, is_standing, names, has, records}
use Rattle.journal_steps.specs.Append.{Records}
use Rattle.journal_steps.specs.File.{new_bytes}
use Rattle.journal_steps.specs.Later.{HoldsOnDisk, SameDisk, IsDisk}
use Rattle.journal_steps.specs.Make.{no_entry, Starts, CanStart, IsNew, AllFollow}
use Rattle.journal_steps.specs.Move.{AllRecord, IsOld, IsSecond, CanMove, HasMoved}
use Rattle.journal_steps.specs.Read.{IsFront, IsRead, limit_of, one_ordered}
use Rattle.journal_steps.specs.Tables.{count_true, place_of, is_found}
use Rattle.journal_steps.proofs.File.{new_made, new_size}
use Rattle.journal_steps.proofs.Front.{front_fresh, front_journal, front_has, front_form, front_gate}
use Rattle.journal_steps.proofs.Group.{retold}
use Rattle.journal_steps.proofs.Listing.{IsBehind, behind_of}
use Rattle.journal_steps.proofs.Made.{fresh_no_journal}
use Rattle.journal_steps.proofs.Migrating.{old_form_of, gates_moved, second_front}
use Rattle.journal_steps.proofs.Moments.{weakens, joins, one_call}
use Rattle.journal_steps.proofs.Opening.{follows_itself, follows_start, follows_on, follows_synced, follows_records}
use Rattle.journal_steps.proofs.Reading.{none_of, none_found}
use Rattle.journal_steps.proofs.Slots.{below_at}
use Rattle.journal_steps.proofs.Settled.{itself, all_settled}
use Rattle.journal_steps.proofs.Tests.{tested_fresh, tested_journal}
use Rattle.journal_steps.proofs.Tables.{unit_named}
use Rattle.journal_steps.proofs.Wider.{found_wider}
use Rattle.flash_journal.specs.declared.journal.Journal.{Journal}
use Rattle.flash_journal.specs.declared.looking.OpenFault.{OpenFault}
use Rattle.flash_journal.specs.declared.looking.OpenFault.TheVariants.{NotJournal, OtherPlan, DiskFault, NoMemory}
use Rattle.flash_journal.specs.Kept.{journal_label, journal_form, has_entry, IsKeptOn}
use Rattle.flash_journal.specs.Look.{IsWant, SaysOther}
use Rattle.flash_journal.specs.Opened.{IsOpened, OpenAnswer, OnRefusal, HasBytes, IsEmpty, IsOrdered}

-- the entries of a journal with these slots and this table
pub entries_as : (j : Journal) (F : Form) (found : List Bool) → journal_form j ≡ F → j.found.items ≡ found → (e : Entry) → has_entry j e ≡ is_found F found e
entries_as j F found form is e = λ i. is_found (form i) (is i) e

-- ------ a file that is made
pub can_start : (P : Label) (disk : DiskState) (front file : List ℕ) → length P.digest ≡ 32 → IsSettled disk → IsFront (limit_of P) disk.bytes front → is_fresh front ≡ true → file ≡ new_bytes P → CanStart P disk file
can_start P disk front file d32 settled is fresh file_is = subst (λ (xs : List ℕ). CanStart P disk xs) (sym file_is) (record {
  settled = settled;
  fresh = sym (front_fresh P disk.bytes front is) ∙ fresh;
  made = new_made P d32;
  size = new_size P d32;
})

module _ (P : Label) (j : Journal) (label : journal_label j ≡ P) (form : journal_form j ≡ new_form P 0) (gates : j.gates.items ≡ replicate (slots_of (new_form P 0)) false) (found : j.found.items ≡ replicate (slots_of (new_form P 0)) false) where
  pub none_there : (e : Entry) → has_entry j e ≡ false
  none_there e = entries_as j (new_form P 0) (replicate (slots_of (new_form P 0)) false) form found e ∙ none_found (new_form P 0) (slots_of (new_form P 0)) e

  pub kept_new : (disk : DiskState) → IsNew P disk → IsKeptOn j disk
  kept_new disk new = record {
    settled = new.settled;
    records = now;
    each = λ image left. all_settled (journal_label j) (has_entry j) disk image new.settled now left;
    form = (λ i. form_of (label i) disk.bytes) ∙ new.form ∙ sym form;
    gates = λ k lt. (λ i. is_open (form i) disk.bytes k) ∙ shut k (omega (arith, lt, ap slots_of form)) ∙ sym ((λ i. get_or (gates i) k false) ∙ none_of (slots_of (new_form P 0)) k);
  }
    where
      shut : (k : ℕ) → k < slots_of (new_form P 0) → is_open (new_form P 0) disk.bytes k ≡ false
      shut k lt =
          let at : 0 + (64 + k) ≡ 64 + k = omega arith in
          let none : slice_index disk.bytes (gate_at (new_form P 0) k) ≡ 0 = ap (λ (n : ℕ). slice_index disk.bytes n) at ∙ new.gates k lt in
          ne_eqb _ _ (λ is. omega (arith, is, none))

      now : Records (journal_label j) (has_entry j) disk.bytes
      now = subst (λ (Q : Label). Records Q (has_entry j) disk.bytes) (sym label) (retold P no_entry (has_entry j) disk.bytes (λ e. sym (none_there e)) new.records)

-- ------ a journal that was read
-- none is complete or marked that is not begun
pub read_is_ordered : (P : Label) (bytes : List ℕ) (gates found : List Bool) (j : Journal) → is_journal P bytes ≡ true → IsRead (form_of P bytes) bytes gates found
    → ((e : Entry) → has_entry j e ≡ is_found (form_of P bytes) found e) → IsOrdered j
read_is_ordered P bytes gates found j is read same = record {
  begun = λ u there. told (Begun u) ((behind u (named (Complete u) there)).complete (held (Complete u) there));
  marked = λ u s there.
      let parts = and_parts _ _ (name (Marked u s) there) in
      told (Begun u) ((behind u (ltb-true u F.units parts.0)).marked s (ltb-true s _ parts.1) (held (Marked u s) there));
}
  where
    F : Form
    F = form_of P bytes

    held : (e : Entry) → has_entry j e ≡ true → has F bytes e ≡ true
    held e there = read.entry e ∙ sym (same e) ∙ there

    told : (e : Entry) → has F bytes e ≡ true → has_entry j e ≡ true
    told e there = same e ∙ sym (read.entry e) ∙ there

    name : (e : Entry) → has_entry j e ≡ true → names F e ≡ true
    name e there = (and_parts (names F e) (get_or found (place_of F e) false) (sym (same e) ∙ there)).0

    named : (e : Entry) → has_entry j e ≡ true → unit_of e < F.units
    named e there = unit_named F e (name e there)

    standing : is_standing P bytes ≡ true
    standing = (and_parts (is_headed bytes && says_digest P bytes 0) (is_standing P bytes) is).1

    filled : is_filled F bytes ≡ true
    filled = (and_parts (counts P bytes && has_second P bytes) (is_filled F bytes) standing).1

    ordered : is_ordered F bytes ≡ true
    ordered = (and_parts (nat_le (end_of F) (length bytes) && is_formed F bytes && is_distinct F bytes) (is_ordered F bytes) filled).1

    behind : (u : ℕ) → u < F.units → IsBehind F (has F bytes) u
    behind u lt = behind_of F (has F bytes) u (below_at F.units (one_ordered F (has F bytes)) ordered u lt)

module _ (P : Label) (disk : DiskState) (front : List ℕ) (is : IsFront (limit_of P) disk.bytes front) (settled : IsSettled disk) (journal : is_journal P front ≡ true) where
  journal_there : is_journal P disk.bytes ≡ true
  journal_there = sym (front_journal P disk.bytes front is) ∙ journal

  -- one of version 2
  pub opened_read : (j : Journal) (gates found : List Bool) → IsRead (form_of P front) front gates found → journal_label j ≡ P → journal_form j ≡ form_of P front
      → j.gates.items ≡ gates → j.found.items ≡ found → IsOpened P disk.bytes j disk
  opened_read j gates found read label form gates_is found_is = record {
    opens = inr (tested_journal P disk.bytes journal_there);
    entries = λ e. sym (holds e) ∙ (λ i. sym journal_there i && has (form_of P disk.bytes) disk.bytes e);
    kept = record {
      settled = settled;
      records = now;
      each = λ image left. all_settled (journal_label j) (has_entry j) disk image settled now left;
      form = (λ i. form_of (label i) disk.bytes) ∙ sym (front_form P disk.bytes front is) ∙ sym form;
      gates = λ k lt. (λ i. is_open (there i) disk.bytes k) ∙ sym (front_gate P disk.bytes front is k (omega (arith, lt, ap slots_of there)))
          ∙ (λ i. is_open (sym (front_form P disk.bytes front is) i) front k) ∙ read.gate k (omega (arith, lt, ap slots_of form)) ∙ sym (λ i. get_or (gates_is i) k false);
    };
  }
    where
      there : journal_form j ≡ form_of P disk.bytes
      there = form ∙ front_form P disk.bytes front is

      holds : (e : Entry) → has (form_of P disk.bytes) disk.bytes e ≡ has_entry j e
      holds e = sym (front_has P disk.bytes front is e) ∙ read.entry e ∙ sym (entries_as j (form_of P front) found form found_is e)

      now : Records (journal_label j) (has_entry j) disk.bytes
      now = subst (λ (Q : Label). Records Q (has_entry j) disk.bytes) (sym label) (record { journal = journal_there; entries = holds })

  -- ------ one of version 1
  abbrev R : Entry → Bool
  R = has (form_of P disk.bytes) disk.bytes

  pub holds_now : Records P R disk.bytes
  holds_now = record { journal = journal_there; entries = λ e. refl }

  pub can_move : (at : ℕ) (second : List ℕ) → IsOld front → at ≡ behind P → IsSecond P front second → CanMove P R disk at second
  can_move at second old place made = record {
    place = place;
    settled = settled;
    holds = holds_now;
    old = record {
      version = (λ i. sym (is.same 8 (omega arith)) i == 2) ∙ old.version;
      stays = (λ i. not (sym (is.same 8 (omega arith)) i == 2) && (sym (is.same 63 (omega arith)) i == 165)) ∙ old.stays;
    };
    written = second_front P disk.bytes front second is made;
  }

  pub opened_moved : (j : Journal) (new : DiskState) (gates found : List Bool) → IsOld front → IsRead (form_of P front) front gates found → HasMoved P R disk.bytes new
      → journal_label j ≡ P → journal_form j ≡ new_form P (behind P) → j.gates.items ≡ gates ++ replicate (total P.segments) false → j.found.items ≡ found ++ replicate (total P.segments) false
      → IsOpened P disk.bytes j new
  opened_moved j new gates found old read moved label form gates_is found_is = record {
    opens = inr (tested_journal P disk.bytes journal_there);
    entries = λ e. sym (holds e) ∙ (λ i. sym journal_there i && R e);
    kept = record {
      settled = moved.settled;
      records = now;
      each = λ image left. all_settled (journal_label j) (has_entry j) new image moved.settled now left;
      form = (λ i. form_of (label i) new.bytes) ∙ moved.form ∙ sym form;
      gates = λ k lt. (λ i. is_open (form i) new.bytes k)
          ∙ gates_moved P R disk.bytes new gates moved (read.gates_size ∙ ap slots_of first) was k (omega (arith, lt, ap slots_of form))
          ∙ sym (λ i. get_or (gates_is i) k false);
    };
  }
    where
      first : form_of P front ≡ old_form P
      first = old_form_of P front old

      here : form_of P disk.bytes ≡ old_form P
      here = sym (front_form P disk.bytes front is) ∙ first

      holds : (e : Entry) → R e ≡ has_entry j e
      holds e = sym (front_has P disk.bytes front is e) ∙ read.entry e ∙ (λ i. is_found (first i) found e)
          ∙ sym (found_wider P (behind P) found (read.found_size ∙ ap slots_of first) e) ∙ sym (entries_as j (new_form P (behind P)) (found ++ replicate (total P.segments) false) form found_is e)

      now : Records (journal_label j) (has_entry j) new.bytes
      now = subst (λ (Q : Label). Records Q (has_entry j) new.bytes) (sym label) (retold P R (has_entry j) new.bytes holds moved.holds)

      was : (k : ℕ) → k < slots_of (old_form P) → is_open (old_form P) disk.bytes k ≡ get_or gates k false
      was k lt = (λ i. is_open (sym here i) disk.bytes k) ∙ sym (front_gate P disk.bytes front is k (omega (arith, lt, ap slots_of here)))
          ∙ (λ i. is_open (sym (front_form P disk.bytes front is) i) front k) ∙ read.gate k (omega (arith, lt, ap slots_of first))

  pub move_follows : (old new : History) → disk_now old ≡ disk → HoldsOnDisk old new (AllRecord P R) → HoldsOnDisk old new (AllFollow P disk)
  move_follows old new at each = weakens (AllRecord P R) (AllFollow P disk) old new (λ d all. follows_records P R disk d (itself disk settled) holds_now all) each

-- the entries of a journal whose tables were widened
pub wider_entries : (P : Label) (F : Form) (j : Journal) (found : List Bool) → F ≡ old_form P → length found ≡ slots_of F → journal_form j ≡ new_form P (behind P) → j.found.items ≡ found ++ replicate (total P.segments) false
    → (e : Entry) → has_entry j e ≡ is_found F found e
wider_entries P F j found first size form found_is e = entries_as j (new_form P (behind P)) (found ++ replicate (total P.segments) false) form found_is e
    ∙ found_wider P (behind P) found (size ∙ ap slots_of first) e ∙ (λ i. is_found (sym first i) found e)

-- the answer where a file was made
pub answer_made : (P : Label) (old : List ℕ) (r : Result Journal OpenFault) (disk : DiskState) → is_fresh old ≡ true → IfOk r IsEmpty → IfOk r (λ j. IsKeptOn j disk) → IfErr r IsWant → OpenAnswer P old r disk
answer_made P old (Ok j) disk fresh none kept want = record { opens = inl (tested_fresh P old fresh); entries = λ e. none.none e ∙ sym (and_left _ _ (fresh_no_journal P old fresh)); kept = kept }
answer_made P old (Err NotJournal) disk fresh none kept want = absurd want
answer_made P old (Err (OtherPlan said)) disk fresh none kept want = absurd want
answer_made P old (Err DiskFault) disk fresh none kept want = tt
answer_made P old (Err NoMemory) disk fresh none kept want = tt

-- a run that leaves the disk
pub same_follows : (P : Label) (old new : History) → SameDisk old new → HoldsOnDisk old new (AllFollow P (disk_now old))
same_follows P old new same = weakens (IsDisk (disk_now old)) (AllFollow P (disk_now old)) old new (λ d is. subst (λ (x : DiskState). AllFollow P (disk_now old) x) (sym is) (follows_itself P (disk_now old))) same

-- a run that makes a file
pub start_follows : (P : Label) (old mid new : History) → IsSettled (disk_now old) → is_fresh (disk_now old).bytes ≡ true → HoldsOnDisk mid new (Starts P) → HoldsOnDisk mid new (AllFollow P (disk_now old))
start_follows P old mid new settled fresh starts = weakens (Starts P) (AllFollow P (disk_now old)) mid new (λ d each. follows_start P (disk_now old) d (itself (disk_now old) settled) fresh each) starts

-- a run from a synced disk
pub synced_follows : (P : Label) (old mid new : History) → IsCrashImage (disk_now old) (disk_now old).bytes → Synced (disk_now old) (disk_now mid) → HoldsOnDisk mid new (AllFollow P (disk_now mid)) → HoldsOnDisk mid new (AllFollow P (disk_now old))
synced_follows P old mid new readable synced run = weakens (AllFollow P (disk_now mid)) (AllFollow P (disk_now old)) mid new (λ d each. follows_on P (disk_now old) (disk_now mid) d (follows_synced P (disk_now old) (disk_now mid) readable synced) each) run

-- a promise of an answer, once its premise is there
pub kept_told : (T : Type 0) (r : Result Journal OpenFault) (disk : DiskState) → IfOk r (λ j. T → IsKeptOn j disk) → T → IfOk r (λ j. IsKeptOn j disk)
kept_told T (Ok j) disk kept told = kept told
kept_told T (Err f) disk kept told = tt

-- a wanting disk or memory refuses no file
pub want_other : (digest : List ℕ) (r : Result Journal OpenFault) → IfErr r IsWant → IfErr r (SaysOther digest)
want_other digest (Ok j) want = tt
want_other digest (Err NotJournal) want = tt
want_other digest (Err (OtherPlan said)) want = absurd want
want_other digest (Err DiskFault) want = tt
want_other digest (Err NoMemory) want = tt

-- a part that leaves the disk, and another
pub same_then : (old mid new : History) → SameDisk old mid → SameDisk mid new → SameDisk old new
same_then old mid new first second = joins (IsDisk (disk_now old)) old mid new first
    (weakens (IsDisk (disk_now mid)) (IsDisk (disk_now old)) mid new (λ d is. is ∙ (first.each mid.moment first.is_later.later (omega arith)).disk) second)

-- a refusal's promise, weakened
pub on_refusal : (X Y : Type 0) (r : Result Journal OpenFault) → (X → Y) → OnRefusal r X → OnRefusal r Y
on_refusal X Y (Ok j) implies x = tt
on_refusal X Y (Err NotJournal) implies x = implies x
on_refusal X Y (Err (OtherPlan said)) implies x = implies x
on_refusal X Y (Err DiskFault) implies x = tt
on_refusal X Y (Err NoMemory) implies x = implies x

-- a sync, and a part that leaves the disk
pub synced_same : {T : Type 0} {call : Call} (old mid new : History) (r : Result T DeviceFault) → old.moment ≤ LAST → DiskCall call old mid r → (disk_now mid).bytes ≡ (disk_now old).bytes → SameDisk mid new → HoldsOnDisk old new (HasBytes (disk_now old).bytes)
synced_same old mid new r bounded did same still = joins (HasBytes (disk_now old).bytes) old mid new
    (one_call (HasBytes (disk_now old).bytes) old mid r bounded refl did same)
    (weakens (IsDisk (disk_now mid)) (HasBytes (disk_now old).bytes) mid new (λ d is. ap (λ (x : DiskState). x.bytes) is ∙ same) still)

-- what was answered over the bytes after a sync, over those before it
pub answer_synced : (P : Label) (old mid : DiskState) (r : Result Journal OpenFault) (disk : DiskState) → mid.bytes ≡ old.bytes → OpenAnswer P mid.bytes r disk → OpenAnswer P old.bytes r disk
answer_synced P old mid r disk same answer = subst (λ (xs : List ℕ). OpenAnswer P xs r disk) same answer

-- ------ none is complete or marked that is not begun
pub empty_ordered : (r : Result Journal OpenFault) → IfOk r IsEmpty → IfOk r IsOrdered
empty_ordered (Ok j) is = record {
  begun = λ u there. absurd (false≢true (sym (is.none (Complete u)) ∙ there));
  marked = λ u s there. absurd (false≢true (sym (is.none (Marked u s)) ∙ there));
}
empty_ordered (Err e) is = tt

-- what is opened, once the disk is told
pub answer_opened : (P : Label) (old : List ℕ) (T : Type 0) (r : Result Journal OpenFault) (disk : DiskState) → IfOk r (λ j. T → IsOpened P old j disk) → IfErr r IsWant → T → OpenAnswer P old r disk
answer_opened P old T (Ok j) disk opened want told = opened told
answer_opened P old T (Err NotJournal) disk opened want told = absurd want
answer_opened P old T (Err (OtherPlan said)) disk opened want told = absurd want
answer_opened P old T (Err DiskFault) disk opened want told = tt
answer_opened P old T (Err NoMemory) disk opened want told = tt

-- what is opened over a disk that is the same
pub answer_same : (P : Label) (old mid : DiskState) (r : Result Journal OpenFault) (disk : DiskState) → mid ≡ old → OpenAnswer P mid.bytes r disk → OpenAnswer P old.bytes r disk
answer_same P old mid r disk same answer = subst (λ (d : DiskState). OpenAnswer P d.bytes r disk) same answer
