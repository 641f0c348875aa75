-- What the opening, a claim and an end keep of a bay.
use Rattle.std.proofs.Common.{◌≡◌, ℕ, ◌+◌, ◌<◌, ◌≤◌, true, List, Err, Result, sym, ◌∙◌, subst, arith}
use Rattle.std.specs.Prelude.{Bool, IsTrue, IfErr, ◌&&◌, nat_lt, is_none}
use Rattle.std.proofs.lemmas.Bool.{and_parts}
use Rattle.barrier_board.specs.Board.{has_entry as is_found}
use Rattle.barrier_board.specs.declared.board.Claimed as board
use Rattle.barrier_board.specs.declared.board.Claimed.TheVariants.{Unit as Took, Nothing}
use Rattle.bay_core.specs.Core.{core_after}
use Rattle.bay_core.specs.declared.event.Event.TheVariants.{Claimed, Ended}
use Rattle.bay_law.proofs.Closing.{says}
use Rattle.bay_law.proofs.Opening.{open_keeps, start_sentence}
use Rattle.bay_law.proofs.Quiet.{quiet_keeps, claimed_quiet, ended_quiet}
use Rattle.bay_law.specs.Bay.{AreOrdered}
use Rattle.bay_law.specs.Closed.{Says}
use Rattle.flash_bay.specs.Calls.{MayEnd, ended_as}
use Rattle.flash_bay.specs.Opened.{IsOpened, IsRefused, OnFile}
use Rattle.flash_bay.specs.Starting.{IsStarted}
use Rattle.flash_bay.specs.State.{BayState, IsBayOf, state_of}
use Rattle.flash_bay.specs.declared.why.EndWhy.{EndWhy}
use Rattle.flash_bay.specs.declared.why.EndWhy.TheVariants.{Due}
use Rattle.flash_bay.specs.declared.why.EndWhy.TheVariants as why
use Rattle.flash_journal.specs.Kept.{has_entry, IsKeptOn}
use Rattle.flash_journal.specs.Look.{HasCause, SaysOther}
use Rattle.flash_journal.specs.Opened.{HasBytes, IsOf, IsOrdered, IsOpened as IsJournalOpened, OnRefusal, OpenAnswer}
use Rattle.flash_journal.specs.declared.journal.Journal.{Journal}
use Rattle.flash_journal.specs.declared.looking.OpenFault.{OpenFault}
use Rattle.flash_journal.specs.declared.looking.OpenFault.TheVariants.{NotJournal, OtherPlan, DiskFault, NoMemory}
use Rattle.flash_plan.specs.declared.outcome.Entry.{Entry}
use Rattle.flash_plan.specs.declared.outcome.Entry.TheVariants.{Begun, Marked, Complete}
use Rattle.flash_plan.specs.declared.outcome.Outcome.{Outcome}
use Rattle.flash_plan.specs.declared.unit.LinkRules.{LinkRules}
use Rattle.flash_plan.specs.declared.unit.UnitPlan.{UnitPlan}
use Rattle.flash_plan.specs.Plan.{count_of}
use Rattle.flash_run.proofs.Rooms.{left_ended}
use Rattle.flash_run.specs.Need.{AreDue}
use Rattle.flash_run.specs.Run.{RunState, IsKept, ClaimsNext, core_of_run, is_open, left_in, may_take, run_start, with_event}
use Rattle.flash_run.specs.declared.need.Need.TheVariants as need
use Rattle.journal_model.specs.Records.{label_of}
use Rattle.journal_steps.specs.Later.{IsDiskLater, HoldsOnDisk}
use Rattle.journal_steps.specs.Make.{AllFollow}
use Rattle.shop_model.specs.History.{History, disk_now}

-- ------ opening
ordered_found : (found : List Entry) (j : Journal) → ((e : Entry) → is_found found e ≡ has_entry j e) → IsOrdered j → AreOrdered found
ordered_found found j same ordered = record {
  complete = λ u is. same (Begun u) ∙ ordered.begun u (sym (same (Complete u)) ∙ is);
  marked = λ u s is. same (Begun u) ∙ ordered.marked u s (sym (same (Marked u s)) ∙ is);
}

pub opened : {S : Type 0} (td tv : Bool) (history : S → History) (P : List UnitPlan) (rules : LinkRules) (old first shop : S) (r : RunState) (j : Journal) → first ≡ old → IsStarted P rules j r → IsOrdered j → IsOf (label_of P) j → IsDiskLater (history old) (history shop)
    → (IsTrue td → IsKeptOn j (disk_now (history shop))) → (IsTrue td → HoldsOnDisk (history old) (history shop) (AllFollow (label_of P) (disk_now (history old)))) → IsBayOf td tv r (history first) (history shop) j
opened {S = S} td tv history P rules old first shop r j is started ordered of later kept through =
    let base : IsBayOf td tv (run_start P rules r.found) (history old) (history shop) j =
    open_keeps td tv rules P r.found (history old) (history shop) (state_of j) (IsKeptOn j) (ordered_found r.found j started.found ordered) of.label of.live started.found later kept (λ x k. record { records = k.records; each = k.each }) through in
    subst (λ (x : RunState × S). IsBayOf td tv x.0 (history x.1) (history shop) j) (λ i. (sym started.run i, sym is i)) base

pub opened_as : {S : Type 0} (td : Bool) (history : S → History) (P : List UnitPlan) (rules : LinkRules) (old first shop : S) (r : RunState) (j : Journal) (slots : ℕ) → first ≡ old → IsStarted P rules j r
    → (IsTrue td → IsJournalOpened (label_of P) (disk_now (history old)).bytes j (disk_now (history shop))) → IsDiskLater (history old) (history shop) → IsOpened td history P rules old (record { run = r; first = first; shop = shop; slots = slots })
opened_as td history P rules old first shop r j slots is started told later = record { first = is; run = started.run; opens = λ t. (told t).opens; found = λ t e. started.found e ∙ (told t).entries e; is_later = later }

-- what the journal's opening says of a file that is refused
pub on_file : (X : Type 0) (r : Result Journal OpenFault) (f : OpenFault) → r ≡ Err f → OnRefusal r X → OnFile f X
on_file X r f is left = by_fault f (subst (λ (x : Result Journal OpenFault). OnRefusal x X) is left)
  where
    by_fault : (g : OpenFault) → (let x : Result Journal OpenFault = Err g in OnRefusal x X) → OnFile g X
    by_fault NotJournal x = x
    by_fault (OtherPlan said) x = x
    by_fault DiskFault x = tt
    by_fault NoMemory x = tt

-- a refusal of the journal
pub refused : {S : Type 0} (td : Bool) (history : S → History) (P : List UnitPlan) (old shop : S) (x : Result Journal OpenFault) (f : OpenFault) → x ≡ Err f → (IsTrue td → OpenAnswer (label_of P) (disk_now (history old)).bytes x (disk_now (history shop)))
    → (IsTrue td → OnRefusal x (HoldsOnDisk (history old) (history shop) (HasBytes (disk_now (history old)).bytes))) → IfErr x (SaysOther (label_of P).digest) → IfErr x (HasCause (history old) (history shop))
    → (IsTrue td → HoldsOnDisk (history old) (history shop) (AllFollow (label_of P) (disk_now (history old)))) → IsDiskLater (history old) (history shop) → IsRefused td history P old shop f
refused td history P old shop x f is told untouched other cause through later = record {
  tells = λ t. subst (λ (y : Result Journal OpenFault). OpenAnswer (label_of P) (disk_now (history old)).bytes y (disk_now (history shop))) is (told t);
  other = subst (λ (y : Result Journal OpenFault). IfErr y (SaysOther (label_of P).digest)) is other;
  cause = subst (λ (y : Result Journal OpenFault). IfErr y (HasCause (history old) (history shop))) is cause;
  untouched = λ t. on_file (HoldsOnDisk (history old) (history shop) (HasBytes (disk_now (history old)).bytes)) x f is (untouched t);
  sound = λ t. start_sentence P (history old) (history shop) (through t);
  is_later = later;
}

-- want of memory behind an opened journal
pub wanted : {S : Type 0} (td : Bool) (history : S → History) (P : List UnitPlan) (old shop : S) → (IsTrue td → HoldsOnDisk (history old) (history shop) (AllFollow (label_of P) (disk_now (history old)))) → IsDiskLater (history old) (history shop)
    → IsRefused td history P old shop NoMemory
wanted td history P old shop through later = record { tells = λ t. tt; other = tt; cause = tt; untouched = λ t. tt; sound = λ t. start_sentence P (history old) (history shop) (through t); is_later = later }

-- ------ a claim, an end
pub claim_keeps : (td tv : Bool) (r r2 : RunState) (x : board.Claimed) (first now : History) (j : Journal) → ClaimsNext r x r2 → IsBayOf td tv r first now j → IsBayOf td tv r2 first now j
claim_keeps td tv r r2 (Took u) first now j did is =
    subst (λ (x : RunState). IsBayOf td tv x first now j) (sym did.1) (quiet_keeps td tv r (Claimed u) first now (state_of j) (IsKeptOn j) (claimed_quiet r.rules r.plan u) is)
claim_keeps td tv r r2 Nothing first now j did is = subst (λ (x : RunState). IsBayOf td tv x first now j) (sym did.0) is

pub end_keeps : (td tv : Bool) (r r2 : RunState) (u : ℕ) (o : Outcome) (first now : History) (j : Journal) → r2 ≡ with_event (Ended u o) r → IsBayOf td tv r first now j → IsBayOf td tv r2 first now j
end_keeps td tv r r2 u o first now j did is =
    subst (λ (x : RunState). IsBayOf td tv x first now j) (sym did) (quiet_keeps td tv r (Ended u o) first now (state_of j) (IsKeptOn j) (ended_quiet r.rules r.plan u o) is)

-- ------ seen from a caller
pub says_of : {S : Type 0} (td tv : Bool) (history : S → History) (b : BayState S) (r : RunState) (first shop : S) (slots : ℕ) (j : Journal) → ◌≡◌ {A = BayState S} (record { run = r; first = first; shop = shop; slots = slots }) b
    → IsKept r → IsBayOf td tv r (history first) (history shop) j → Says td tv b.run (history b.first) (history b.shop)
says_of {S = S} td tv history b r first shop slots j view kept is =
    let here : IsBayOf td tv b.run (history b.first) (history b.shop) j = subst (λ (x : BayState S). IsBayOf td tv x.run (history x.first) (history x.shop) j) view is in
    let keeps : IsKept b.run = subst (λ (x : BayState S). IsKept x.run) view kept in
    says td tv b.run (history b.first) (history b.shop) (state_of j) (IsKeptOn j) keeps here

-- ------ room for an end
none_at : (r : RunState) (u : ℕ) → is_open r u ≡ true → is_none ((core_of_run r).slots u).outcome ≡ true
none_at r u opens = (and_parts (nat_lt u (count_of r.plan) && ((core_of_run r).slots u).claimed) (is_none ((core_of_run r).slots u).outcome) opens).1

open_to_end : (r : RunState) (u : ℕ) (w : EndWhy) → AreDue r → MayEnd r u w → is_open r u ≡ true
open_to_end r u Due due may = due.gone u (λ is. end_gone (sym may ∙ is))
  where
    end_gone : need.End ≡ need.Gone → ⊥
    end_gone e = cc
open_to_end r u why.NoMemory due may = due.gone u may

pub end_may : {S : Type 0} (b : BayState S) (r : RunState) (first shop : S) (slots : ℕ) (u : ℕ) (w : EndWhy) (o : Outcome) → ◌≡◌ {A = BayState S} (record { run = r; first = first; shop = shop; slots = slots }) b
    → AreDue r → MayEnd b.run u w → o ≡ ended_as b.run u w → may_take r (Ended u o) ≡ true
end_may {S = S} b r first shop slots u w o view due may is = subst (λ (x : BayState S). AreDue x.run → may_take x.run (Ended u o) ≡ true) (sym view) (λ d. by b.run w d may is) due
  where
    by : (q : RunState) (y : EndWhy) → AreDue q → MayEnd q u y → o ≡ ended_as q u y → may_take q (Ended u o) ≡ true
    by q Due d m same = subst (λ (x : Outcome). may_take q (Ended u x) ≡ true) (sym same) (d.end u m)
    by q why.NoMemory d m same = subst (λ (x : Outcome). may_take q (Ended u x) ≡ true) (sym same) (d.want u (open_to_end q u why.NoMemory d m))

pub end_room : {S : Type 0} (b : BayState S) (r : RunState) (first shop : S) (slots : ℕ) (u : ℕ) (w : EndWhy) (o : Outcome) → ◌≡◌ {A = BayState S} (record { run = r; first = first; shop = shop; slots = slots }) b
    → IsKept r → AreDue r → MayEnd b.run u w → u < count_of b.run.plan → left_in r.plan (core_after r.rules r.plan (Ended u o) (core_of_run r)) + 1 ≤ r.room
end_room {S = S} b r first shop slots u w o view kept due may lt =
    let opens : is_open r u ≡ true = open_to_end r u w due (subst (λ (x : BayState S). MayEnd x.run u w) (sym view) may) in
    let below : u < count_of r.plan = subst (λ (x : BayState S). u < count_of x.run.plan) (sym view) lt in
    let less : left_in r.plan (core_after r.rules r.plan (Ended u o) (core_of_run r)) + 1 ≤ left_in r.plan (core_of_run r) = left_ended r.rules r.plan (core_of_run r) u o (none_at r u opens) below in
    omega (arith, less, kept.room)

pub within_plan : (P Q : List UnitPlan) (u : ℕ) → P ≡ Q → u < count_of P → u < count_of Q
within_plan P Q u same lt = subst (λ (x : List UnitPlan). u < count_of x) same lt
