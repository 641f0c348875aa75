-- How `status` ends, by what its files and the journal gave.
use Rattle.std.proofs.Common.{◌≡◌, ◌⊎◌, inl, inr, ℕ, Bool, IsTrue, List, [], ◌∷◌, ◌++◌, length, refl, sym, ◌∙◌, ap, subst, arith}
use Rattle.std.specs.Prelude.{Result, Ok, Err}
use Rattle.flash_base.specs.Counts.{Rises}
use Rattle.flash_journal.specs.Look.{Opens}
use Rattle.flash_plan.specs.declared.unit.UnitPlan.{UnitPlan}
use Rattle.flash_shelf.specs.History.{ShelfHistory, SinkHistory}
use Rattle.flash_shelf.specs.Outside.{Came, ReadFailed, WriteFailed}
use Rattle.flash_shelf.specs.declared.shelf.ShelfFault.{ShelfFault}
use Rattle.journal_model.specs.Records.{label_of, records}
use Rattle.journal_steps.specs.Read.{IsFront}
use Rattle.journal_steps.specs.Tested.{Tested, tested, NotMade, NoJournal, OfOtherPlan, OfThisPlan}
use Rattle.plan_build.specs.Building.{built, built_by}
use Rattle.plan_build.specs.Fetched.{between, came}
use Rattle.plan_build.specs.Laws.{FilesGiveOneAnswer}
use Rattle.plan_build.specs.Whole.{IfShelf}
use Rattle.plan_build.specs.declared.built.Built.{Built}
use Rattle.plan_build.specs.declared.fault.BuildFault.{BuildFault}
use Rattle.plan_build.specs.declared.fault.BuildFault.TheVariants as fault
use Rattle.run_report.specs.Recorded.{status_text}
use Rattle.shop_model.specs.History.{History, disk_now}
use Rattle.plan_commands.specs.Answering.{refused}
use Rattle.plan_commands.specs.Looking.{disk_failed, found, recorded, HasLookCause, IsOfRead, IsShownOfRead, IsStatusAnswer, IsStatusServed, OnlyReads, ServesStatus}
use Rattle.plan_commands.specs.Serving.{unwritten, PrintsAnswer, Starves}
use Rattle.plan_commands.specs.declared.answering.Answer.{Answer}
use Rattle.plan_commands.specs.declared.status.Status.{Status}
use Rattle.plan_commands.specs.declared.status.Status.TheVariants.{Done, Usage, Input, Units, Shelf, Journal, Disk, Sink, NoMemory}
use Rattle.plan_commands.proofs.Ends.{outside_of}
use Rattle.plan_commands.proofs.Journals.{opened}

-- ------ a file that is not empty
empty : (xs : List ℕ) → length xs ≡ 0 → xs ≡ []
empty [] e = refl
empty (x ∷ xs) e = absurd (omega (arith, e))

none_read : (m : ℕ) (image bytes : List ℕ) → image ≡ [] → IsFront m image bytes → bytes ≡ []
none_read m image bytes e front =
    let n : length image ≡ 0 = ap length e in
    empty bytes (omega (arith, front.size, n))

-- the status of what the tests of a file find
found_status : (P : List UnitPlan) (bytes : List ℕ) (t : Tested) → ((found P bytes t).status ≡ Done) ⊎ ((found P bytes t).status ≡ Journal)
found_status P bytes NotMade = inl refl
found_status P bytes OfThisPlan = inl refl
found_status P bytes NoJournal = inr refl
found_status P bytes OfOtherPlan = inr refl

-- the writing keeps a status, or it failed and the sink is named
after_writing : (s : Status) → (unwritten s ≡ s) ⊎ (unwritten s ≡ Sink)
after_writing Done = inr refl
after_writing Usage = inl refl
after_writing Input = inl refl
after_writing Units = inl refl
after_writing Shelf = inl refl
after_writing Journal = inl refl
after_writing Disk = inl refl
after_writing Sink = inl refl
after_writing NoMemory = inl refl

module _ (tells : Bool) (s0 s1 : ShelfHistory) (dt : Bool) (h0 h1 : History) (kt : Bool) (k0 k1 : SinkHistory) (order : List ℕ) where
  abbrev Cause : Status → Type 0
  Cause status = HasLookCause tells s0 s1 dt h0 h1 kt k0 k1 order status

  -- the printed status is the answer's, or the sink's after a write that failed
  printed_cause : (a : Answer) (status : Status) → PrintsAnswer kt k0 k1 a status → (status ≡ a.status → Cause status) → Cause status
  printed_cause a status (inl w) same = same w.0
  printed_cause a status (inr w) same =
      elim (after_writing a.status) as (λ x. Cause status) [
        | inl e ↦ same (w.0 ∙ e)
        | inr e ↦ subst Cause (sym (w.0 ∙ e)) w.1
      ]

  -- at a status the cause is what is known there
  at_status : (status x : Status) → status ≡ x → Cause x → Cause status
  at_status status x e cause = subst Cause (sym e) cause

  printed_at : (a b : Answer) (status x : Status) → a ≡ b → status ≡ x → PrintsAnswer kt k0 k1 a status → PrintsAnswer kt k0 k1 b x
  printed_at a b status x e is p = subst (λ (y : Status). PrintsAnswer kt k0 k1 b y) is (subst (λ (y : Answer). PrintsAnswer kt k0 k1 y status) e p)

  module _ (a : Answer) (status : Status) (printed : PrintsAnswer kt k0 k1 a status) (same : status ≡ a.status) where
    module _ (b : Built) (by : let r : Result Built BuildFault = Ok b in built_by (came (between tells s0 s1)) order r) (read : IsOfRead dt b.plan (disk_now h0).bytes a) where
      shown_at : (x : Status) → a.status ≡ x → IsShownOfRead tells s0 s1 dt h0 kt k0 k1 order x
      shown_at x e = record {
        whole = b;
        by = by;
        bytes = read.bytes;
        front = read.front;
        is = sym (ap (λ (y : Answer). y.status) read.is) ∙ e;
        printed = printed_at a (recorded b.plan read.bytes) status x read.is (same ∙ e) printed;
      }

      not_made : a.status ≡ Journal → IsTrue dt → (disk_now h0).bytes ≡ [] → ⊥
      not_made e t none =
          let no_bytes : read.bytes ≡ [] = none_read _ (disk_now h0).bytes read.bytes none (read.front t) in
          let so : (recorded b.plan read.bytes).status ≡ Journal = sym (ap (λ (y : Answer). y.status) read.is) ∙ e in
          let done : Done ≡ Journal = subst (λ (bytes : List ℕ). (recorded b.plan bytes).status ≡ Journal) no_bytes so in
          cc

      read_cause : Cause status
      read_cause =
          elim (found_status b.plan read.bytes (tested (label_of b.plan) read.bytes)) as (λ x. Cause status) [
            | inl e ↦
                let so : a.status ≡ Done = ap (λ (y : Answer). y.status) read.is ∙ e in
                at_status status Done (same ∙ so) (shown_at Done so)
            | inr e ↦
                let so : a.status ≡ Journal = ap (λ (y : Answer). y.status) read.is ∙ e in
                at_status status Journal (same ∙ so) (shown_at Journal so, not_made so)
          ]

    broken_cause : a ≡ disk_failed → Rises h0.disk_faults h1.disk_faults → Cause status
    broken_cause e rises = at_status status Disk (same ∙ ap (λ (y : Answer). y.status) e) rises

    refused_cause : (e : BuildFault) → (let r : Result Built BuildFault = Err e in IfShelf r (λ name why. Came tells s0 s1 name (Err why)))
        → (let r : Result Built BuildFault = Err e in built_by (came (between tells s0 s1)) order r) → (e ≡ fault.NoMemory → ⊥) → a ≡ refused e → Cause status
    refused_cause (fault.Shelf name why) outside by some is =
        let so : status ≡ Shelf = same ∙ ap (λ (y : Answer). y.status) is in
        let o = outside_of (λ (n : List ℕ) (w : ShelfFault). Came tells s0 s1 n (Err w)) name why outside in
        at_status status Shelf so (name, why, o.0, o.1, printed_at a (refused (fault.Shelf name why)) status Shelf is so printed)
    refused_cause (fault.Input name cause) outside by some is =
        let so : status ≡ Input = same ∙ ap (λ (y : Answer). y.status) is in
        at_status status Input so (fault.Input name cause, by, refl, printed_at a (refused (fault.Input name cause)) status Input is so printed)
    refused_cause fault.NoMemory outside by some is = absurd (some refl)

  -- what was answered to what the files gave
  answered_cause : (gave : Result Built BuildFault) (a : Answer) (status : Status)
      → (gave ≡ Err fault.NoMemory) ⊎ built_by (came (between tells s0 s1)) order gave → IfShelf gave (λ name why. Came tells s0 s1 name (Err why))
      → IsStatusAnswer dt h0 h1 gave a → PrintsAnswer kt k0 k1 a status → status ≡ a.status → Cause status
  answered_cause (Ok b) a status (inl e) outside is printed same = absurd cc
  answered_cause (Ok b) a status (inr by) outside (inl p) printed same = broken_cause a status printed same p.0 p.1
  answered_cause (Ok b) a status (inr by) outside (inr read) printed same = read_cause a status printed same b by read
  answered_cause (Err e) a status (inl wants) outside is printed same = absurd (let f : e ≡ fault.NoMemory = cc in is.0 f)
  answered_cause (Err e) a status (inr by) outside is printed same = refused_cause a status printed same e outside by is.0 is.1

  look_cause : (status : Status) → IsStatusServed tells s0 s1 dt h0 h1 kt k0 k1 order status → Cause status
  look_cause status s =
      elim s.printed as (λ x. Cause status) [
        | inl w ↦ at_status status NoMemory w.0 tt
        | inr w ↦ printed_cause w.0 status w.2 (answered_cause s.gave w.0 status s.read s.outside w.1 w.2)
      ]

  -- ------ where the files are told and no read failed
  given : (gave r : Result Built BuildFault) → FilesGiveOneAnswer → (gave ≡ Err fault.NoMemory) ⊎ ReadFailed s0 s1 ⊎ built s0.contents order gave → (ReadFailed s0 s1 → ⊥)
      → built s0.contents order r → (r ≡ Err fault.NoMemory → ⊥) → (gave ≡ Err fault.NoMemory → ⊥) → gave ≡ r
  given gave r one (inl e) none is some_r some = absurd (some e)
  given gave r one (inr (inl e)) none is some_r some = absurd (none e)
  given gave r one (inr (inr so)) none is some_r some =
      elim (one s0.contents s0.contents (λ n. refl) order gave r so is) as (λ x. gave ≡ r) [
        | inl e ↦ absurd (some e)
        | inr v ↦ elim v as (λ x. gave ≡ r) [ inl e ↦ absurd (some_r e) | inr e ↦ e ]
      ]

  -- an answer was given, so memory was not wanting
  some_given : (gave : Result Built BuildFault) (a : Answer) → IsStatusAnswer dt h0 h1 gave a → gave ≡ Err fault.NoMemory → ⊥
  some_given (Ok b) a is e = cc
  some_given (Err f) a is e = let g : f ≡ fault.NoMemory = cc in is.0 g

  told_answer : FilesGiveOneAnswer → (status : Status) → IsStatusServed tells s0 s1 dt h0 h1 kt k0 k1 order status → IsTrue tells → (ReadFailed s0 s1 → ⊥)
      → (r : Result Built BuildFault) → built s0.contents order r → (r ≡ Err fault.NoMemory → ⊥)
      → Starves k0 k1 status ⊎ ((a : Answer) × IsStatusAnswer dt h0 h1 r a × PrintsAnswer kt k0 k1 a status)
  told_answer one status s t none r is some =
      elim s.printed as (λ x. Starves k0 k1 status ⊎ ((a : Answer) × IsStatusAnswer dt h0 h1 r a × PrintsAnswer kt k0 k1 a status)) [
        | inl w ↦ inl w
        | inr w ↦
            let e : s.gave ≡ r = given s.gave r one (s.told t) none is some (some_given s.gave w.0 w.1) in
            inr (w.0, subst (λ (x : Result Built BuildFault). IsStatusAnswer dt h0 h1 x w.0) e w.1, w.2)
      ]

  -- ------ where nothing failed
  whole_answer : (b : Built) (a : Answer) → IsTrue dt → (Rises h0.disk_faults h1.disk_faults → ⊥) → (let r : Result Built BuildFault = Ok b in IsStatusAnswer dt h0 h1 r a)
      → Opens (label_of b.plan) (disk_now h0).bytes → a ≡ record { status = Done; text = status_text b.plan (records (label_of b.plan) (disk_now h0).bytes) }
  whole_answer b a t none (inl p) opens = absurd (none p.1)
  whole_answer b a t none (inr r) opens = r.whole t ∙ opened b.plan (disk_now h0).bytes opens

  shows : (a : Answer) (text : List ℕ) (status : Status) → IsTrue kt → (WriteFailed k0 k1 → ⊥) → a ≡ record { status = Done; text = text } → PrintsAnswer kt k0 k1 a status
      → (status ≡ NoMemory) ⊎ (status ≡ Done) × (k1.written ≡ k0.written ++ text)
  shows a text status k none is (inl w) = inr (w.0 ∙ ap (λ (x : Answer). x.status) is, w.1 k ∙ ap (λ (x : Answer). k0.written ++ x.text) is)
  shows a text status k none is (inr w) = absurd (none w.1)

  completes : FilesGiveOneAnswer → (status : Status) → IsStatusServed tells s0 s1 dt h0 h1 kt k0 k1 order status → IsTrue tells → IsTrue dt → IsTrue kt
      → (ReadFailed s0 s1 → ⊥) → (Rises h0.disk_faults h1.disk_faults → ⊥) → (WriteFailed k0 k1 → ⊥) → (b : Built)
      → (let r : Result Built BuildFault = Ok b in built s0.contents order r) → Opens (label_of b.plan) (disk_now h0).bytes
      → (status ≡ NoMemory) ⊎ (status ≡ Done) × (k1.written ≡ k0.written ++ status_text b.plan (records (label_of b.plan) (disk_now h0).bytes))
  completes one status s t d k none no_disk no_sink b is opens =
      let ok : Result Built BuildFault = Ok b in
      let some : ok ≡ Err fault.NoMemory → ⊥ = λ (e : ok ≡ Err fault.NoMemory). let never : ⊥ = cc in never in
      let text : List ℕ = status_text b.plan (records (label_of b.plan) (disk_now h0).bytes) in
      elim (told_answer one status s t none ok is some) as (λ x. (status ≡ NoMemory) ⊎ (status ≡ Done) × (k1.written ≡ k0.written ++ text)) [
        | inl w ↦ inl w.0
        | inr w ↦ shows w.0 text status k no_sink (whole_answer b w.0 d no_disk w.1 opens) w.2
      ]

  -- what the call promises follows from how it was served
  pub serves_status : FilesGiveOneAnswer → (status : Status) → OnlyReads h0 h1 → IsStatusServed tells s0 s1 dt h0 h1 kt k0 k1 order status
      → ServesStatus tells s0 s1 dt h0 h1 kt k0 k1 order status
  serves_status one status reads s = record {
    reads = reads;
    served = s;
    told = told_answer one status s;
    cause = look_cause status s;
    complete = completes one status s;
  }
