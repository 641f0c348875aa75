-- What a look at a file answers.
use Rattle.std.specs.Prelude.{◌≡◌, ◌⊎◌, ℕ, Bool, IsTrue, true, List, Result, Ok, Err}
use Rattle.flash_base.specs.Counts.{Rises}
use Rattle.flash_plan.specs.declared.outcome.Entry.{Entry}
use Rattle.shop_model.specs.History.{History}
use Rattle.journal_model.specs.Records.{Label, records, stands_at}
use Rattle.journal_steps.specs.Read.{is_among, limit_of, AreOnce, IsFront}
use Rattle.journal_steps.specs.Tested.{tested, NotMade, NoJournal, OfOtherPlan, OfThisPlan}
use Rattle.flash_journal.specs.declared.looking.OpenFault.{OpenFault}
use Rattle.flash_journal.specs.declared.looking.OpenFault.TheVariants.{NotJournal, OtherPlan, DiskFault, NoMemory}

-- the tests find a file that is not made yet, or a journal of this plan
abbrev pub Opens : Label → List ℕ → Type 0
Opens P bytes = (tested P bytes ≡ NotMade) ⊎ (tested P bytes ≡ OfThisPlan)

-- a refusal tells what the tests find
abbrev pub Refuses : Label → List ℕ → OpenFault → Type 0
Refuses P bytes NotJournal = tested P bytes ≡ NoJournal
Refuses P bytes (OtherPlan said) = (tested P bytes ≡ OfOtherPlan) × (stands_at bytes 16 32 said ≡ true)
Refuses P bytes DiskFault = Unit {0}
Refuses P bytes NoMemory = Unit {0}

-- the entries are those that the bytes record, each once
pub record Lists (P : Label) (bytes : List ℕ) (es : List Entry) : Type 0 where
  pub opens : Opens P bytes
  pub entries : (e : Entry) → is_among es e ≡ records P bytes e
  pub once : AreOnce es

abbrev pub IsLookAnswer : Label → List ℕ → Result (List Entry) OpenFault → Type 0
IsLookAnswer P bytes (Ok es) = Lists P bytes es
IsLookAnswer P bytes (Err fault) = Refuses P bytes fault

-- the bytes that were read decide on the answer: where the disk is told, they are the first of the image
pub record IsAnswerOfRead (tells : Bool) (P : Label) (image : List ℕ)
    (r : Result (List Entry) OpenFault) : Type 0 where
  pub bytes : List ℕ
  pub front : IsTrue tells → IsFront (limit_of P) image bytes
  pub answer : IsLookAnswer P bytes r

-- nothing could be read, or bytes were read that decide on the answer
abbrev pub CameOfRead : Bool → Label → List ℕ → Result (List Entry) OpenFault → Type 0
CameOfRead tells P image r = (r ≡ Err DiskFault) ⊎ (r ≡ Err NoMemory) ⊎ IsAnswerOfRead tells P image r

-- the other plan's digest is another
abbrev pub SaysOther : List ℕ → OpenFault → Type 0
SaysOther digest NotJournal = Unit {0}
SaysOther digest (OtherPlan said) = ¬ (said ≡ digest)
SaysOther digest DiskFault = Unit {0}
SaysOther digest NoMemory = Unit {0}

-- a disk fault is answered only where the count of them rose
abbrev pub HasCause : History → History → OpenFault → Type 0
HasCause old new NotJournal = Unit {0}
HasCause old new (OtherPlan said) = Unit {0}
HasCause old new DiskFault = Rises old.disk_faults new.disk_faults
HasCause old new NoMemory = Unit {0}

-- only the disk or memory was wanting
abbrev pub IsWant : OpenFault → Type 0
IsWant NotJournal = ⊥
IsWant (OtherPlan said) = ⊥
IsWant DiskFault = Unit {0}
IsWant NoMemory = Unit {0}
