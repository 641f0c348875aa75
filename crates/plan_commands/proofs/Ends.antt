-- How a command ends, by what its files gave.
use Rattle.std.proofs.Common.{◌≡◌, ◌⊎◌, inl, inr, ℕ, Bool, IsTrue, List, ◌++◌, refl, sym, ◌∙◌, ap, subst}
use Rattle.std.specs.Prelude.{Option, Some, None, Result, Ok, Err}
use Rattle.flash_base.specs.Counts.{Rises}
use Rattle.flash_shelf.specs.History.{ShelfHistory, SinkHistory}
use Rattle.flash_shelf.specs.Outside.{CameFrom}
use Rattle.flash_shelf.specs.declared.shelf.ShelfFault.{ShelfFault}
use Rattle.flash_shelf.specs.declared.shelf.ShelfFault.TheVariants as why_not
use Rattle.plan_build.specs.Building.{built, built_by}
use Rattle.plan_build.specs.Fetched.{came, period}
use Rattle.plan_build.specs.Laws.{FilesGiveOneAnswer, IsOne}
use Rattle.plan_build.specs.Whole.{IfShelf, IsOutside}
use Rattle.plan_build.specs.declared.built.Built.{Built}
use Rattle.plan_build.specs.declared.fault.BuildFault.{BuildFault}
use Rattle.plan_build.specs.declared.fault.BuildFault.TheVariants as fault
use Rattle.plan_commands.specs.Answering.{answered, image_of, number_of, refused, shown_for}
use Rattle.plan_commands.specs.Serving.{unwritten, usage, HasCause, IsPlainStatus, IsPrinted, IsServed, IsStarved, PrintsAnswer, Serves, ServesWords}
use Rattle.plan_commands.specs.Words.{command_of, order_of}
use Rattle.plan_commands.specs.declared.answering.Answer.{Answer}
use Rattle.plan_commands.specs.declared.status.Status.{Status}
use Rattle.plan_commands.specs.declared.status.Status.TheVariants.{Done, Usage, Input, Units, Shelf, Journal, Disk, Sink, NoMemory}
use Rattle.plan_commands.specs.declared.words.Command.{Command}
use Rattle.plan_commands.specs.declared.words.Command.TheVariants.{Check, Image}

-- the four statuses of an answer, each with what leads to it
pub data Leads (r : Result Built BuildFault) (status : Status) : Type 0 where
  done : (b : Built) → r ≡ Ok b → status ≡ Done → Leads r status
  input : status ≡ Input → Leads r status
  shelf : (name : List ℕ) (why : ShelfFault) → r ≡ Err (fault.Shelf name why) → status ≡ Shelf → Leads r status
  memory : r ≡ Err fault.NoMemory → status ≡ NoMemory → Leads r status

image_leads : (order task : List ℕ) (b : Built) (n : Option ℕ) → let r : Result Built BuildFault = Ok b in Leads r (image_of order task b n).status
image_leads order task b None = input refl
image_leads order task b (Some n) = done b refl refl

pub leads : (c : Command) (r : Result Built BuildFault) → Leads r (answered c r).status
leads (Check order) (Ok b) = done b refl refl
leads (Image order task) (Ok b) = image_leads order task b (number_of task b.plan)
leads (Check order) (Err (fault.Shelf name why)) = shelf name why refl refl
leads (Image order task) (Err (fault.Shelf name why)) = shelf name why refl refl
leads (Check order) (Err (fault.Input name cause)) = input refl
leads (Image order task) (Err (fault.Input name cause)) = input refl
leads (Check order) (Err fault.NoMemory) = memory refl refl
leads (Image order task) (Err fault.NoMemory) = memory refl refl

-- a status that the writing does not change is the answer's
kept : (s x : Status) → unwritten s ≡ x → (x ≡ Sink → ⊥) → s ≡ x
kept Done x e not_so = absurd (not_so (sym e))
kept Usage x e not_so = e
kept Input x e not_so = e
kept Units x e not_so = e
kept Shelf x e not_so = e
kept Journal x e not_so = e
kept Disk x e not_so = e
kept Sink x e not_so = e
kept NoMemory x e not_so = e

never_done : (s : Status) → unwritten s ≡ Done → ⊥
never_done Done e = cc
never_done Usage e = cc
never_done Input e = cc
never_done Units e = cc
never_done Shelf e = cc
never_done Journal e = cc
never_done Disk e = cc
never_done Sink e = cc
never_done NoMemory e = cc

plain_of : (r : Result Built BuildFault) (s x : Status) → Leads r s → x ≡ s → IsPlainStatus x
plain_of r s x (done b is e) same = subst IsPlainStatus (sym (same ∙ e)) tt
plain_of r s x (input e) same = subst IsPlainStatus (sym (same ∙ e)) tt
plain_of r s x (shelf name why is e) same = subst IsPlainStatus (sym (same ∙ e)) tt
plain_of r s x (memory is e) same = subst IsPlainStatus (sym (same ∙ e)) tt

plain_unwritten : (r : Result Built BuildFault) (s x : Status) → Leads r s → x ≡ unwritten s → IsPlainStatus x
plain_unwritten r s x (done b is e) same = subst IsPlainStatus (sym (same ∙ ap unwritten e)) tt
plain_unwritten r s x (input e) same = subst IsPlainStatus (sym (same ∙ ap unwritten e)) tt
plain_unwritten r s x (shelf name why is e) same = subst IsPlainStatus (sym (same ∙ ap unwritten e)) tt
plain_unwritten r s x (memory is e) same = subst IsPlainStatus (sym (same ∙ ap unwritten e)) tt

not_usage : (r : Result Built BuildFault) (s : Status) → Leads r s → s ≡ Usage → ⊥
not_usage r s (done b is e) u = cc
not_usage r s (input e) u = cc
not_usage r s (shelf name why is e) u = cc
not_usage r s (memory is e) u = cc

not_sink : (r : Result Built BuildFault) (s : Status) → Leads r s → s ≡ Sink → ⊥
not_sink r s (done b is e) u = cc
not_sink r s (input e) u = cc
not_sink r s (shelf name why is e) u = cc
not_sink r s (memory is e) u = cc

-- a fault of the shelf is not NoMemory
pub outside_of : (P : List ℕ → ShelfFault → Type 0) (name : List ℕ) (why : ShelfFault) → IsOutside P name why → (¬ (why ≡ why_not.NoMemory)) × P name why
outside_of P name why_not.Missing h = (λ e. cc, h)
outside_of P name why_not.TooLarge h = (λ e. cc, h)
outside_of P name why_not.Failed h = (λ e. cc, h)
outside_of P name why_not.NoMemory h = absurd h

pub printed_by : (kt : Bool) (before after : List ℕ) (ko kn : ℕ) (a b : Answer) (status : Status) → a ≡ b → IsPrinted kt before after ko kn a status → IsPrinted kt before after ko kn b status
printed_by kt before after ko kn a b status e p = subst (λ (x : Answer). IsPrinted kt before after ko kn x status) e p

-- from what the shelf gave for the command's order file, and what was printed
pub served_by : (tells : Bool) (files : List (List ℕ × List ℕ)) (old new : ℕ) (kt : Bool) (before after : List ℕ) (ko kn : ℕ) (c : Command) (status : Status)
    (name : List ℕ) (gave : Result Built BuildFault) → name ≡ order_of c
    → (gave ≡ Err fault.NoMemory) ⊎ built_by (came (period tells files old new)) name gave
    → (IsTrue tells → (gave ≡ Err fault.NoMemory) ⊎ Rises old new ⊎ built files name gave)
    → IfShelf gave (λ n why. CameFrom tells files n old new (Err why))
    → IsStarved before after status ⊎ (gave ≡ Err fault.NoMemory → ⊥) × IsPrinted kt before after ko kn (answered c gave) status
    → IsServed tells files old new kt before after ko kn c status
served_by tells files old new kt before after ko kn c status name gave e read told outside printed = record {
  gave = gave;
  read = subst (λ (x : List ℕ). (gave ≡ Err fault.NoMemory) ⊎ built_by (came (period tells files old new)) x gave) e read;
  told = λ t. subst (λ (x : List ℕ). (gave ≡ Err fault.NoMemory) ⊎ Rises old new ⊎ built files x gave) e (told t);
  outside = outside;
  printed = printed;
}

-- there was no memory for the words
pub starved : (tells : Bool) (files : List (List ℕ × List ℕ)) (old new : ℕ) (kt : Bool) (before : List ℕ) (ko kn : ℕ) (c : Command) → IsServed tells files old new kt before before ko kn c NoMemory
starved tells files old new kt before ko kn c = record { gave = Err fault.NoMemory; read = inl refl; told = λ t. inl refl; outside = tt; printed = inl (refl, refl) }

-- the command that the words are is the one that was served
pub served_for : (tells : Bool) (files : List (List ℕ × List ℕ)) (old new : ℕ) (kt : Bool) (before after : List ℕ) (ko kn : ℕ) (status : Status) (x c : Command) (w : Option Command)
    → Some x ≡ w → w ≡ Some c → IsServed tells files old new kt before after ko kn x status → IsServed tells files old new kt before after ko kn c status
served_for tells files old new kt before after ko kn status x c w e f s =
    let same : x ≡ c = cc in
    subst (λ (y : Command). IsServed tells files old new kt before after ko kn y status) same s

module _ (tells : Bool) (files : List (List ℕ × List ℕ)) (old new : ℕ) (kt : Bool) (before after : List ℕ) (ko kn : ℕ) (c : Command) (status : Status)
    (s : IsServed tells files old new kt before after ko kn c status) where
  -- what was printed, where the status is not NoMemory
  printed : (status ≡ NoMemory → ⊥) → (s.gave ≡ Err fault.NoMemory → ⊥) × IsPrinted kt before after ko kn (answered c s.gave) status
  printed not_so = elim s.printed as (λ x. (s.gave ≡ Err fault.NoMemory → ⊥) × IsPrinted kt before after ko kn (answered c s.gave) status) [ inl w ↦ absurd (not_so w.0) | inr w ↦ w ]

  by : (s.gave ≡ Err fault.NoMemory → ⊥) → built_by (came (period tells files old new)) (order_of c) s.gave
  by not_so = elim s.read as (λ x. built_by (came (period tells files old new)) (order_of c) s.gave) [ inl e ↦ absurd (not_so e) | inr w ↦ w ]

  -- the answer's status, where it is not the sink's nor `Done`
  same_status : (x : Status) → status ≡ x → (x ≡ Sink → ⊥) → IsPrinted kt before after ko kn (answered c s.gave) status → (answered c s.gave).status ≡ x
  same_status x is not_so (inl w) = sym w.0 ∙ is
  same_status x is not_so (inr w) = kept (answered c s.gave).status x (sym w.0 ∙ is) not_so

  pub input_cause : status ≡ Input → (r : Result Built BuildFault) × built_by (came (period tells files old new)) (order_of c) r
      × ((answered c r).status ≡ Input) × IsPrinted kt before after ko kn (answered c r) status
  input_cause is =
      let p = printed (λ (e : status ≡ NoMemory). let never : ⊥ = cc in never) in
      let x : (answered c s.gave).status ≡ Input = same_status Input is (λ (e : Input ≡ Sink). let never : ⊥ = cc in never) p.1 in
      (s.gave, by p.0, x, p.1)

  shelf_of : (r : Result Built BuildFault) → Leads r (answered c r).status → (answered c r).status ≡ Shelf → (name : List ℕ) × (why : ShelfFault) × (r ≡ Err (fault.Shelf name why))
  shelf_of r (done b is e) x = absurd cc
  shelf_of r (input e) x = absurd cc
  shelf_of r (shelf name why is e) x = (name, why, is)
  shelf_of r (memory is e) x = absurd cc

  pub shelf_cause : status ≡ Shelf → (name : List ℕ) × (why : ShelfFault) × (¬ (why ≡ why_not.NoMemory)) × CameFrom tells files name old new (Err why)
      × IsPrinted kt before after ko kn (refused (fault.Shelf name why)) status
  shelf_cause is =
      let p = printed (λ (e : status ≡ NoMemory). let never : ⊥ = cc in never) in
      let x : (answered c s.gave).status ≡ Shelf = same_status Shelf is (λ (e : Shelf ≡ Sink). let never : ⊥ = cc in never) p.1 in
      let f = shelf_of s.gave (leads c s.gave) x in
      let came_so = subst (λ (r : Result Built BuildFault). IfShelf r (λ name why. CameFrom tells files name old new (Err why))) f.2 s.outside in
      let said = subst (λ (r : Result Built BuildFault). IsPrinted kt before after ko kn (answered c r) status) f.2 p.1 in
      let o = outside_of (λ (name : List ℕ) (why : ShelfFault). CameFrom tells files name old new (Err why)) f.0 f.1 came_so in
      (f.0, f.1, o.0, o.1, said)

  pub sink_cause : status ≡ Sink → Rises ko kn
  sink_cause is =
      let p = printed (λ (e : status ≡ NoMemory). let never : ⊥ = cc in never) in
      elim p.1 as (λ x. Rises ko kn) [ inl w ↦ absurd (not_sink s.gave (answered c s.gave).status (leads c s.gave) (sym w.0 ∙ is)) | inr w ↦ w.1 ]

  built_of : (r : Result Built BuildFault) → Leads r (answered c r).status → (answered c r).status ≡ Done → (b : Built) × (r ≡ Ok b)
  built_of r (done b is e) x = (b, is)
  built_of r (input e) x = absurd cc
  built_of r (shelf name why is e) x = absurd cc
  built_of r (memory is e) x = absurd cc

  written : status ≡ Done → IsPrinted kt before after ko kn (answered c s.gave) status → ((answered c s.gave).status ≡ Done) × (IsTrue kt → after ≡ before ++ (answered c s.gave).text)
  written is (inl w) = (sym w.0 ∙ is, w.1)
  written is (inr w) = absurd (never_done (answered c s.gave).status (sym w.0 ∙ is))

  pub done_cause : status ≡ Done → (b : Built) × built_by (came (period tells files old new)) (order_of c) (Ok b)
      × ((shown_for c b).status ≡ Done) × (IsTrue kt → after ≡ before ++ (shown_for c b).text)
  done_cause is =
      let p = printed (λ (e : status ≡ NoMemory). let never : ⊥ = cc in never) in
      let w = written is p.1 in
      let f = built_of s.gave (leads c s.gave) w.0 in
      let x = subst (λ (r : Result Built BuildFault). built_by (came (period tells files old new)) (order_of c) r) f.1 (by p.0) in
      let y = subst (λ (r : Result Built BuildFault). ((answered c r).status ≡ Done) × (IsTrue kt → after ≡ before ++ (answered c r).text)) f.1 w in
      (f.0, x, y.0, y.1)

  same : IsTrue tells → (Rises old new → ⊥) → (r : Result Built BuildFault) → built files (order_of c) r → (r ≡ Err fault.NoMemory → ⊥)
      → ((a b : Result Built BuildFault) → built files (order_of c) a → built files (order_of c) b → IsOne a b) → (s.gave ≡ Err fault.NoMemory → ⊥) → s.gave ≡ r
  same t none r is some law gave =
      elim (s.told t) as (λ x. s.gave ≡ r) [
        | inl e ↦ absurd (gave e)
        | inr w ↦ elim w as (λ x. s.gave ≡ r) [
          | inl e ↦ absurd (none e)
          | inr so ↦ elim (law s.gave r so is) as (λ x. s.gave ≡ r) [ inl e ↦ absurd (gave e) | inr v ↦ elim v as (λ x. s.gave ≡ r) [ inl e ↦ absurd (some e) | inr e ↦ e ] ]
        ]
      ]

  pub told_answer : IsTrue tells → (Rises old new → ⊥) → (r : Result Built BuildFault) → built files (order_of c) r → (r ≡ Err fault.NoMemory → ⊥)
      → ((a b : Result Built BuildFault) → built files (order_of c) a → built files (order_of c) b → IsOne a b)
      → IsStarved before after status ⊎ IsPrinted kt before after ko kn (answered c r) status
  told_answer t none r is some law =
      elim s.printed as (λ x. IsStarved before after status ⊎ IsPrinted kt before after ko kn (answered c r) status) [
        | inl w ↦ inl w
        | inr w ↦ inr (subst (λ (x : Result Built BuildFault). IsPrinted kt before after ko kn (answered c x) status) (same t none r is some law w.0) w.1)
      ]

  shows : (b : Built) → IsTrue kt → (Rises ko kn → ⊥) → (shown_for c b).status ≡ Done → IsPrinted kt before after ko kn (shown_for c b) status
      → (status ≡ NoMemory) ⊎ (status ≡ Done) × (after ≡ before ++ (shown_for c b).text)
  shows b k none is (inl w) = inr (w.0 ∙ is, w.1 k)
  shows b k none is (inr w) = absurd (none w.1)

  pub completes : IsTrue tells → IsTrue kt → (Rises old new → ⊥) → (Rises ko kn → ⊥) → (b : Built) → (let r : Result Built BuildFault = Ok b in built files (order_of c) r) → (shown_for c b).status ≡ Done
      → ((a b : Result Built BuildFault) → built files (order_of c) a → built files (order_of c) b → IsOne a b)
      → (status ≡ NoMemory) ⊎ (status ≡ Done) × (after ≡ before ++ (shown_for c b).text)
  completes t k none no_sink b is there law =
      let ok : Result Built BuildFault = Ok b in
      let some : ok ≡ Err fault.NoMemory → ⊥ = λ (e : ok ≡ Err fault.NoMemory). let never : ⊥ = cc in never in
      elim (told_answer t none ok is some law) as (λ x. (status ≡ NoMemory) ⊎ (status ≡ Done) × (after ≡ before ++ (shown_for c b).text)) [
        | inl w ↦ inl w.0
        | inr w ↦ shows b k no_sink there w
      ]

  pub is_plain : IsPlainStatus status
  is_plain =
      elim s.printed as (λ x. IsPlainStatus status) [
        | inl w ↦ subst IsPlainStatus (sym w.0) tt
        | inr w ↦ elim (w.1) as (λ x. IsPlainStatus status) [
          | inl v ↦ plain_of s.gave (answered c s.gave).status status (leads c s.gave) v.0
          | inr v ↦ plain_unwritten s.gave (answered c s.gave).status status (leads c s.gave) v.0
        ]
      ]

  pub is_served : status ≡ Usage → ⊥
  is_served is =
      let p = printed (λ (e : status ≡ NoMemory). let never : ⊥ = cc in never) in
      let x : (answered c s.gave).status ≡ Usage = same_status Usage is (λ (e : Usage ≡ Sink). let never : ⊥ = cc in never) p.1 in
      not_usage s.gave (answered c s.gave).status (leads c s.gave) x

-- ------ the three ends of a call that serves words by `check` and `image`
module _ (tells : Bool) (s0 s1 : ShelfHistory) (kt : Bool) (k0 k1 : SinkHistory) (words : List (List ℕ)) where
  -- a command was served
  module _ (x : Command) (are : Some x ≡ command_of words) where
    causes : (status : Status) → Serves tells s0 s1 kt k0 k1 x status → HasCause tells s0 s1 kt k0 k1 (command_of words) status
    causes Done s = λ c e. done_cause tells s0.contents s0.faults s1.faults kt k0.written k1.written k0.faults k1.faults c Done
        (served_for tells s0.contents s0.faults s1.faults kt k0.written k1.written k0.faults k1.faults Done x c (command_of words) are e s) refl
    causes Usage s = absurd (is_served tells s0.contents s0.faults s1.faults kt k0.written k1.written k0.faults k1.faults x Usage s refl)
    causes Input s = λ c e. input_cause tells s0.contents s0.faults s1.faults kt k0.written k1.written k0.faults k1.faults c Input
        (served_for tells s0.contents s0.faults s1.faults kt k0.written k1.written k0.faults k1.faults Input x c (command_of words) are e s) refl
    causes Units s = is_plain tells s0.contents s0.faults s1.faults kt k0.written k1.written k0.faults k1.faults x Units s
    causes Shelf s = λ c e. shelf_cause tells s0.contents s0.faults s1.faults kt k0.written k1.written k0.faults k1.faults c Shelf
        (served_for tells s0.contents s0.faults s1.faults kt k0.written k1.written k0.faults k1.faults Shelf x c (command_of words) are e s) refl
    causes Journal s = is_plain tells s0.contents s0.faults s1.faults kt k0.written k1.written k0.faults k1.faults x Journal s
    causes Disk s = is_plain tells s0.contents s0.faults s1.faults kt k0.written k1.written k0.faults k1.faults x Disk s
    causes Sink s = sink_cause tells s0.contents s0.faults s1.faults kt k0.written k1.written k0.faults k1.faults x Sink s refl
    causes NoMemory s = tt

    never_none : command_of words ≡ None → ⊥
    never_none none = cc

    pub serves_command : FilesGiveOneAnswer → (status : Status) → Serves tells s0 s1 kt k0 k1 x status → ServesWords tells s0 s1 kt k0 k1 words status
    serves_command one status s =
        let of : (c : Command) → command_of words ≡ Some c → Serves tells s0 s1 kt k0 k1 c status = λ c e.
        served_for tells s0.contents s0.faults s1.faults kt k0.written k1.written k0.faults k1.faults status x c (command_of words) are e s in
        record {
          not_in_form = λ none. absurd (never_none none);
          served = of;
          told = λ t none c r e is some.
              told_answer tells s0.contents s0.faults s1.faults kt k0.written k1.written k0.faults k1.faults c status (of c e) t none r is some
              (one s0.contents s0.contents (λ n. refl) (order_of c));
          cause = causes status s;
          complete = λ t k none no_sink c b e is there.
              completes tells s0.contents s0.faults s1.faults kt k0.written k1.written k0.faults k1.faults c status (of c e) t k none no_sink b is there
              (one s0.contents s0.contents (λ n. refl) (order_of c));
        }

  -- the words are no such command
  serves_none : command_of words ≡ None → PrintsAnswer kt k0 k1 usage Usage → ServesWords tells s0 s1 kt k0 k1 words Usage
  serves_none none printed =
      let never : (c : Command) → command_of words ≡ Some c → ⊥ = λ c e. cc in
      record {
        not_in_form = λ e. (refl, printed);
        served = λ c e. absurd (never c e);
        told = λ t calm c r e is some. absurd (never c e);
        cause = none;
        complete = λ t k calm no_sink c b e is there. absurd (never c e);
      }

  pub serves_usage : (status : Status) → status ≡ Usage → command_of words ≡ None → PrintsAnswer kt k0 k1 usage status → ServesWords tells s0 s1 kt k0 k1 words status
  serves_usage status is none printed =
      subst (λ (x : Status). ServesWords tells s0 s1 kt k0 k1 words x) (sym is) (serves_none none (subst (λ (x : Status). PrintsAnswer kt k0 k1 usage x) is printed))

-- there was no memory for the words
pub serves_nothing : (tells : Bool) (s : ShelfHistory) (kt : Bool) (k : SinkHistory) (words : List (List ℕ)) → (command_of words ≡ None → ⊥) → ServesWords tells s s kt k k words NoMemory
serves_nothing tells s kt k words some = record {
  not_in_form = λ none. absurd (some none);
  served = λ c e. starved tells s.contents s.faults s.faults kt k.written k.faults k.faults c;
  told = λ t calm c r e is some_r. inl (refl, refl);
  cause = tt;
  complete = λ t k calm no_sink c b e is there. inl refl;
}
