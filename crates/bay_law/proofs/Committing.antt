-- What a group of records keeps of a run over a shop, and what one that failed keeps.
use Rattle.std.proofs.Common.{◌≡◌, ℕ, ◌+◌, true, false, List, [], ◌∷◌, ◌++◌, refl, sym, ◌∙◌, ap, subst, arith}
use Rattle.std.specs.Prelude.{Bool, IsTrue, not, map, ◌||◌, MatchBool}
use Rattle.std.proofs.lemmas.Bool.{false≢true}
use Rattle.barrier_board.specs.Board.{has_entry as is_found}
use Rattle.bay_core.specs.Core.{Core, core_start, core_after, core_of}
use Rattle.bay_core.specs.Moves.{MovesVehicle}
use Rattle.bay_core.specs.declared.event.Event.{Event}
use Rattle.disk_model.specs.Disk.{DiskState, IsCrashImage}
use Rattle.flash_base.specs.Counts.{Rises}
use Rattle.flash_base.specs.Lists.{Each}
use Rattle.flash_plan.specs.declared.outcome.Entry.{Entry}
use Rattle.flash_plan.specs.declared.outcome.Entry.TheVariants.{Begun, Marked, Complete}
use Rattle.flash_plan.specs.declared.unit.LinkRules.{LinkRules}
use Rattle.flash_plan.specs.declared.unit.UnitPlan.{UnitPlan}
use Rattle.flash_plan.specs.Outcomes.{same_entry}
use Rattle.flash_run.specs.Run.{RunState, IsKept, core_of_run}
use Rattle.journal_steps.proofs.Laters.{later_then}
use Rattle.journal_steps.specs.Append.{AddsSomeOf, with_entries}
use Rattle.journal_steps.specs.Later.{IsDiskLater, HoldsOnDisk}
use Rattle.journal_steps.specs.Read.{is_among}
use Rattle.outcome_law.specs.LinkCounting.{is_fault, fault_of}
use Rattle.run_model.specs.Link.{Link, is_live as lives}
use Rattle.shop_model.specs.History.{History, disk_now, vehicle_now}
use Rattle.unit_model.specs.Vehicle.{Vehicle}
use Rattle.bay_law.specs.Bay.{JournalState, IsReadOn, HasMore, IsClosed, IsBay, IsJournalOf, IsSmallEvent}
use Rattle.bay_law.specs.Driven.{IsDriven, IsTold, Strays}
use Rattle.flash_run.specs.Group.{recorded_as, failed_as}
use Rattle.bay_law.specs.Sentence.{KeepsSound}
use Rattle.bay_law.proofs.Driving.{driven_more}
use Rattle.bay_law.proofs.Groups.{MayAll, entry_sym}
use Rattle.bay_law.proofs.Keeping.{sentence_group, journal_more, journal_failed}
use Rattle.bay_law.proofs.Parts.{shown_before}
use Rattle.bay_law.proofs.Steps.{told_joint_last}
use Rattle.bay_law.proofs.Units.{sound_units, strays_units}

-- more events, whatever room is left
abbrev pub with_all : List Event → RunState → RunState
with_all es r = record r { events = r.events ++ es }

pub core_append : (rules : LinkRules) (P : List UnitPlan) (c : Core) (xs ys : List Event) → core_of rules P c (xs ++ ys) ≡ core_of rules P (core_of rules P c xs) ys
core_append rules P c [] ys = refl
core_append rules P c (x ∷ xs) ys = core_append rules P (core_after rules P x c) xs ys

each_append : (xs ys : List Event) → Each IsSmallEvent xs → Each IsSmallEvent ys → Each IsSmallEvent (xs ++ ys)
each_append [] ys a b = b
each_append (x ∷ xs) ys a b = (a.0, each_append xs ys a.1 b)

-- ------ events that make no call of the link
pub record IsStill (rules : LinkRules) (P : List UnitPlan) (e : Event) : Type 0 where
  pub vehicle : (c : Core) (v : Vehicle) → MovesVehicle rules P c e v v
  pub sound : (v : Vehicle) → is_fault e v v ≡ false
  pub small : IsSmallEvent e
  pub link : (c : Core) → (core_after rules P e c).link ≡ c.link

still_recorded : (rules : LinkRules) (P : List UnitPlan) (e : Entry) → IsStill rules P (recorded_as e)
still_recorded rules P (Begun u) = record { vehicle = λ c v. refl; sound = λ v. refl; small = tt; link = λ c. refl }
still_recorded rules P (Marked u s) = record { vehicle = λ c v. refl; sound = λ v. refl; small = tt; link = λ c. refl }
still_recorded rules P (Complete u) = record { vehicle = λ c v. refl; sound = λ v. refl; small = tt; link = λ c. refl }

still_failed : (rules : LinkRules) (P : List UnitPlan) (e : Entry) → IsStill rules P (failed_as e)
still_failed rules P e = record { vehicle = λ c v. refl; sound = λ v. refl; small = tt; link = λ c. refl }

abbrev AllStill : LinkRules → List UnitPlan → List Event → Type 0
AllStill rules P es = Each (IsStill rules P) es

all_recorded : (rules : LinkRules) (P : List UnitPlan) (es : List Entry) → AllStill rules P (map recorded_as es)
all_recorded rules P [] = tt
all_recorded rules P (e ∷ es) = (still_recorded rules P e, all_recorded rules P es)

all_failed : (rules : LinkRules) (P : List UnitPlan) (es : List Entry) → AllStill rules P (map failed_as es)
all_failed rules P [] = tt
all_failed rules P (e ∷ es) = (still_failed rules P e, all_failed rules P es)

all_small : (rules : LinkRules) (P : List UnitPlan) (es : List Event) → AllStill rules P es → Each IsSmallEvent es
all_small rules P [] all = tt
all_small rules P (e ∷ es) all = (all.0.small, all_small rules P es all.1)

all_link : (rules : LinkRules) (P : List UnitPlan) (es : List Event) (c : Core) → AllStill rules P es → (core_of rules P c es).link ≡ c.link
all_link rules P [] c all = refl
all_link rules P (e ∷ es) c all = all_link rules P es (core_after rules P e c) all.1 ∙ all.0.link c

driven_all : (rules : LinkRules) (P : List UnitPlan) (found : Entry → Bool) (events es : List Event) (first last : Vehicle) (faults : ℕ) → AllStill rules P es → IsDriven rules P found events first last faults → IsDriven rules P found (events ++ es) first last faults
driven_all rules P found events [] first last faults all d = subst (λ (xs : List Event). IsDriven rules P found xs first last faults) (sym (append-nil events)) d
  where
    append-nil : (xs : List Event) → xs ++ [] ≡ xs
    append-nil [] = refl
    append-nil (x ∷ xs) = ap (λ (l : List Event). x ∷ l) (append-nil xs)
driven_all rules P found events (e ∷ es) first last faults all d =
    let none : fault_of (is_fault e last last) ≡ 0 = ap fault_of (all.0.sound last) in
    let same : faults + fault_of (is_fault e last last) ≡ faults = omega (arith, none) in
    let one : IsDriven rules P found (events ++ e ∷ []) first last faults =
    subst (λ (k : ℕ). IsDriven rules P found (events ++ e ∷ []) first last k) same (driven_more rules P found events first last faults e last d (all.0.vehicle (core_of rules P (core_start P found) events) last)) in
    subst (λ (xs : List Event). IsDriven rules P found xs first last faults) (moved events e es) (driven_all rules P found (events ++ e ∷ []) es first last faults all.1 one)
  where
    moved : (xs : List Event) (y : Event) (ys : List Event) → (xs ++ y ∷ []) ++ ys ≡ xs ++ y ∷ ys
    moved [] y ys = refl
    moved (x ∷ xs) y ys = ap (λ (l : List Event). x ∷ l) (moved xs y ys)

told_all : (r : RunState) (es : List Event) (first old new : History) → AllStill r.rules r.plan es → vehicle_now new ≡ vehicle_now old → new.link_faults ≡ old.link_faults → IsTold r first old → IsTold (with_all es r) first new
told_all r es first old new all same faults t = record {
  last = t.last;
  faults = t.faults;
  driven = driven_all r.rules r.plan (is_found r.found) r.events es (vehicle_now first) t.last t.faults all t.driven;
  rose = omega (arith, t.rose, faults);
  stands = subst (λ (v : Vehicle). MatchBool r.starved (Strays t.last v) (v ≡ t.last)) (sym same) t.stands;
}

-- ------ records
or_moved : (a b c : Bool) → (b || (a || c)) ≡ ((a || b) || c)
or_moved true true c = refl
or_moved true false c = refl
or_moved false b c = refl

recorded_one : (rules : LinkRules) (P : List UnitPlan) (e : Entry) (c : Core) (x : Entry) → (core_after rules P (recorded_as e) c).recorded x ≡ (same_entry e x || c.recorded x)
recorded_one rules P (Begun u) c x = ap (λ (b : Bool). b || c.recorded x) (entry_sym x (Begun u))
recorded_one rules P (Marked u s) c x = ap (λ (b : Bool). b || c.recorded x) (entry_sym x (Marked u s))
recorded_one rules P (Complete u) c x = ap (λ (b : Bool). b || c.recorded x) (entry_sym x (Complete u))

recorded_all : (rules : LinkRules) (P : List UnitPlan) (es : List Entry) (c : Core) (x : Entry) → (core_of rules P c (map recorded_as es)).recorded x ≡ with_entries es c.recorded x
recorded_all rules P [] c x = refl
recorded_all rules P (e ∷ es) c x =
    recorded_all rules P es (core_after rules P (recorded_as e) c) x ∙ ap (λ (b : Bool). is_among es x || b) (recorded_one rules P e c x) ∙ or_moved (same_entry e x) (is_among es x) (c.recorded x)

recorded_failed : (rules : LinkRules) (P : List UnitPlan) (e : Entry) (c : Core) → (core_after rules P (recorded_as e) c).halt.failed ≡ c.halt.failed
recorded_failed rules P (Begun u) c = refl
recorded_failed rules P (Marked u s) c = refl
recorded_failed rules P (Complete u) c = refl

failed_all : (rules : LinkRules) (P : List UnitPlan) (es : List Entry) (c : Core) → (core_of rules P c (map recorded_as es)).halt.failed ≡ c.halt.failed
failed_all rules P [] c = refl
failed_all rules P (e ∷ es) c = failed_all rules P es (core_after rules P (recorded_as e) c) ∙ recorded_failed rules P e c

live_sound : (b : Bool) → not b ≡ true → b ≡ false
live_sound true e = sym e
live_sound false e = refl

-- ------ a group
module _ (td tv : Bool) (r : RunState) (group : List Entry) (first old new : History) (j j2 : JournalState) (K K2 : DiskState → Type 0) (kept : IsKept r) (may : MayAll r.plan (core_of_run r) group) (live : j.live ≡ true)
    (readable : IsCrashImage (disk_now old) (disk_now old).bytes) (through : IsTrue td → HoldsOnDisk old new (AddsSomeOf j.label j.has group)) (later : IsDiskLater old new) (reads : (x : DiskState) → K x → IsReadOn j x) (is : IsBay td tv r first old j K) where
  sentence : IsTrue td → IsTrue tv → KeepsSound r.plan first new
  sentence d t =
      sentence_group r.rules r.plan (is_found r.found) (core_of_run r) group first old new j kept.accepted may is.journal.label is.journal.entries (reads (disk_now old) (is.journal.kept d live)) readable (through d)
      (λ shown. let told = is.told t shown in (told.last, sym (strays_units r first old told), told_joint_last r first old kept told)) (λ R v w v0 same sound. sound_units r.plan R v w v0 same sound) (is.sentence d t)

  -- some of it was recorded, from the first on
  pub group_keeps : (es : List Entry) → HasMore j j2 es → (IsTrue td → K2 (disk_now new)) → ((x : DiskState) → K2 x → IsReadOn j2 x) → IsBay td tv (with_all (map recorded_as es) r) first new j2 K2
  group_keeps es has kept_on reads2 =
      let c : Core = core_of_run r in
      let more : core_of_run (with_all (map recorded_as es) r) ≡ core_of r.rules r.plan c (map recorded_as es) = core_append r.rules r.plan (core_start r.plan (is_found r.found)) r.events (map recorded_as es) in
      let all : AllStill r.rules r.plan (map recorded_as es) = all_recorded r.rules r.plan es in
      let same : (core_of r.rules r.plan c (map recorded_as es)).link ≡ c.link = all_link r.rules r.plan (map recorded_as es) c all in
      let fails : (core_of r.rules r.plan c (map recorded_as es)).halt.failed ≡ c.halt.failed = failed_all r.rules r.plan es c in
      let none : c.halt.failed ≡ false = live_sound c.halt.failed (sym is.journal.live ∙ live) in
      record {
        is_later = later_then first old new is.is_later later.is_later;
        linked = λ l. later.linked ∙ is.linked (ap (λ (k : Link). lives k.phase) (sym (ap (λ (x : Core). x.link) more ∙ same)) ∙ l);
        failed = λ f. absurd (false≢true (sym none ∙ sym (ap (λ (x : Core). x.halt.failed) more ∙ fails) ∙ f));
        small = each_append r.events (map recorded_as es) is.small (all_small r.rules r.plan (map recorded_as es) all);
        ordered = is.ordered;
        journal = subst (λ (x : Core). IsJournalOf td r.plan x j2 K2 (disk_now new)) (sym more)
            (journal_more td r.plan c (core_of r.rules r.plan c (map recorded_as es)) j j2 K K2 (disk_now old) (disk_now new) es (recorded_all r.rules r.plan es c) (fails ∙ none) has kept_on reads2 is.journal);
        told = λ t shown. told_all r (map recorded_as es) first old new all later.vehicle later.link_faults (is.told t (shown_before first.moment new.moment old new later.is_later later.is_later.later shown));
        sentence = sentence;
      }

-- its append failed
module _ (td tv : Bool) (r : RunState) (e : Entry) (es : List Entry) (first old new : History) (j j2 : JournalState) (K K2 : DiskState → Type 0) (kept : IsKept r) (may : MayAll r.plan (core_of_run r) (e ∷ es)) (live : j.live ≡ true)
    (readable : IsCrashImage (disk_now old) (disk_now old).bytes) (through : IsTrue td → HoldsOnDisk old new (AddsSomeOf j.label j.has (e ∷ es))) (later : IsDiskLater old new) (reads : (x : DiskState) → K x → IsReadOn j x) (is : IsBay td tv r first old j K) where
  pub group_fails : IsClosed j j2 → Rises old.disk_faults new.disk_faults → IsBay td tv (with_all (map failed_as (e ∷ es)) r) first new j2 K2
  group_fails closed fault =
      let c : Core = core_of_run r in
      let events : List Event = map failed_as (e ∷ es) in
      let more : core_of_run (with_all events r) ≡ core_of r.rules r.plan c events = core_append r.rules r.plan (core_start r.plan (is_found r.found)) r.events events in
      let all : AllStill r.rules r.plan events = all_failed r.rules r.plan (e ∷ es) in
      let same : (core_of r.rules r.plan c events).link ≡ c.link = all_link r.rules r.plan events c all in
      record {
        is_later = later_then first old new is.is_later later.is_later;
        linked = λ l. later.linked ∙ is.linked (ap (λ (k : Link). lives k.phase) (sym (ap (λ (x : Core). x.link) more ∙ same)) ∙ l);
        failed = λ f. omega (arith, fault, is.is_later.disk_faults);
        small = each_append r.events events is.small (all_small r.rules r.plan events all);
        ordered = is.ordered;
        journal = subst (λ (x : Core). IsJournalOf td r.plan x j2 K2 (disk_now new)) (sym more) (journal_failed td r.rules r.plan c j j2 K K2 old new e es closed through is.journal);
        told = λ t shown. told_all r events first old new all later.vehicle later.link_faults (is.told t (shown_before first.moment new.moment old new later.is_later later.is_later.later shown));
        sentence = λ d t. sentence td tv r (e ∷ es) first old new j j2 K K2 kept may live readable through later reads is d t;
      }
