-- What the record that a unit is complete keeps of a bay, and what it answers.
use Rattle.std.proofs.Common.{◌≡◌, inl, inr, ℕ, zero, suc, ◌+◌, ◌-◌, ◌<◌, ◌≤◌, true, false, List, [], ◌∷◌, take, refl, sym, ◌∙◌, ap, subst, arith}
use Rattle.std.specs.Prelude.{Bool, IsTrue, not, ◌&&◌, ◌||◌, ◌==◌, is_none, map, min}
use Rattle.std.proofs.lemmas.Bool.{cases_Bool, false≢true, and_parts, and_from, eq-eqb}
use Rattle.bay_core.proofs.Allowed.{finish_facts, open_none}
use Rattle.bay_core.specs.Core.{Core, core_after}
use Rattle.bay_core.specs.Legal.{is_done, is_open_unit, may_finish, may_record, without_failures}
use Rattle.bay_core.specs.declared.event.Event.{Event}
use Rattle.bay_core.specs.declared.event.Event.TheVariants.{Completed, DiskFailed}
use Rattle.bay_law.proofs.Committing.{group_keeps, group_fails, with_all}
use Rattle.bay_law.proofs.Steps.{any_room}
use Rattle.disk_model.specs.Disk.{IsCrashImage}
use Rattle.flash_base.specs.Counts.{Rises}
use Rattle.flash_bay.proofs.Commits.{may_group}
use Rattle.flash_bay.specs.Recording.{RecordsOne}
use Rattle.flash_bay.specs.State.{BayState, IsBayOf, state_of}
use Rattle.flash_journal.specs.Kept.{journal_label, has_entry, is_live, HasMore, IsClosed, IsKeptOn, MayAppendAll}
use Rattle.flash_journal.specs.declared.journal.Journal.{Journal}
use Rattle.flash_plan.specs.Plan.{count_of}
use Rattle.flash_plan.specs.declared.outcome.Entry.{Entry}
use Rattle.flash_plan.specs.declared.outcome.Entry.TheVariants.{Complete}
use Rattle.flash_run.proofs.Rooms.{left_completed, left_failed}
use Rattle.flash_run.specs.Group.{MayAll, failed_as, recorded_as}
use Rattle.flash_run.specs.Need.{AreDue, need_of}
use Rattle.flash_run.specs.Run.{RunState, IsKept, core_of_run, left_in, may_take, with_event}
use Rattle.flash_run.specs.declared.need.Need.TheVariants as need
use Rattle.journal_steps.specs.Append.{AddsSomeOf}
use Rattle.journal_steps.specs.Later.{IsDiskLater, HoldsOnDisk}
use Rattle.shop_model.specs.History.{History, disk_now}

not_true : (b : Bool) → not b ≡ true → b ≡ false
not_true true e = sym e
not_true false e = refl

same_core : (c : Core) → c.before ≡ c.halt → without_failures c ≡ c
same_core c is = λ i. record { link = c.link; slots = c.slots; recorded = c.recorded; doubted = c.doubted; halt = is i; before = c.before }

may_any : (b : Bool) → (not b || true) ≡ true
may_any true = refl
may_any false = refl

one_taken : (n slots : ℕ) (e : Entry) → n ≡ min 1 slots → 1 ≤ n → take n (e ∷ []) ≡ e ∷ []
one_taken zero slots e is some = absurd (omega (arith, some))
one_taken (suc n) slots e is some = none n e (omega (arith, is))
  where
    none : (n : ℕ) (e : Entry) → n ≡ 0 → take (suc n) (e ∷ []) ≡ e ∷ []
    none zero e z = refl
    none (suc m) e z = absurd (omega (arith, z))

-- ------ a unit whose completion is due
module _ (r : RunState) (u : ℕ) (kept : IsKept r) (due : AreDue r) (is_due : need_of r u ≡ need.Complete) where
  may_now : may_take r (Completed u) ≡ true
  may_now = due.complete u is_due

  may_core : may_finish r.plan (core_of_run r) u ≡ true
  may_core = (and_parts (not r.starved || true) (may_finish r.plan (core_of_run r) u) may_now).1

  sound : (core_of_run r).halt.failed ≡ false
  sound = not_true (core_of_run r).halt.failed (and_parts (is_open_unit r.plan (core_of_run r) u && is_done ((core_of_run r).slots u).talk.place) (not (core_of_run r).halt.failed) may_core).1

  may_try : may_record r.plan (core_of_run r) u (Complete u) ≡ true
  may_try = and_from (u == u) (may_finish r.plan (without_failures (core_of_run r)) u) (eq-eqb u u refl) (ap (λ (c : Core). may_finish r.plan c u) (same_core (core_of_run r) (kept.settled.before sound)) ∙ may_core)

  below : u < count_of r.plan
  below = (finish_facts r.plan (core_of_run r) u may_core).below

  open_now : is_none ((core_of_run r).slots u).outcome ≡ true
  open_now = ap (λ o. is_none o) (open_none r.plan (core_of_run r) u (finish_facts r.plan (core_of_run r) u may_core).opened)

  unfaulted : ((core_of_run r).slots u).faulted ≡ false
  unfaulted = elim (cases_Bool ((core_of_run r).slots u).faulted) [
    | inl is ↦ absurd (false≢true (sym sound ∙ kept.settled.faulted u is))
    | inr other ↦ other
  ]

  pub complete_may : may_take r (Completed u) ≡ true
  complete_may = may_now

  pub fail_may : may_take r (DiskFailed u (Complete u)) ≡ true
  fail_may = and_from (not r.starved || true) (may_record r.plan (core_of_run r) u (Complete u)) (may_any r.starved) may_try

  pub complete_room : left_in r.plan (core_after r.rules r.plan (Completed u) (core_of_run r)) + 1 ≤ r.room
  complete_room =
      let less : left_in r.plan (core_after r.rules r.plan (Completed u) (core_of_run r)) + 1 ≤ left_in r.plan (core_of_run r) = left_completed r.rules r.plan (core_of_run r) u open_now below in
      omega (arith, less, kept.room)

  pub fail_room : left_in r.plan (core_after r.rules r.plan (DiskFailed u (Complete u)) (core_of_run r)) + 1 ≤ r.room
  fail_room =
      let less : left_in r.plan (core_after r.rules r.plan (DiskFailed u (Complete u)) (core_of_run r)) + 1 ≤ left_in r.plan (core_of_run r) = left_failed r.rules r.plan (core_of_run r) u (Complete u) unfaulted below in
      omega (arith, less, kept.room)

  module _ (td tv : Bool) (first old : History) (j : Journal) (is : IsBayOf td tv r first old j) where
    pub live : is_live j ≡ true
    live = is.journal.live ∙ ap (λ (b : Bool). not b) sound

    pub on_disk : IsTrue td → IsKeptOn j (disk_now old)
    on_disk t = is.journal.kept t live

    may_all : MayAll r (Complete u ∷ [])
    may_all = (may_try, tt)

    pub may_append_all : MayAppendAll j (Complete u ∷ [])
    may_append_all = may_group td r j (disk_now old) kept is.journal (Complete u ∷ []) (omega arith) (omega arith) (tt, tt) may_all

    module _ (new : History) (j2 : Journal) (readable : IsCrashImage (disk_now old) (disk_now old).bytes) (through : IsTrue td → HoldsOnDisk old new (AddsSomeOf (journal_label j) (has_entry j) (Complete u ∷ []))) (later : IsDiskLater old new) where
      pub complete_keeps : (r2 : RunState) (n slots : ℕ) → n ≡ min 1 slots → 1 ≤ n → HasMore j j2 (take n (Complete u ∷ [])) → (IsTrue td → IsKeptOn j2 (disk_now new)) → r2 ≡ with_event (Completed u) r → IsBayOf td tv r2 first new j2
      complete_keeps r2 n slots count some more kept_on did =
          let has : HasMore j j2 (Complete u ∷ []) = subst (λ (es : List Entry). HasMore j j2 es) (one_taken n slots (Complete u) count some) more in
          let base : IsBayOf td tv (with_all (map recorded_as (Complete u ∷ [])) r) first new j2 =
          group_keeps td tv r (Complete u ∷ []) first old new (state_of j) (state_of j2) (IsKeptOn j) (IsKeptOn j2) kept may_all live readable through later (λ x on. record { records = on.records; each = on.each }) is (Complete u ∷ [])
          (record { label = has.label; live = has.live; entries = has.entries }) kept_on (λ x on. record { records = on.records; each = on.each }) in
          subst (λ (x : RunState). IsBayOf td tv x first new j2) (sym did) (any_room td tv (with_all (Completed u ∷ []) r) (r.room - 1) first new (state_of j2) (IsKeptOn j2) base)

      pub complete_fails : (r2 : RunState) → IsClosed j j2 → Rises old.disk_faults new.disk_faults → r2 ≡ with_event (DiskFailed u (Complete u)) r → IsBayOf td tv r2 first new j2
      complete_fails r2 closed rose did =
          let base : IsBayOf td tv (with_all (map failed_as (Complete u ∷ [])) r) first new j2 =
          group_fails td tv r (Complete u) [] first old new (state_of j) (state_of j2) (IsKeptOn j) (IsKeptOn j2) kept may_all live readable through later (λ x on. record { records = on.records; each = on.each }) is
          (record { label = closed.label; live = closed.live; entries = closed.entries }) rose in
          subst (λ (x : RunState). IsBayOf td tv x first new j2) (sym did) (any_room td tv (with_all (DiskFailed u (Complete u) ∷ []) r) (r.room - 1) first new (state_of j2) (IsKeptOn j2) base)

-- ------ what it answers
pub records_one : {S : Type 0} (history : S → History) (b : BayState S) (r r2 : RunState) (first shop shop2 : S) (a a2 : ℕ) (e : Event) → ◌≡◌ {A = BayState S} (record { run = r; first = first; shop = shop; slots = a }) b
    → r2 ≡ with_event e r → IsDiskLater (history shop) (history shop2) → (history shop2).moment ≤ (history shop).moment + 4 → RecordsOne history e b (record { run = r2; first = first; shop = shop2; slots = a2 })
records_one {S = S} history b r r2 first shop shop2 a a2 e view did later few =
    let here : RecordsOne history e (record { run = r; first = first; shop = shop; slots = a }) (record { run = with_event e r; first = first; shop = shop2; slots = a2 }) = record { run = refl; first = refl; disk = record { is_later = later; few = few } } in
    subst (λ (x : BayState S × RunState). RecordsOne history e x.0 (record { run = x.1; first = first; shop = shop2; slots = a2 })) (λ i. (view i, sym did i)) here

pub complete_in : {S : Type 0} (b : BayState S) (r : RunState) (first shop : S) (a u : ℕ) → ◌≡◌ {A = BayState S} (record { run = r; first = first; shop = shop; slots = a }) b → need_of b.run u ≡ need.Complete → need_of r u ≡ need.Complete
complete_in {S = S} b r first shop a u view due = subst (λ (x : BayState S). need_of x.run u ≡ need.Complete) (sym view) due
