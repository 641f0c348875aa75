-- What a group of records keeps of a bay, and what it answers.
use Rattle.std.proofs.Common.{◌≡◌, ℕ, suc, ◌+◌, ◌-◌, ◌≤◌, true, false, List, [], ◌∷◌, ◌++◌, length, take, length-take, Ok, Err, refl, sym, ◌∙◌, ap, subst, arith}
use Rattle.std.specs.Prelude.{Bool, IsTrue, not, map, min}
use Rattle.bay_core.specs.declared.event.Event.{Event}
use Rattle.bay_law.proofs.Committing.{group_keeps, group_fails, with_all}
use Rattle.bay_law.proofs.Steps.{any_room}
use Rattle.disk_model.specs.Disk.{IsCrashImage}
use Rattle.flash_base.specs.Counts.{Rises}
use Rattle.flash_bay.proofs.Commits.{may_group}
use Rattle.flash_bay.specs.Recording.{Commits, Fails, Records}
use Rattle.flash_bay.specs.State.{BayState, IsBayOf, state_of}
use Rattle.flash_bay.specs.declared.answers.StepFault.TheVariants as fault
use Rattle.flash_journal.specs.Kept.{journal_label, has_entry, is_live, AppendsInOrder, HasMore, IsClosed, IsKeptOn, MayAppendAll}
use Rattle.flash_journal.specs.declared.journal.Journal.{Journal}
use Rattle.flash_plan.specs.declared.outcome.Entry.{Entry}
use Rattle.flash_run.proofs.Looping.{takes_all_is, takes_room}
use Rattle.flash_run.specs.Group.{IsGroupDue, MayAll, TakesAll, failed_as, group_of, recorded_as, takes_all}
use Rattle.flash_run.specs.Run.{RunState, IsKept, core_of_run, left_in, with_room}
use Rattle.journal_steps.specs.Append.{AddsSomeOf}
use Rattle.journal_steps.specs.Later.{IsDiskLater, HoldsOnDisk}
use Rattle.shop_model.specs.History.{History, disk_now}

length_map : (f : Entry → Event) (xs : List Entry) → length (map f xs) ≡ length xs
length_map f [] = refl
length_map f (x ∷ xs) = ap (λ (n : ℕ). suc n) (length_map f xs)

-- ------ a run whose group is not empty
module _ (r : RunState) (due : IsGroupDue r) (some : 1 ≤ length (group_of r)) where
  not_empty : group_of r ≡ [] → ⊥
  not_empty e = let none : length (group_of r) ≡ 0 = ap (λ (xs : List Entry). length xs) e in omega (arith, some, none)

  sound : (core_of_run r).halt.failed ≡ false
  sound = due.sound not_empty

-- ------ before the append
module _ (td tv : Bool) (r : RunState) (first old : History) (j : Journal) (group : List Entry) (kept : IsKept r) (due : IsGroupDue r) (some : 1 ≤ length (group_of r)) (is : IsBayOf td tv r first old j) (same : group ≡ group_of r) where
  pub live : is_live j ≡ true
  live = is.journal.live ∙ ap (λ (b : Bool). not b) (sound r due some)

  pub on_disk : IsTrue td → IsKeptOn j (disk_now old)
  on_disk t = is.journal.kept t live

  may_all : MayAll r group
  may_all = subst (λ (es : List Entry). MayAll r es) (sym same) (due.may (sound r due some))

  pub may_append_all : MayAppendAll j group
  may_append_all = subst (λ (es : List Entry). MayAppendAll j es) (sym same) (may_group td r j (disk_now old) kept is.journal (group_of r) some due.few due.apart (due.may (sound r due some)))

  -- ------ behind it
  module _ (new : History) (j2 : Journal) (readable : IsCrashImage (disk_now old) (disk_now old).bytes) (through : IsTrue td → HoldsOnDisk old new (AddsSomeOf (journal_label j) (has_entry j) group)) (later : IsDiskLater old new) where
    pub commit_keeps : (r1 r2 : RunState) (k n : ℕ) → HasMore j j2 (take n group) → (IsTrue td → IsKeptOn j2 (disk_now new)) → r1 ≡ with_room k r → r2 ≡ takes_all (map recorded_as (take n group)) r1 → IsBayOf td tv r2 first new j2
    commit_keeps r1 r2 k n has kept_on room did =
        let es : List Event = map recorded_as (take n group) in
        let base : IsBayOf td tv (with_all es r) first new j2 =
        group_keeps td tv r group first old new (state_of j) (state_of j2) (IsKeptOn j) (IsKeptOn j2) kept may_all live readable through later (λ x on. record { records = on.records; each = on.each }) is (take n group)
        (record { label = has.label; live = has.live; entries = has.entries }) kept_on (λ x on. record { records = on.records; each = on.each }) in
        subst (λ (x : RunState). IsBayOf td tv x first new j2) (sym (did ∙ ap (λ (x : RunState). takes_all es x) room ∙ takes_all_is es (with_room k r)))
        (any_room td tv (with_all es r) (r.room + k - length es) first new (state_of j2) (IsKeptOn j2) base)

    fails_by : (g : List Entry) → g ≡ group → 1 ≤ length g → IsClosed j j2 → Rises old.disk_faults new.disk_faults → IsBayOf td tv (with_all (map failed_as g) r) first new j2
    fails_by [] e few closed rose = absurd (omega (arith, few))
    fails_by (e ∷ es) whole few closed rose =
        group_fails td tv r e es first old new (state_of j) (state_of j2) (IsKeptOn j) (IsKeptOn j2) kept (subst (λ (xs : List Entry). MayAll r xs) (sym whole) may_all) live readable
        (λ t. subst (λ (xs : List Entry). HoldsOnDisk old new (AddsSomeOf (journal_label j) (has_entry j) xs)) (sym whole) (through t)) later (λ x on. record { records = on.records; each = on.each }) is
        (record { label = closed.label; live = closed.live; entries = closed.entries }) rose

    pub fail_keeps : (r1 r2 : RunState) (k : ℕ) → IsClosed j j2 → Rises old.disk_faults new.disk_faults → r1 ≡ with_room k r → r2 ≡ takes_all (map failed_as group) r1 → IsBayOf td tv r2 first new j2
    fail_keeps r1 r2 k closed rose room did =
        let es : List Event = map failed_as group in
        subst (λ (x : RunState). IsBayOf td tv x first new j2) (sym (did ∙ ap (λ (x : RunState). takes_all es x) room ∙ takes_all_is es (with_room k r)))
        (any_room td tv (with_all es r) (r.room + k - length es) first new (state_of j2) (IsKeptOn j2) (fails_by group refl (subst (λ (xs : List Entry). 1 ≤ length xs) (sym same) some) closed rose))

-- ------ in room that was taken
pub recorded_may : (r r1 : RunState) (group : List Entry) (k n : ℕ) → IsGroupDue r → group ≡ group_of r → r1 ≡ with_room k r → TakesAll r1 (map recorded_as (take n group))
recorded_may r r1 group k n due same room =
    subst (λ (x : RunState × List Entry). TakesAll x.0 (map recorded_as (take n x.1))) (λ i. (sym room i, sym same i)) (takes_room (map recorded_as (take n (group_of r))) r (r.room + k) (due.recorded n))

pub failed_may : (r r1 : RunState) (group : List Entry) (k : ℕ) → IsGroupDue r → group ≡ group_of r → r1 ≡ with_room k r → TakesAll r1 (map failed_as group)
failed_may r r1 group k due same room =
    subst (λ (x : RunState × List Entry). TakesAll x.0 (map failed_as x.1)) (λ i. (sym room i, sym same i)) (takes_room (map failed_as (group_of r)) r (r.room + k) due.failed)

pub count_few : (n len slots : ℕ) → n ≡ min len slots → n ≤ len
count_few n len slots is = omega (arith, is)

pub spare_all : (r r1 : RunState) (k n : ℕ) → r1 ≡ with_room k r → left_in r.plan (core_of_run r) + k ≤ r1.room → n ≤ k → left_in r1.plan (core_of_run r1) + n ≤ r1.room
spare_all r r1 k n is spare few =
    let same : left_in r1.plan (core_of_run r1) ≡ left_in r.plan (core_of_run r) = ap (λ (x : RunState). left_in x.plan (core_of_run x)) is in
    omega (arith, same, spare, few)

-- the slice that is appended is the group
pub recorded_slice : (group slice : List Entry) (n : ℕ) (r1 r2 : RunState) → slice ≡ group → r2 ≡ takes_all (map recorded_as (take n group)) r1 → r2 ≡ takes_all (map recorded_as (take n slice)) r1
recorded_slice group slice n r1 r2 same did = did ∙ ap (λ (g : List Entry). takes_all (map recorded_as (take n g)) r1) (sym same)

pub failed_slice : (group slice : List Entry) (r1 r2 : RunState) → slice ≡ group → r2 ≡ takes_all (map failed_as group) r1 → r2 ≡ takes_all (map failed_as slice) r1
failed_slice group slice r1 r2 same did = did ∙ ap (λ (g : List Entry). takes_all (map failed_as g) r1) (sym same)

pub length_slice : (group slice : List Entry) (k : ℕ) → slice ≡ group → k ≡ length group → k ≡ length slice
length_slice group slice k same is = is ∙ ap (λ (g : List Entry). length g) (sym same)

-- ------ what it answers
room_left : (room k m : ℕ) → m ≤ k → room ≤ room + k - m
room_left room k m le = omega (arith, le)

after_is : (r r1 r2 : RunState) (es : List Event) (k : ℕ) → r1 ≡ with_room k r → r2 ≡ takes_all es r1 → r2 ≡ record r { events = r.events ++ es; room = r.room + k - length es }
after_is r r1 r2 es k room did = did ∙ ap (λ (x : RunState). takes_all es x) room ∙ takes_all_is es (with_room k r)

pub commits_ok : {S : Type 0} (history : S → History) (b : BayState S) (r r1 r2 : RunState) (first shop shop2 : S) (a a2 n k : ℕ) (group : List Entry) → ◌≡◌ {A = BayState S} (record { run = r; first = first; shop = shop; slots = a }) b
    → group ≡ group_of r → k ≡ length group → n ≡ min (length group) a → 1 ≤ n → r1 ≡ with_room k r → r2 ≡ takes_all (map recorded_as (take n group)) r1 → IsDiskLater (history shop) (history shop2) → (history shop2).moment ≤ (history shop).moment + 4 → (history shop2).moment ≡ (history shop).moment + 4
    → Commits history b (Ok n) (record { run = r2; first = first; shop = shop2; slots = a2 })
commits_ok {S = S} history b r r1 r2 first shop shop2 a a2 n k group view same size count some room did later few calls =
    let es : List Event = map recorded_as (take n (group_of r)) in
    let r3 : RunState = record r { events = r.events ++ es; room = r.room + k - length es } in
    let did_so : r2 ≡ takes_all es r1 = did ∙ ap (λ (g : List Entry). takes_all (map recorded_as (take n g)) r1) same in
    let length_is : length es ≡ min n (length (group_of r)) = length_map recorded_as (take n (group_of r)) ∙ length-take n (group_of r) in
    let size_is : k ≡ length (group_of r) = size ∙ ap (λ (g : List Entry). length g) same in
    let le : length es ≤ k = omega (arith, length_is, size_is) in
    let here : Records history n (record { run = r; first = first; shop = shop; slots = a }) (record { run = r3; first = first; shop = shop2; slots = a2 }) = record {
      count = count ∙ ap (λ (g : List Entry). min (length g) a) same;
      some = some;
      adds = record { opening = record { plan = refl; rules = refl; found = refl; first = refl }; events = refl; starved = refl; room = room_left r.room k (length es) le };
      disk = record { is_later = later; few = few };
      calls = calls;
    } in
    subst (λ (x : BayState S × RunState). Records history n x.0 (record { run = x.1; first = first; shop = shop2; slots = a2 })) (λ i. (view i, sym (after_is r r1 r2 es k room did_so) i)) here

pub commits_failed : {S : Type 0} (history : S → History) (b : BayState S) (r r1 r2 : RunState) (first shop shop2 : S) (a a2 k : ℕ) (group : List Entry) → ◌≡◌ {A = BayState S} (record { run = r; first = first; shop = shop; slots = a }) b
    → group ≡ group_of r → k ≡ length group → 1 ≤ length (group_of r) → r1 ≡ with_room k r → r2 ≡ takes_all (map failed_as group) r1 → IsDiskLater (history shop) (history shop2) → (history shop2).moment ≤ (history shop).moment + 4 → Rises (history shop).disk_faults (history shop2).disk_faults
    → Commits history b (Err fault.Disk) (record { run = r2; first = first; shop = shop2; slots = a2 })
commits_failed {S = S} history b r r1 r2 first shop shop2 a a2 k group view same size some room did later few rose =
    let es : List Event = map failed_as (group_of r) in
    let r3 : RunState = record r { events = r.events ++ es; room = r.room + k - length es } in
    let did_so : r2 ≡ takes_all es r1 = did ∙ ap (λ (g : List Entry). takes_all (map failed_as g) r1) same in
    let le : length es ≤ k = omega (arith, length_map failed_as (group_of r), size ∙ ap (λ (g : List Entry). length g) same) in
    let here : Fails history (record { run = r; first = first; shop = shop; slots = a }) (record { run = r3; first = first; shop = shop2; slots = a2 }) = record {
      some = some;
      adds = record { opening = record { plan = refl; rules = refl; found = refl; first = refl }; events = refl; starved = refl; room = room_left r.room k (length es) le };
      disk = record { is_later = later; few = few };
      fault = rose;
    } in
    subst (λ (x : BayState S × RunState). Fails history x.0 (record { run = x.1; first = first; shop = shop2; slots = a2 })) (λ i. (view i, sym (after_is r r1 r2 es k room did_so) i)) here

pub four_calls : (j : Journal) (es : List Entry) (old new : History) → AppendsInOrder j es old new → new.moment ≡ old.moment + 4
four_calls j es old new did = did.moments
