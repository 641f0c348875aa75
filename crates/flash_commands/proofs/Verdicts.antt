-- The outcomes of a run's units, as a list and one by one, and the status that they lead to.
use Rattle.std.proofs.Common.{◌≡◌, ◌⊎◌, inl, inr, ℕ, zero, suc, ◌+◌, ◌<◌, ◌≤◌, Bool, true, false, ◌&&◌, ◌||◌, List, [], ◌∷◌, ◌++◌, length, drop, Option, Some, None, refl, sym, ◌∙◌, ap, subst, arith, append_assoc}
use Rattle.std.proofs.lemmas.List.{append-nil, drop_all, length-map}
use Rattle.std.specs.Prelude.{option_map, is_none, if◌then◌else◌}
use Rattle.std.specs.List.{slice_get}
use Rattle.std.proofs.lemmas.Option.{slice_get-map, slice_get-get_or}
use Rattle.barrier_board.specs.Board.{no_post, post_of}
use Rattle.barrier_board.specs.declared.post.Post.{Post}
use Rattle.bay_replay.specs.Held.{IsBoardOf}
use Rattle.flash_base.specs.Lists.{all_of}
use Rattle.flash_plan.specs.declared.outcome.Outcome.{Outcome}
use Rattle.flash_plan.specs.declared.outcome.Outcome.TheVariants as outcome
use Rattle.flash_plan.specs.declared.unit.UnitPlan.{UnitPlan}
use Rattle.flash_run.specs.Ending.{AllEnded}
use Rattle.flash_run.specs.Run.{RunState, core_of_run}
use Rattle.plan_commands.specs.declared.status.Status.{Status}
use Rattle.plan_commands.specs.declared.status.Status.TheVariants.{Done, Usage, Input, Units, Shelf, Journal, Disk, Sink, NoMemory}
use Rattle.run_report.specs.Report.{is_complete}
use Rattle.flash_commands.specs.Outcomes.{all_complete, cut_off, given, is_disk_fault, lacks_memory, on_board, some_is, status_by, AreOutcomes}

-- ------ from a board
some_given : (x : Option Outcome) → is_none x ≡ false → Some (given x) ≡ x
some_given None e = absurd (let never : ⊥ = cc in never)
some_given (Some o) e = refl

pub board_size : (posts : List Post) → length (on_board posts) ≡ length posts
board_size posts = length-map posts (λ (p : Post). given p.outcome)

pub are_outcomes : (r : RunState) (posts : List Post) → IsBoardOf r.plan (core_of_run r) posts → AllEnded r → AreOutcomes r (on_board posts)
are_outcomes r posts b ended = record {
  size = board_size posts ∙ b.size;
  each = λ n lt.
      let within : n < length posts = subst (λ (k : ℕ). n < k) (sym b.size) lt in
      slice_get-map (λ (p : Post). given p.outcome) posts n
      ∙ ap (option_map (λ (p : Post). given p.outcome)) (slice_get-get_or posts n no_post within)
      ∙ ap (λ (x : Option Outcome). Some (given x)) (b.outcome n lt)
      ∙ some_given ((core_of_run r).slots n).outcome (ended n lt);
}

-- one more
board_at : (posts : List Post) (n : ℕ) → n < length posts → on_board (drop n posts) ≡ given (post_of posts n).outcome ∷ on_board (drop (suc n) posts)
board_at [] n lt = absurd (omega (arith, lt))
board_at (p ∷ posts) zero lt = refl
board_at (p ∷ posts) (suc n) lt = board_at posts n (omega (arith, lt))

pub board_more : (posts : List Post) (n : ℕ) (x : Option Outcome) (o : Outcome) (old new : List Outcome) → n < length posts → x ≡ (post_of posts n).outcome → o ≡ given x
    → old ++ on_board (drop n posts) ≡ on_board posts → new ≡ old ++ o ∷ [] → new ++ on_board (drop (n + 1) posts) ≡ on_board posts
board_more posts n x o old new lt is gives so pushed =
    let next : n + 1 ≡ suc n = omega arith in
    let same : o ≡ given (post_of posts n).outcome = gives ∙ ap given is in
    let grown : new ≡ old ++ given (post_of posts n).outcome ∷ [] = pushed ∙ ap (λ (y : Outcome). old ++ y ∷ []) same in
    rw (next, grown, append_assoc old (given (post_of posts n).outcome ∷ []) (on_board (drop (suc n) posts)))
    (ap (λ (xs : List Outcome). old ++ xs) (sym (board_at posts n lt)) ∙ so)

pub board_end : (posts : List Post) (n : ℕ) (os : List Outcome) → length posts ≤ n → os ++ on_board (drop n posts) ≡ on_board posts → os ≡ on_board posts
board_end posts n os le so =
    let none : drop n posts ≡ [] = drop_all n posts le in
    let empty : on_board (drop n posts) ≡ [] = rw none refl in
    sym (ap (λ (xs : List Outcome). os ++ xs) empty ∙ append-nil os) ∙ so

-- ------ one of them
same_fault : (x : Outcome) → is_disk_fault x ≡ true → x ≡ outcome.DiskFault
same_fault outcome.Complete e = absurd (let never : ⊥ = cc in never)
same_fault (outcome.IdentMismatch did) e = absurd (let never : ⊥ = cc in never)
same_fault (outcome.Refused sid nrc) e = absurd (let never : ⊥ = cc in never)
same_fault (outcome.BadAnswer sid) e = absurd (let never : ⊥ = cc in never)
same_fault (outcome.CheckFailed routine segment status) e = absurd (let never : ⊥ = cc in never)
same_fault (outcome.Undelivered code) e = absurd (let never : ⊥ = cc in never)
same_fault (outcome.NoAnswer sid) e = absurd (let never : ⊥ = cc in never)
same_fault (outcome.PendingLimit sid) e = absurd (let never : ⊥ = cc in never)
same_fault (outcome.BusyLimit sid) e = absurd (let never : ⊥ = cc in never)
same_fault (outcome.LinkLost times) e = absurd (let never : ⊥ = cc in never)
same_fault (outcome.LinkRefused code) e = absurd (let never : ⊥ = cc in never)
same_fault (outcome.Blocked by) e = absurd (let never : ⊥ = cc in never)
same_fault outcome.DiskFault e = refl
same_fault outcome.NoMemory e = absurd (let never : ⊥ = cc in never)

only_complete : (x : Outcome) → is_complete x ≡ true → x ≡ outcome.Complete
only_complete outcome.Complete e = refl
only_complete (outcome.IdentMismatch did) e = absurd (let never : ⊥ = cc in never)
only_complete (outcome.Refused sid nrc) e = absurd (let never : ⊥ = cc in never)
only_complete (outcome.BadAnswer sid) e = absurd (let never : ⊥ = cc in never)
only_complete (outcome.CheckFailed routine segment status) e = absurd (let never : ⊥ = cc in never)
only_complete (outcome.Undelivered code) e = absurd (let never : ⊥ = cc in never)
only_complete (outcome.NoAnswer sid) e = absurd (let never : ⊥ = cc in never)
only_complete (outcome.PendingLimit sid) e = absurd (let never : ⊥ = cc in never)
only_complete (outcome.BusyLimit sid) e = absurd (let never : ⊥ = cc in never)
only_complete (outcome.LinkLost times) e = absurd (let never : ⊥ = cc in never)
only_complete (outcome.LinkRefused code) e = absurd (let never : ⊥ = cc in never)
only_complete (outcome.Blocked by) e = absurd (let never : ⊥ = cc in never)
only_complete outcome.DiskFault e = absurd (let never : ⊥ = cc in never)
only_complete outcome.NoMemory e = absurd (let never : ⊥ = cc in never)

-- a place of a disk fault that is among them
pub record HasFault (os : List Outcome) : Type 0 where
  pub place : ℕ
  pub within : place < length os
  pub is : slice_get os place ≡ Some outcome.DiskFault

further : (x : Outcome) (os : List Outcome) → HasFault os → HasFault (x ∷ os)
further x os h = record { place = suc h.place; within = omega (arith, h.within); is = h.is }

fault_at : (a b : Bool) → a || b ≡ true → (a ≡ true) ⊎ (b ≡ true)
fault_at true b e = inl refl
fault_at false b e = inr e

pub has_fault : (os : List Outcome) → some_is is_disk_fault os ≡ true → HasFault os
has_fault [] e = absurd (let never : ⊥ = cc in never)
has_fault (x ∷ os) e =
    elim (fault_at (is_disk_fault x) (some_is is_disk_fault os) e) as (λ y. HasFault (x ∷ os)) [
      | inl h ↦ record { place = 0; within = omega arith; is = ap (λ (o : Outcome). Some o) (same_fault x h) }
      | inr h ↦ further x os (has_fault os h)
    ]

both_true : (a b : Bool) → a && b ≡ true → (a ≡ true) × (b ≡ true)
both_true true b e = (refl, e)
both_true false b e = absurd (let never : ⊥ = cc in never)

-- where all are complete, each is, and the list is that of a plan as long
pub each_complete : (os : List Outcome) (n : ℕ) → all_of os is_complete ≡ true → n < length os → slice_get os n ≡ Some outcome.Complete
each_complete [] n e lt = absurd (omega (arith, lt))
each_complete (x ∷ os) zero e lt = ap (λ (o : Outcome). Some o) (only_complete x (both_true (is_complete x) (all_of os is_complete) e).0)
each_complete (x ∷ os) (suc n) e lt = each_complete os n (both_true (is_complete x) (all_of os is_complete) e).1 (omega (arith, lt))

pub are_complete : (os : List Outcome) (P : List UnitPlan) → length os ≡ length P → all_of os is_complete ≡ true → os ≡ all_complete P
are_complete [] [] e h = refl
are_complete [] (u ∷ P) e h = absurd (omega (arith, e))
are_complete (x ∷ os) [] e h = absurd (omega (arith, e))
are_complete (x ∷ os) (u ∷ P) e h =
    let b = both_true (is_complete x) (all_of os is_complete) h in
    let rest : os ≡ all_complete P = are_complete os P (omega (arith, e)) b.1 in
    ap (λ (o : Outcome). o ∷ os) (only_complete x b.0) ∙ ap (λ (xs : List Outcome). outcome.Complete ∷ xs) rest

-- where each is complete, all are
pub all_from : (os : List Outcome) → ((n : ℕ) → n < length os → slice_get os n ≡ Some outcome.Complete) → all_of os is_complete ≡ true
all_from [] each = refl
all_from (x ∷ os) each =
    let first : Some x ≡ Some outcome.Complete = each 0 (omega arith) in
    let is : x ≡ outcome.Complete = cc in
    let rest : all_of os is_complete ≡ true = all_from os (λ n lt. each (suc n) (omega (arith, lt))) in
    ap (λ (o : Outcome). is_complete o && all_of os is_complete) is ∙ rest

-- want of memory that stands at a place is among them
later_too : (a b : Bool) → b ≡ true → a || b ≡ true
later_too true b e = refl
later_too false b e = e

pub some_lacks : (os : List Outcome) (n : ℕ) → slice_get os n ≡ Some outcome.NoMemory → some_is lacks_memory os ≡ true
some_lacks [] n e = absurd (let never : ⊥ = cc in never)
some_lacks (x ∷ os) zero e =
    let is : x ≡ outcome.NoMemory = cc in
    ap (λ (o : Outcome). lacks_memory o || some_is lacks_memory os) is
some_lacks (x ∷ os) (suc n) e = later_too (lacks_memory x) (some_is lacks_memory os) (some_lacks os n e)

-- ------ the status of outcomes
-- the four, each with what leads to it
pub data StatusOf (os : List Outcome) (status : Status) : Type 0 where
  memory : status ≡ NoMemory → StatusOf os status
  fault : some_is is_disk_fault os ≡ true → status ≡ Disk → StatusOf os status
  whole : all_of os is_complete ≡ true → status ≡ Done → StatusOf os status
  some : all_of os is_complete ≡ false → status ≡ Units → StatusOf os status

by_tests : (os : List Outcome) (a b c : Bool) → some_is is_disk_fault os ≡ b → all_of os is_complete ≡ c → StatusOf os (if a then NoMemory else if b then Disk else if c then Done else Units)
by_tests os true b c is_b is_c = memory refl
by_tests os false true c is_b is_c = fault is_b refl
by_tests os false false true is_b is_c = whole is_c refl
by_tests os false false false is_b is_c = some is_c refl

pub status_leads : (os : List Outcome) → StatusOf os (status_by os)
status_leads os = by_tests os (some_is lacks_memory os) (some_is is_disk_fault os) (all_of os is_complete) refl refl

-- where no disk failed and each is complete but for want of memory
clean_tests : (a b c : Bool) → (b ≡ true → ⊥) → (a ≡ false → c ≡ true) → let s : Status = if a then NoMemory else if b then Disk else if c then Done else Units in (s ≡ NoMemory) ⊎ (s ≡ Done)
clean_tests true b c none all = inl refl
clean_tests false true c none all = absurd (none refl)
clean_tests false false true none all = inr refl
clean_tests false false false none all = absurd (let e : false ≡ true = all refl in let never : ⊥ = cc in never)

pub ends_well : (os : List Outcome) → (some_is is_disk_fault os ≡ true → ⊥) → (some_is lacks_memory os ≡ false → all_of os is_complete ≡ true) → (status_by os ≡ NoMemory) ⊎ (status_by os ≡ Done)
ends_well os none all = clean_tests (some_is lacks_memory os) (some_is is_disk_fault os) (all_of os is_complete) none all

pub never_done : (s : Status) → cut_off s ≡ Done → ⊥
never_done Done e = cc
never_done Units e = cc
never_done Usage e = cc
never_done Input e = cc
never_done Shelf e = cc
never_done Journal e = cc
never_done Disk e = cc
never_done Sink e = cc
never_done NoMemory e = cc
