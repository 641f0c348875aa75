-- Entries of several units that stand to be recorded, and the events of them.
use Rattle.std.specs.Prelude.{◌≡◌, ◌≢◌, ℕ, zero, suc, ◌≤◌, true, false, List, [], ◌∷◌, ◌++◌, length, map, take}
use Rattle.bay_core.specs.Legal.{may_record}
use Rattle.bay_core.specs.declared.event.Event.{Event}
use Rattle.bay_core.specs.declared.event.Event.TheVariants.{Began, Marked as Marked_event, Completed, DiskFailed}
use Rattle.flash_base.specs.Lists.{Each}
use Rattle.flash_plan.specs.Plan.{count_of}
use Rattle.flash_plan.specs.declared.outcome.Entry.{Entry}
use Rattle.flash_plan.specs.declared.outcome.Entry.TheVariants.{Begun, Marked, Complete}
use Rattle.flash_run.specs.Need.{ask_in, need_of}
use Rattle.flash_run.specs.Run.{RunState, core_of_run, with_event, may_take}
use Rattle.flash_run.specs.declared.need.Need.{Need}
use Rattle.flash_run.specs.declared.need.Need.TheVariants as need
use Rattle.unit_session.specs.declared.session.Ask.{Ask}
use Rattle.unit_session.specs.declared.session.Ask.TheVariants as ask

-- ------ the events of an entry
abbrev pub unit_in : Entry → ℕ
unit_in (Begun u) = u
unit_in (Marked u s) = u
unit_in (Complete u) = u

abbrev pub recorded_as : Entry → Event
recorded_as (Begun u) = Began u
recorded_as (Marked u s) = Marked_event u s
recorded_as (Complete u) = Completed u

abbrev pub failed_as : Entry → Event
failed_as e = DiskFailed (unit_in e) e

-- ------ the group
abbrev pub marked_by : ℕ → Ask → List Entry
marked_by u (ask.Mark segment) = Marked u segment ∷ []
marked_by u a = []

-- the entry that stands to be recorded of a unit
abbrev pub entries_by : ℕ → Ask → Need → List Entry
entries_by u a need.Begin = Begun u ∷ []
entries_by u a need.Mark = marked_by u a
entries_by u a need.Complete = Complete u ∷ []
entries_by u a n = []

abbrev pub entries_due : RunState → ℕ → List Entry
entries_due r u = entries_by u (ask_in r u) (need_of r u)

-- those of all units below a number, ascending
abbrev pub group_below : RunState → ℕ → List Entry
group_below r zero = []
group_below r (suc n) = group_below r n ++ entries_due r n

abbrev pub group_of : RunState → List Entry
group_of r = group_below r (count_of r.plan)

-- ------ several events
-- one after another
abbrev pub takes_all : List Event → RunState → RunState
takes_all [] r = r
takes_all (e ∷ es) r = takes_all es (with_event e r)

-- each may be taken after those before it
abbrev pub TakesAll : RunState → List Event → Type 0
TakesAll r [] = Unit {0}
TakesAll r (e ∷ es) = (may_take r e ≡ true) × TakesAll (with_event e r) es

-- each of these appends may be tried
abbrev pub MayAll : RunState → List Entry → Type 0
MayAll r es = Each (λ e. may_record r.plan (core_of_run r) (unit_in e) e ≡ true) es

-- no two are of one unit
abbrev pub AreApart : List Entry → Type 0
AreApart [] = Unit {0}
AreApart (e ∷ es) = Each (λ x. unit_in x ≢ unit_in e) es × AreApart es

-- ------ what may be said of the group
pub record IsGroupDue (r : RunState) : Type 0 where
  pub few : length (group_of r) ≤ 64
  pub apart : AreApart (group_of r)
  pub may : (core_of_run r).halt.failed ≡ false → MayAll r (group_of r)
  pub sound : group_of r ≢ [] → (core_of_run r).halt.failed ≡ false
  pub recorded : (n : ℕ) → TakesAll r (map recorded_as (take n (group_of r)))
  pub failed : TakesAll r (map failed_as (group_of r))
