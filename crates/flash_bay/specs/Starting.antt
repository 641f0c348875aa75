-- The run of a journal that was opened.
use Rattle.std.specs.Prelude.{◌≡◌, ℕ, Bool, false, ◌&&◌, ◌||◌, ◌==◌, nat_lt, List}
use Rattle.barrier_board.specs.Board.{has_entry as is_found}
use Rattle.flash_journal.specs.Kept.{has_entry}
use Rattle.flash_journal.specs.declared.journal.Journal.{Journal}
use Rattle.flash_plan.specs.declared.outcome.Entry.{Entry}
use Rattle.flash_plan.specs.declared.outcome.Entry.TheVariants.{Begun, Marked, Complete}
use Rattle.flash_plan.specs.declared.unit.LinkRules.{LinkRules}
use Rattle.flash_plan.specs.declared.unit.UnitPlan.{UnitPlan}
use Rattle.flash_run.specs.Run.{RunState, run_start}
use Rattle.journal_model.specs.Records.{unit_of}

-- of unit n: that it is begun, and its first s marks
abbrev pub is_early : ℕ → ℕ → Entry → Bool
is_early n s (Begun m) = m == n
is_early n s (Marked m k) = m == n && nat_lt k s
is_early n s (Complete m) = false

-- of the units below n, or one of these
abbrev pub is_listed : ℕ → ℕ → Entry → Bool
is_listed n s x = nat_lt (unit_of x) n || is_early n s x

-- of the units below n
abbrev pub below : ℕ → (Entry → Bool) → Entry → Bool
below n has x = nat_lt (unit_of x) n && has x

-- a run before any event, that has found what the journal has
pub record IsStarted (P : List UnitPlan) (rules : LinkRules) (j : Journal) (r : RunState) : Type 0 where
  pub run : r ≡ run_start P rules r.found
  pub found : (e : Entry) → is_found r.found e ≡ has_entry j e
