-- The causes of outcomes: a departure that was counted, or a unit that does not fit its task.
use Rattle.std.specs.Prelude.{◌≡◌, ◌⊎◌, ℕ, ◌<◌, Bool, true, false, List, [], length, Option, Some, None, Contains}
use Rattle.flash_plan.specs.declared.outcome.Outcome.{Outcome}
use Rattle.flash_plan.specs.declared.outcome.Outcome.TheVariants.{IdentMismatch, Refused, BadAnswer, CheckFailed, Undelivered, NoAnswer, PendingLimit, BusyLimit}
use Rattle.flash_plan.specs.declared.unit.Segment.{Segment}
use Rattle.flash_plan.specs.declared.unit.UnitPlan.{UnitPlan}
use Rattle.flash_plan.specs.declared.unit.Wanted.{Wanted}
use Rattle.run_model.specs.Places.{AreMarked}
use Rattle.run_model.specs.States.{HasRoom}
use Rattle.uds_codec.specs.Key.{all_zero, level_of}
use Rattle.unit_model.specs.Unit.{ControlUnit, Counts, has_key, ident_of}
use Rattle.outcome_law.specs.Rising.{RoseBy, Rose}

-- The rows of the table of unfit units: without a departure a unit gives such an outcome only where it is so. The numbers are
-- those of services and response codes (ISO 14229-1): 34 ReadDataByIdentifier, 39 SecurityAccess, 49 RoutineControl,
-- 52 RequestDownload; 18 subfunction not supported, 49 out of range, 51 access denied, 53 invalid key.
pub data Unfit (plan : UnitPlan) (begun : Bool) (u : ControlUnit) : Outcome → Type 0 where
  -- an expected identifier is missing, and the task was not begun
  lacks_ident : (w : Wanted) → Contains plan.idents w → ident_of u.idents w.did ≡ None → begun ≡ false
      → Unfit plan begun u (Refused 34 49)
  -- the task has a key rule, and the unit has none, or one of another level
  lacks_level : (level : ℕ) → level_of plan.key ≡ Some level → (level_of u.key ≡ Some level → ⊥)
      → Unfit plan begun u (Refused 39 18)
  -- both have key rules of one level, and these differ
  other_key : (level : ℕ) → level_of plan.key ≡ Some level → level_of u.key ≡ Some level
      → (u.key ≡ plan.key → ⊥) → Unfit plan begun u (Refused 39 53)
  -- the unit has a key rule, and the task has none, or the unit's seed is all zero
  stays_locked : has_key u.key ≡ true → (has_key plan.key ≡ false) ⊎ (all_zero u.seed ≡ true)
      → Unfit plan begun u (Refused 49 51)
  -- the unit's regions do not hold every segment
  lacks_room : (s : Segment) → Contains plan.segments s → (HasRoom s u → ⊥)
      → Unfit plan begun u (Refused 49 49)
  -- its check routine is another
  other_check : (u.check ≡ plan.check → ⊥) → Unfit plan begun u (Refused 49 49)
  -- its seed has no byte, or more than 32
  odd_seed : (length u.seed ≡ 0) ⊎ (32 < length u.seed) → Unfit plan begun u (BadAnswer 39)
  -- its block number is below 3
  odd_block : u.block < 3 → Unfit plan begun u (BadAnswer 52)

-- the value of an expected identifier is none of those expected, and the task was not begun
pub record OtherIdent (plan : UnitPlan) (begun : Bool) (u : ControlUnit) (did : ℕ) : Type 0 where
  pub wanted : Wanted
  pub value : List ℕ
  pub expected : Contains plan.idents wanted
  pub did_is : did ≡ wanted.did
  pub value_is : ident_of u.idents did ≡ Some value
  pub other : Contains wanted.values value → ⊥
  pub fresh : begun ≡ false

-- every segment was found marked, and no range of the unit was checked: then the whole check finds nothing
pub record HasNoneChecked (plan : UnitPlan) (found : ℕ → Bool) (u : ControlUnit) : Type 0 where
  pub marked : AreMarked found (length plan.segments)
  pub none : u.checked ≡ []

-- The table of outcomes: `u` is the unit at the start of a run, `now` its counts, and `found` the segments that were found marked.
abbrev pub IsCausedBy : UnitPlan → Bool → (ℕ → Bool) → ControlUnit → Counts → Outcome → Type 0
IsCausedBy plan begun found u now (Refused sid nrc) =
    Rose (u.counts.refused nrc) (now.refused nrc) ⊎ Unfit plan begun u (Refused sid nrc)
IsCausedBy plan begun found u now (BadAnswer sid) =
    Rose u.counts.odd now.odd ⊎ Unfit plan begun u (BadAnswer sid)
IsCausedBy plan begun found u now (CheckFailed routine segment status) =
    Rose u.counts.failed now.failed ⊎ ((routine ≡ 65281) × HasNoneChecked plan found u)
IsCausedBy plan begun found u now (NoAnswer sid) = Rose u.counts.muted now.muted ⊎ Rose u.counts.late now.late
IsCausedBy plan begun found u now (PendingLimit sid) = Rose u.counts.stalled now.stalled
IsCausedBy plan begun found u now (BusyLimit sid) = RoseBy 21 u.counts.busy now.busy
IsCausedBy plan begun found u now (Undelivered code) = Rose (u.counts.nacked code) (now.nacked code)
IsCausedBy plan begun found u now (IdentMismatch did) = OtherIdent plan begun u did
IsCausedBy plan begun found u now outcome = ⊥

-- a conversation with a unit that the vehicle lacks ends with the gateway's code 03 alone
abbrev pub IsCaused : UnitPlan → Bool → (ℕ → Bool) → Option ControlUnit → Option ControlUnit → Outcome
    → Type 0
IsCaused plan begun found None None outcome = outcome ≡ Undelivered 3
IsCaused plan begun found (Some u) (Some w) outcome = IsCausedBy plan begun found u w.counts outcome
IsCaused plan begun found None (Some w) outcome = ⊥
IsCaused plan begun found (Some u) None outcome = ⊥
