-- What is asked of the places of a script.
use Rattle.std.specs.Prelude.{◌≡◌, ℕ, ◌<◌, ◌≤◌, Bool, true, false, ◌∷◌, ◌++◌, length, Some}
use Rattle.flash_base.specs.Lists.{Each}
use Rattle.flash_plan.specs.Plan.{IsWanted}
use Rattle.flash_plan.specs.declared.unit.UnitPlan.{UnitPlan}
use Rattle.uds_codec.specs.Key.{level_of}
use Rattle.run_model.specs.Script.{Cursor, Blocks, Place, AtIdent, AtBegin, AtProgram, AtSeed, AtKey, AtErase, AtDownload, AtBlock, AtExit, AtCheck, AtMark, AtFinish, AtReset, AtDone, AtEnd}

-- nothing was answered yet that speaks of the unit's state
abbrev pub is_free : Place → Bool
is_free (AtIdent w ws) = true
is_free AtBegin = true
is_free AtProgram = true
is_free (AtEnd outcome) = true
is_free place = false

-- the conversation is over
abbrev pub is_ended : Place → Bool
is_ended (AtEnd outcome) = true
is_ended place = false

-- places that are reached only where Begun is recorded
abbrev pub needs_begun : Place → Bool
needs_begun (AtIdent w ws) = false
needs_begun AtBegin = false
needs_begun (AtEnd outcome) = false
needs_begun place = true

-- a request is due
abbrev pub needs_request : Place → Bool
needs_request AtBegin = false
needs_request (AtMark c) = false
needs_request AtDone = false
needs_request (AtEnd outcome) = false
needs_request place = true

-- the cursor divides the segments of the plan
abbrev pub IsCursor : UnitPlan → Cursor → Type 0
IsCursor plan c = c.done ++ (c.now ∷ c.left) ≡ plan.segments

-- the blocks divide the segment in hand, and there is something left to send
pub record IsBlocks (c : Cursor) (b : Blocks) : Type 0 where
  pub body : b.sent ++ b.rest ≡ c.now.body
  pub some : 1 ≤ length b.rest
  pub limit : 3 ≤ b.limit

-- the place is one of the plan's script
abbrev pub IsPlace : UnitPlan → Place → Type 0
IsPlace plan (AtErase c) = IsCursor plan c
IsPlace plan (AtDownload c) = IsCursor plan c
IsPlace plan (AtBlock c b) = IsCursor plan c × IsBlocks c b
IsPlace plan (AtExit c) = IsCursor plan c
IsPlace plan (AtCheck c) = IsCursor plan c
IsPlace plan (AtMark c) = IsCursor plan c
IsPlace plan place = Unit {0}

-- what the place carries from the plan and from answers is in its range, so that its request can be said
abbrev pub IsAsked : UnitPlan → Place → Type 0
IsAsked plan (AtIdent w ws) = IsWanted w × Each IsWanted ws
IsAsked plan (AtSeed level) = level_of plan.key ≡ Some level
IsAsked plan (AtKey level seed) = (level_of plan.key ≡ Some level) × (1 ≤ length seed) × (length seed ≤ 32)
IsAsked plan (AtBlock c b) = b.limit ≤ 65535
IsAsked plan place = Unit {0}

-- the first n segments are marked
abbrev pub AreMarked : (ℕ → Bool) → ℕ → Type 0
AreMarked marks n = (k : ℕ) → k < n → marks k ≡ true

-- those before the segment in hand are marked, and it is not
pub record IsNext (marks : ℕ → Bool) (c : Cursor) : Type 0 where
  pub before : AreMarked marks (length c.done)
  pub now : marks (length c.done) ≡ false

-- each segment behind the place is marked, and the one in hand is not: no request erases a marked segment
abbrev pub FitsMarks : UnitPlan → (ℕ → Bool) → Place → Type 0
FitsMarks plan marks (AtErase c) = IsNext marks c
FitsMarks plan marks (AtDownload c) = IsNext marks c
FitsMarks plan marks (AtBlock c b) = IsNext marks c
FitsMarks plan marks (AtExit c) = IsNext marks c
FitsMarks plan marks (AtCheck c) = IsNext marks c
FitsMarks plan marks (AtMark c) = IsNext marks c
FitsMarks plan marks AtFinish = AreMarked marks (length plan.segments)
FitsMarks plan marks AtReset = AreMarked marks (length plan.segments)
FitsMarks plan marks AtDone = AreMarked marks (length plan.segments)
FitsMarks plan marks place = Unit {0}
