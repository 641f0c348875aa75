-- Lists of events worked out by hand: the tester 0E80; three units, of one segment each, that stand at Begin; and a unit of two
-- segments, the first of which was found marked.
use Rattle.std.specs.Prelude.{◌≡◌, ℕ, Bool, true, false, ◌||◌, List, [], ◌∷◌, ◌++◌, Some}
use Rattle.flash_base.specs.declared.unit.KeyRule.TheVariants.{Free}
use Rattle.flash_plan.specs.Outcomes.{same_entry, with_entry}
use Rattle.flash_plan.specs.declared.outcome.Entry.{Entry}
use Rattle.flash_plan.specs.declared.outcome.Entry.TheVariants as entry
use Rattle.flash_plan.specs.declared.outcome.Entry.TheVariants.{Begun}
use Rattle.flash_plan.specs.declared.outcome.Outcome.TheVariants.{DiskFault}
use Rattle.flash_plan.specs.declared.unit.LinkRules.{LinkRules}
use Rattle.flash_plan.specs.declared.unit.Segment.{Segment}
use Rattle.flash_plan.specs.declared.unit.UnitPlan.{UnitPlan}
use Rattle.bay_core.specs.Core.{Core, core_start, core_of}
use Rattle.bay_core.specs.Joint.{RecordsAgree}
use Rattle.bay_core.specs.Legal.{is_legal}
use Rattle.bay_core.specs.declared.event.Event.{Event}
use Rattle.bay_core.specs.declared.event.Event.TheVariants.{Claimed, Began, Sent, Collected, Tended, Marked, Completed, DiskFailed, Ended}
use Rattle.bay_core.specs.declared.event.Heard.TheVariants.{Piece}
use Rattle.bay_core.specs.declared.event.Tend.TheVariants.{Dialed, Asked, Polled}

abbrev pub rules : LinkRules
rules = record { tester = 3712; relinks = 1 }

abbrev pub a_plan : ℕ → List Segment → UnitPlan
a_plan address segments = record {
  name = 65 ∷ [];
  address = address;
  width = record { size = 4; at = 4 };
  check = 514;
  key = Free;
  idents = [];
  after = [];
  segments = segments;
}

abbrev pub one : List Segment
one = record { at = 4096; body = 97 ∷ 98 ∷ 99 ∷ 100 ∷ [] } ∷ []

abbrev pub three : List UnitPlan
three = a_plan 4097 one ∷ a_plan 4098 one ∷ a_plan 4099 one ∷ []

abbrev pub nothing : Entry → Bool
nothing e = false

-- 03 FC 00 06 00 00 00 09 0E 80 40 00 10 00 00 00 00: the activation is accepted
abbrev pub opens : List Event
opens = Tended (Dialed false) ∷ Tended (Asked false) ∷ Tended (Polled (Piece (3 ∷ 252 ∷ 0 ∷ 6 ∷ 0 ∷ 0 ∷ 0 ∷ 9 ∷ 14 ∷ 128 ∷ 64 ∷ 0 ∷ 16 ∷ 0 ∷ 0 ∷ 0 ∷ 0 ∷ []))) ∷ []

abbrev pub at_begin : List Event
at_begin = Claimed 0 ∷ Claimed 1 ∷ Claimed 2 ∷ opens

-- the gate write of all three failed
abbrev pub group : List Event
group = DiskFailed 0 (Begun 0) ∷ DiskFailed 1 (Begun 1) ∷ DiskFailed 2 (Begun 2) ∷ []

abbrev pub legal_three : List Event → Bool
legal_three events = is_legal rules three (core_start three nothing) (at_begin ++ events)

abbrev pub core_three : List Event → Core
core_three events = core_of rules three (core_start three nothing) (at_begin ++ events)

abbrev pub all_three : Entry → Bool
all_three = with_entry (Begun 2) (with_entry (Begun 1) (with_entry (Begun 0) nothing))

pub record AreGroupsWorked : Type 0 where
  pub recorded : legal_three (Began 0 ∷ Began 1 ∷ Began 2 ∷ []) ≡ true
  pub failed : legal_three group ≡ true
  pub ended : legal_three (group ++ (Ended 0 DiskFault ∷ Ended 1 DiskFault ∷ Ended 2 DiskFault ∷ [])) ≡ true
  pub stop : (core_three group).halt.stop ≡ Some DiskFault
  -- none of the three is recorded, and none, one or all of them may be there
  pub unrecorded : (core_three group).recorded (Begun 1) ≡ false
  pub doubted : (core_three group).doubted (Begun 1) ≡ true
  pub none_there : RecordsAgree (core_three group) nothing
  pub one_there : RecordsAgree (core_three group) (with_entry (Begun 1) nothing)
  pub all_there : RecordsAgree (core_three group) all_three
  -- a failed append stops the run: nothing is recorded behind it, and no other group fails
  pub no_more : legal_three (DiskFailed 0 (Begun 0) ∷ Began 1 ∷ []) ≡ false
  pub parted : legal_three (DiskFailed 0 (Begun 0) ∷ Ended 0 DiskFault ∷ DiskFailed 1 (Begun 1) ∷ []) ≡ false
  -- a unit that does not stand at the entry has no part in the group
  pub not_there : legal_three (DiskFailed 0 (Begun 0) ∷ DiskFailed 1 (entry.Complete 1) ∷ []) ≡ false

-- ------ marks
abbrev pub two : List UnitPlan
two = a_plan 4097 (record { at = 4096; body = 97 ∷ 98 ∷ 99 ∷ 100 ∷ [] }
    ∷ record { at = 8192; body = 101 ∷ 102 ∷ 103 ∷ 104 ∷ [] } ∷ []) ∷ []

abbrev pub first_marked : Entry → Bool
first_marked e = same_entry e (Begun 0) || same_entry e (entry.Marked 0 0)

-- 03 FC 80 01 00 00 00 NN 10 01 0E 80 and the answer: request `place` is sent, and answered at once
abbrev pub says : ℕ → ℕ → List ℕ → List Event
says place length answer = Sent 0 place false ∷ Collected 0
    (Piece (3 ∷ 252 ∷ 128 ∷ 1 ∷ 0 ∷ 0 ∷ 0 ∷ length ∷ 16 ∷ 1 ∷ 14 ∷ 128 ∷ answer)) ∷ []

-- 10 02, and the second segment up to its check
abbrev pub to_mark : List Event
to_mark =
    Claimed 0 ∷ (opens ++ (says 0 10
    (80 ∷ 2 ∷ 0 ∷ 50 ∷ 1 ∷ 244 ∷ []) ++ (says 1 9 (113 ∷ 1 ∷ 255 ∷ 0 ∷ 0 ∷ [])
    ++ (says 2 7 (116 ∷ 16 ∷ 128 ∷ [])
    ++ (says 3 6 (118 ∷ 1 ∷ []) ++ (says 4 5 (119 ∷ []) ++ says 5 9 (113 ∷ 1 ∷ 2 ∷ 2 ∷ 0 ∷ [])))))))

-- 31 01 FF 01 and 11 01
abbrev pub to_done : List Event
to_done = says 6 9 (113 ∷ 1 ∷ 255 ∷ 1 ∷ 0 ∷ []) ++ says 7 6 (81 ∷ 1 ∷ [])

abbrev pub legal_two : List Event → Bool
legal_two events = is_legal rules two (core_start two first_marked) (to_mark ++ events)

pub record AreMarksWorked : Type 0 where
  pub marks : legal_two (Marked 0 1 ∷ []) ≡ true
  pub only_that : legal_two (Marked 0 0 ∷ []) ≡ false
  pub first_mark : legal_two (Sent 0 6 false ∷ []) ≡ false
  pub completes : legal_two (Marked 0 1 ∷ (to_done ++ (Completed 0 ∷ []))) ≡ true
  pub fails : legal_two (DiskFailed 0 (entry.Marked 0 1) ∷ Ended 0 DiskFault ∷ []) ≡ true
  pub fails_once : legal_two (DiskFailed 0 (entry.Marked 0 1) ∷ Marked 0 1 ∷ []) ≡ false
  pub recorded : (core_of rules two (core_start two first_marked) (to_mark ++ (Marked 0 1 ∷ []))).recorded
      (entry.Marked 0 1) ≡ true
