-- Scripts worked out by hand, request by request (ISO 14229-1): the unit 1001 with four bytes at 1000 and four at 2000, the check
-- routine 0202, and no key.
use Rattle.std.specs.Prelude.{◌≡◌, ℕ, Bool, true, false, ◌==◌, List, [], ◌∷◌, ◌++◌}
use Rattle.flash_base.specs.declared.unit.KeyRule.TheVariants.{Free}
use Rattle.flash_plan.specs.declared.outcome.Outcome.TheVariants.{CheckFailed}
use Rattle.flash_plan.specs.declared.unit.UnitPlan.{UnitPlan}
use Rattle.run_model.specs.Script.{Cursor, Ask, Begin, Mark, Send, Done, Over, AtErase, AtMark, script}
use Rattle.run_model.specs.Talk.{Talk, talk_start, talk_lost}

abbrev pub plan : UnitPlan
plan = record {
  name = 65 ∷ [];
  address = 4097;
  width = record { size = 4; at = 4 };
  check = 514;
  key = Free;
  idents = [];
  after = [];
  segments = record { at = 4096; body = 97 ∷ 98 ∷ 99 ∷ 100 ∷ [] }
      ∷ record { at = 8192; body = 101 ∷ 102 ∷ 103 ∷ 104 ∷ [] } ∷ [];
}

abbrev pub none : ℕ → Bool
none s = false

abbrev pub first : ℕ → Bool
first s = s == 0

abbrev pub second : ℕ → Bool
second s = s == 1

abbrev pub both : ℕ → Bool
both s = true

-- 44 00 00 10 00 00 00 00 04, and the same from 2000
abbrev pub at_1000 : List ℕ
at_1000 = 68 ∷ 0 ∷ 0 ∷ 16 ∷ 0 ∷ 0 ∷ 0 ∷ 0 ∷ 4 ∷ []

abbrev pub at_2000 : List ℕ
at_2000 = 68 ∷ 0 ∷ 0 ∷ 32 ∷ 0 ∷ 0 ∷ 0 ∷ 0 ∷ 4 ∷ []

abbrev pub erases : List ℕ → Ask
erases range = Send (49 ∷ 1 ∷ 255 ∷ 0 ∷ range)

-- 50 02 00 32 01 F4
abbrev pub opened : List (List ℕ)
opened = (80 ∷ 2 ∷ 0 ∷ 50 ∷ 1 ∷ 244 ∷ []) ∷ []

-- 71 01 FF 00 00, 74 10 80, 76 01, 77, 71 01 02 02 00: the answers of one segment
abbrev pub loaded : List (List ℕ)
loaded = (113 ∷ 1 ∷ 255 ∷ 0 ∷ 0 ∷ []) ∷ (116 ∷ 16 ∷ 128 ∷ []) ∷ (118 ∷ 1 ∷ []) ∷ (119 ∷ [])
    ∷ (113 ∷ 1 ∷ 2 ∷ 2 ∷ 0 ∷ []) ∷ []

-- the same, and 71 01 02 02 05 in place of the last: the check found the segment to be another
abbrev pub differs : List (List ℕ)
differs = (113 ∷ 1 ∷ 255 ∷ 0 ∷ 0 ∷ []) ∷ (116 ∷ 16 ∷ 128 ∷ []) ∷ (118 ∷ 1 ∷ []) ∷ (119 ∷ [])
    ∷ (113 ∷ 1 ∷ 2 ∷ 2 ∷ 5 ∷ []) ∷ []

-- 31 01 FF 01, and its answer 71 01 FF 01 00
abbrev pub whole_check : Ask
whole_check = Send (49 ∷ 1 ∷ 255 ∷ 1 ∷ [])

abbrev pub whole : List (List ℕ)
whole = (113 ∷ 1 ∷ 255 ∷ 1 ∷ 0 ∷ []) ∷ []

pub record AreScriptsWorked : Type 0 where
  pub begin : script plan false none none [] ≡ Begin
  pub program : script plan true none none [] ≡ Send (16 ∷ 2 ∷ [])
  -- nothing is marked: the first segment is erased, loaded, checked and marked, and then the second
  pub erase : script plan true none none opened ≡ erases at_1000
  pub mark : script plan true none none (opened ++ loaded) ≡ Mark 0
  pub marked : script plan true none first (opened ++ loaded) ≡ erases at_2000
  pub mark_next : script plan true none first (opened ++ (loaded ++ loaded)) ≡ Mark 1
  pub check : script plan true none both (opened ++ (loaded ++ loaded)) ≡ whole_check
  pub reset : script plan true none both (opened ++ (loaded ++ (loaded ++ whole))) ≡ Send (17 ∷ 1 ∷ [])
  pub done : script plan true none both
      (opened ++ (loaded ++ (loaded ++ (whole ++ ((81 ∷ 1 ∷ []) ∷ []))))) ≡ Done
  -- the first was marked when the attempt began: it is left out, and the second keeps its number
  pub skip : script plan true first first opened ≡ erases at_2000
  pub skip_mark : script plan true first first (opened ++ loaded) ≡ Mark 1
  pub skip_check : script plan true first both (opened ++ loaded) ≡ whole_check
  pub skip_differs : script plan true first first (opened ++ differs) ≡ Over (CheckFailed 514 1 5)
  -- the second was: behind the first comes the whole check
  pub skip_last : script plan true second both (opened ++ loaded) ≡ whole_check
  -- both were: nothing is erased
  pub skip_both : script plan true both both opened ≡ whole_check
  -- an attempt starts anew after a loss, with the marks that are recorded by then, but not at a mark
  pub lost : (t : Talk) (c : Cursor) → t.place ≡ AtErase c
      → talk_lost plan true t ≡ talk_start plan true t.marks
  pub lost_at_mark : (t : Talk) (c : Cursor) → t.place ≡ AtMark c → talk_lost plan true t ≡ t
