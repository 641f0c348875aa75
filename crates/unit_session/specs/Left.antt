-- How many requests an attempt has still to make, at most: none is left out.
use Rattle.std.specs.Prelude.{ℕ, ◌+◌, List, [], ◌∷◌, length}
use Rattle.flash_plan.specs.declared.unit.Segment.{Segment}
use Rattle.flash_plan.specs.declared.unit.UnitPlan.{UnitPlan}
use Rattle.run_model.specs.Script.{Place, AtIdent, AtBegin, AtProgram, AtSeed, AtKey, AtErase, AtDownload, AtBlock, AtExit, AtCheck, AtMark, AtFinish, AtReset, AtDone, AtEnd}

-- for each segment an erase, a download, a block for each byte, an exit and a check; then the whole check and the reset
abbrev pub left_for : List Segment → ℕ
left_for [] = 2
left_for (s ∷ ss) = length s.body + 4 + left_for ss

abbrev pub requests_left : UnitPlan → Place → ℕ
requests_left u (AtIdent w ws) = length ws + 4 + left_for u.segments
requests_left u AtBegin = 3 + left_for u.segments
requests_left u AtProgram = 3 + left_for u.segments
requests_left u (AtSeed level) = 2 + left_for u.segments
requests_left u (AtKey level seed) = 1 + left_for u.segments
requests_left u (AtErase c) = length c.now.body + 4 + left_for c.left
requests_left u (AtDownload c) = length c.now.body + 3 + left_for c.left
requests_left u (AtBlock c b) = length b.rest + 2 + left_for c.left
requests_left u (AtExit c) = 2 + left_for c.left
requests_left u (AtCheck c) = 1 + left_for c.left
requests_left u (AtMark c) = left_for c.left
requests_left u AtFinish = 2
requests_left u AtReset = 1
requests_left u AtDone = 0
requests_left u (AtEnd outcome) = 0
