-- The text of `image`: a line for each segment of a task, with the SHA-256 of its bytes, and one for each own ident value.
use Rattle.std.specs.Prelude.{ℕ, suc, List, [], ◌∷◌, ◌++◌, length, codes, decimal, ◌==◌, if◌then◌else◌}
use Rattle.std.specs.List.{flat_map}
use Rattle.hex.specs.Hex.{encode_lower, encode_upper}
use Rattle.sha2.specs.Sha256.{sha256}
use Rattle.ecu_mem.specs.declared.types.Ident.{Ident}
use Rattle.flash_plan.specs.declared.unit.Segment.{Segment}
use Rattle.flash_plan.specs.Plan.{plan_of}
use Rattle.plan_build.specs.declared.built.Built.{Built}
use Rattle.plan_build.specs.declared.built.TaskOwn.{TaskOwn}
use Rattle.run_report.specs.Forms.{ten, shown}

-- number, target address, size and digest of a segment
abbrev pub segment_line : ℕ → Segment → List ℕ
segment_line i s =
    codes "segment " ++ decimal i ++ codes " " ++ ten s.at ++ codes " " ++ decimal (length s.body)
    ++ codes " " ++ encode_lower (sha256 s.body) ++ codes "\n"

-- the lines of segments, of which the first has number i
abbrev pub segment_lines : ℕ → List Segment → List ℕ
segment_lines i [] = []
segment_lines i (s ∷ ss) = segment_line i s ++ segment_lines (suc i) ss

abbrev pub own_line : List ℕ → List ℕ → List ℕ
own_line name value = codes "own " ++ shown name ++ codes " " ++ encode_upper value ++ codes "\n"

-- a line for each value of an own ident
abbrev pub own_lines : Ident → List ℕ
own_lines i = flat_map (own_line i.name) i.values

-- those of the task with a number
abbrev pub task_lines : ℕ → TaskOwn → List ℕ
task_lines n t = if t.task == n then flat_map own_lines t.own else []

abbrev pub image_text : Built → ℕ → List ℕ
image_text b n = segment_lines 0 (plan_of b.plan n).segments ++ flat_map (task_lines n) b.own
