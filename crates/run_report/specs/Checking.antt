-- The text of `check`: the plan's digest, for each unit a line and a line for each of its checksums, and how many units and bytes there are.
use Rattle.std.specs.Prelude.{ℕ, zero, suc, Bool, true, false, List, [], ◌∷◌, ◌++◌, length, codes, decimal, ◌==◌, if◌then◌else◌}
use Rattle.std.specs.List.{flat_map}
use Rattle.hex.specs.Hex.{encode_lower}
use Rattle.flash_plan.specs.declared.unit.UnitPlan.{UnitPlan}
use Rattle.flash_plan.specs.Canonical.{plan_digest}
use Rattle.flash_plan.specs.Plan.{plan_of, count_of, size_of, total_of}
use Rattle.session_image.specs.declared.types.Checked.{Checked}
use Rattle.plan_build.specs.declared.built.Built.{Built}
use Rattle.plan_build.specs.declared.built.TaskChecks.{TaskChecks}
use Rattle.run_report.specs.Forms.{shown}
use Rattle.run_report.specs.Report.{four}

-- a name of a unit behind a comma
abbrev pub further_name : List UnitPlan → ℕ → List ℕ
further_name P n = codes "," ++ (plan_of P n).name

-- the names of units, joined by ','; '-' where there are none
abbrev pub after_text : List UnitPlan → List ℕ → List ℕ
after_text P [] = codes "-"
after_text P (n ∷ ns) = (plan_of P n).name ++ flat_map (further_name P) ns

abbrev pub verdict_text : Bool → List ℕ
verdict_text true = codes " ok\n"
verdict_text false = codes " not checked\n"

-- the line of a checksum of a task
abbrev pub checksum_line : List ℕ → Checked → List ℕ
checksum_line task c = codes "checksum " ++ task ++ codes " " ++ shown c.name ++ verdict_text c.done

-- the line of a unit: how many segments and bytes it has, and which units come before it
abbrev pub planned_line : List UnitPlan → UnitPlan → List ℕ
planned_line P u =
    codes "unit " ++ u.name ++ codes " " ++ four u.address ++ codes " segments "
    ++ decimal (length u.segments) ++ codes " bytes " ++ decimal (size_of u.segments)
    ++ codes " after " ++ after_text P u.after ++ codes "\n"

-- the checksums of the task with a number, whose name is given
abbrev pub checksum_lines : ℕ → List ℕ → TaskChecks → List ℕ
checksum_lines n name t = if t.task == n then flat_map (checksum_line name) t.checks else []

-- unit n: its line, and those of its checksums
abbrev pub planned_part : List UnitPlan → List TaskChecks → ℕ → List ℕ
planned_part P ts n = planned_line P (plan_of P n) ++ flat_map (checksum_lines n (plan_of P n).name) ts

-- the parts of the first n units
abbrev pub planned_parts : List UnitPlan → List TaskChecks → ℕ → List ℕ
planned_parts P ts zero = []
planned_parts P ts (suc n) = planned_parts P ts n ++ planned_part P ts n

abbrev pub check_text : Built → List ℕ
check_text b =
    codes "plan " ++ encode_lower (plan_digest b.plan) ++ codes "\n"
    ++ planned_parts b.plan b.checks (count_of b.plan)
    ++ codes "units " ++ decimal (count_of b.plan) ++ codes " bytes " ++ decimal (total_of b.plan)
    ++ codes "\n"
