-- The text of a run: the plan's digest, a line for each unit with its outcome, and how many are complete.
use Rattle.std.specs.Prelude.{ℕ, ◌/◌, ◌%◌, Bool, true, false, List, [], ◌∷◌, ◌++◌, length, codes, count_by, decimal}
use Rattle.hex.specs.Hex.{encode_lower, encode_upper}
use Rattle.flash_plan.specs.declared.outcome.Outcome.{Outcome}
use Rattle.flash_plan.specs.declared.outcome.Outcome.TheVariants.{Complete, IdentMismatch, Refused, BadAnswer, CheckFailed, Undelivered, NoAnswer, PendingLimit, BusyLimit, LinkLost, LinkRefused, Blocked, DiskFault, NoMemory}
use Rattle.flash_plan.specs.declared.unit.UnitPlan.{UnitPlan}
use Rattle.flash_plan.specs.Canonical.{plan_digest}
use Rattle.flash_plan.specs.Plan.{plan_of}

-- a service byte, a code or a status: two hexadecimal digits
abbrev pub two : ℕ → List ℕ
two n = encode_upper (n ∷ [])

-- an address or an identifier: four hexadecimal digits
abbrev pub four : ℕ → List ℕ
four n = encode_upper (n / 256 ∷ n % 256 ∷ [])

abbrev pub outcome_text : List UnitPlan → Outcome → List ℕ
outcome_text P Complete = codes "complete"
outcome_text P (IdentMismatch did) = codes "ident mismatch " ++ four did
outcome_text P (Refused sid nrc) = codes "refused " ++ two sid ++ codes " " ++ two nrc
outcome_text P (BadAnswer sid) = codes "bad answer " ++ two sid
outcome_text P (CheckFailed routine segment status) = codes "check failed " ++ four routine ++ codes " "
    ++ decimal segment ++ codes " " ++ two status
outcome_text P (Undelivered code) = codes "undelivered " ++ two code
outcome_text P (NoAnswer sid) = codes "no answer " ++ two sid
outcome_text P (PendingLimit sid) = codes "pending limit " ++ two sid
outcome_text P (BusyLimit sid) = codes "busy limit " ++ two sid
outcome_text P (LinkLost times) = codes "link lost " ++ decimal times
outcome_text P (LinkRefused code) = codes "link refused " ++ two code
outcome_text P (Blocked by) = codes "blocked by " ++ (plan_of P by).name
outcome_text P DiskFault = codes "disk fault"
outcome_text P NoMemory = codes "no memory"

abbrev pub unit_line : List UnitPlan → UnitPlan → Outcome → List ℕ
unit_line P u o = codes "unit " ++ u.name ++ codes " " ++ four u.address ++ codes " " ++ outcome_text P o
    ++ codes "\n"

-- the lines of units with their outcomes
abbrev pub lines : List UnitPlan → List UnitPlan → List Outcome → List ℕ
lines P [] os = []
lines P (u ∷ us) [] = []
lines P (u ∷ us) (o ∷ os) = unit_line P u o ++ lines P us os

abbrev pub is_complete : Outcome → Bool
is_complete Complete = true
is_complete o = false

abbrev pub report_text : List UnitPlan → List Outcome → List ℕ
report_text P os =
    codes "plan " ++ encode_lower (plan_digest P) ++ codes "\n" ++ lines P P os
    ++ codes "complete " ++ decimal (count_by is_complete os) ++ codes " of " ++ decimal (length P)
    ++ codes "\n"
