-- The lines that stand alone: words that are no command, a journal that is not this plan's, a disk fault, and what a drill is.
use Rattle.std.specs.Prelude.{ℕ, List, ◌++◌, codes, decimal}
use Rattle.hex.specs.Hex.{encode_lower}

abbrev pub usage_line : List ℕ
usage_line = codes "usage\n"

abbrev pub no_journal_line : List ℕ
no_journal_line = codes "journal not a journal\n"

-- the digest that the journal says, and that of the plan
abbrev pub other_plan_line : List ℕ → List ℕ → List ℕ
other_plan_line said ours = codes "journal other plan " ++ encode_lower said ++ codes " "
    ++ encode_lower ours ++ codes "\n"

abbrev pub disk_fault_line : List ℕ
disk_fault_line = codes "disk fault\n"

-- a drill's number, and how many units, bytes and blocks it has
abbrev pub drill_line : ℕ → ℕ → ℕ → ℕ → List ℕ
drill_line n units bytes blocks =
    codes "drill " ++ decimal n ++ codes " units " ++ decimal units ++ codes " bytes " ++ decimal bytes
    ++ codes " blocks " ++ decimal blocks ++ codes "\n"
