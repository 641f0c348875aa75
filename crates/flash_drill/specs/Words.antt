-- The words of a drill.
use Rattle.std.specs.Prelude.{ℕ, List, Option, Some, None}
use Rattle.flash_words.specs.Words.{command_of}
use Rattle.flash_words.specs.declared.command.Command.{Command}
use Rattle.flash_words.specs.declared.command.Command.TheVariants.{Check, Image, Status, Run, Drill}

abbrev pub number_in : Option Command → Option ℕ
number_in (Some (Drill n)) = Some n
number_in (Some (Run order workers)) = None
number_in (Some (Check order)) = None
number_in (Some (Image order task)) = None
number_in (Some (Status order)) = None
number_in None = None

-- the number of the words `drill N`; no other list of words is a drill
abbrev pub drill_number : List (List ℕ) → Option ℕ
drill_number words = number_in (command_of words)
