-- The words of a run.
use Rattle.std.specs.Prelude.{ℕ, ◌≤◌, List, Option, Some, None}
use Rattle.flash_words.specs.Words.{command_of}
use Rattle.flash_words.specs.declared.command.Command.{Command}
use Rattle.flash_words.specs.declared.command.Command.TheVariants.{Check, Image, Status, Run, Drill}

abbrev pub run_named : Option Command → Option (List ℕ)
run_named (Some (Run order workers)) = Some order
run_named (Some (Check order)) = None
run_named (Some (Image order task)) = None
run_named (Some (Status order)) = None
run_named (Some (Drill n)) = None
run_named None = None

-- the order file that the words `run ORDER WORKERS` name, with 1 to 16 workers; no other list of words is a run
abbrev pub run_order : List (List ℕ) → Option (List ℕ)
run_order words = run_named (command_of words)

-- how many workers a run may have
pub record IsCrewSize (workers : ℕ) : Type 0 where
  pub some : 1 ≤ workers
  pub few : workers ≤ 16
