-- Which lists of words are which command.
use Rattle.std.specs.Prelude.{◌≡◌, ℕ, ◌≤◌, ◌&&◌, nat_le, IsTrue, ◌↔◌, List, [], ◌∷◌, codes, bytes_eq, decimal, Option, Some, None, option_map, if◌then◌else◌}
use Rattle.std.specs.Str.Parse.{digits_value}
use Rattle.text_forms.specs.FileNames.{file_name}
use Rattle.text_forms.specs.TaskNames.{task_name}
use Rattle.flash_words.specs.declared.command.Command.{Command}
use Rattle.flash_words.specs.declared.command.Command.TheVariants.{Check, Image, Status, Run, Drill}
use Rattle.flash_words.specs.declared.command.CommandRef.{CommandRef}
use Rattle.flash_words.specs.declared.command.CommandRef.TheVariants as lent

-- ------ a command written out
-- the words of a command; numbers are in decimal, without sign and leading zeros
abbrev pub words_of : Command → List (List ℕ)
words_of (Check order) = codes "check" ∷ order ∷ []
words_of (Image order task) = codes "image" ∷ order ∷ task ∷ []
words_of (Status order) = codes "status" ∷ order ∷ []
words_of (Run order workers) = codes "run" ∷ order ∷ decimal workers ∷ []
words_of (Drill n) = codes "drill" ∷ decimal n ∷ []

-- what may stand in a command
abbrev pub IsCommand : Command → Type 0
IsCommand (Check order) = IsTrue (file_name order)
IsCommand (Image order task) = IsTrue (file_name order) × IsTrue (task_name task)
IsCommand (Status order) = IsTrue (file_name order)
IsCommand (Run order workers) = IsTrue (file_name order) × (1 ≤ workers) × (workers ≤ 16)
IsCommand (Drill n) = n ≤ 999999

-- the command whose words were borrowed
abbrev pub owned : CommandRef → Command
owned (lent.Check order) = Check order.now
owned (lent.Image order task) = Image order.now task.now
owned (lent.Status order) = Status order.now
owned (lent.Run order workers) = Run order.now workers
owned (lent.Drill n) = Drill n

-- ------ the command that words are
-- the number from low to high that a word is, written out
abbrev pub number_in : ℕ → ℕ → List ℕ → Option ℕ
number_in low high word =
    let n = digits_value 10 word in
    if nat_le low n && nat_le n high && bytes_eq (decimal n) word then Some n else None

abbrev pub check_in : List ℕ → Option Command
check_in order = if file_name order then Some (Check order) else None

abbrev pub status_in : List ℕ → Option Command
status_in order = if file_name order then Some (Status order) else None

abbrev pub image_in : List ℕ → List ℕ → Option Command
image_in order task = if file_name order && task_name task then Some (Image order task) else None

abbrev pub run_in : List ℕ → List ℕ → Option Command
run_in order workers = if file_name order then option_map (Run order) (number_in 1 16 workers) else None

abbrev pub drill_in : List ℕ → Option Command
drill_in n = option_map Drill (number_in 0 999999 n)

abbrev pub pair_in : List ℕ → List ℕ → Option Command
pair_in word second =
    if bytes_eq word (codes "check") then check_in second
    else if bytes_eq word (codes "status") then status_in second
    else if bytes_eq word (codes "drill") then drill_in second
    else None

abbrev pub triple_in : List ℕ → List ℕ → List ℕ → Option Command
triple_in word order third =
    if bytes_eq word (codes "image") then image_in order third
    else if bytes_eq word (codes "run") then run_in order third
    else None

-- the command that a list of words is; None for every list that is not in the form
abbrev pub command_of : List (List ℕ) → Option Command
command_of (word ∷ second ∷ []) = pair_in word second
command_of (word ∷ order ∷ third ∷ []) = triple_in word order third
command_of words = None

-- a list of words is a command just where it is the words of it, and what stands in them is in its form
abbrev pub Law : Type 0
Law = (words : List (List ℕ)) (c : Command)
    → (command_of words ≡ Some c) ↔ (IsCommand c × (words ≡ words_of c))
