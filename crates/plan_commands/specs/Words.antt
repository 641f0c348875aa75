-- The words of the commands that the files alone answer.
use Rattle.std.specs.Prelude.{ℕ, List, Option, Some, None}
use Rattle.flash_words.specs.Words as form
use Rattle.flash_words.specs.declared.command.Command.{Command as AnyCommand}
use Rattle.flash_words.specs.declared.command.Command.TheVariants as any
use Rattle.plan_commands.specs.declared.words.Command.{Command}
use Rattle.plan_commands.specs.declared.words.Command.TheVariants.{Check, Image}

-- the command, if it is one that the files alone answer
abbrev pub by_files : Option AnyCommand → Option Command
by_files (Some (any.Check order)) = Some (Check order)
by_files (Some (any.Image order task)) = Some (Image order task)
by_files (Some (any.Status order)) = None
by_files (Some (any.Run order workers)) = None
by_files (Some (any.Drill n)) = None
by_files None = None

-- `check ORDER` and `image ORDER TASK`, and no other list of words
abbrev pub command_of : List (List ℕ) → Option Command
command_of words = by_files (form.command_of words)

-- the order file that a command names
abbrev pub order_of : Command → List ℕ
order_of (Check order) = order
order_of (Image order task) = order

-- the order file of `status ORDER`
abbrev pub looked_at : Option AnyCommand → Option (List ℕ)
looked_at (Some (any.Check order)) = None
looked_at (Some (any.Image order task)) = None
looked_at (Some (any.Status order)) = Some order
looked_at (Some (any.Run order workers)) = None
looked_at (Some (any.Drill n)) = None
looked_at None = None

-- no other list of words is a look at the journal
abbrev pub status_order : List (List ℕ) → Option (List ℕ)
status_order words = looked_at (form.command_of words)
