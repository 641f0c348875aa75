-- What the words say is in the form of a command.
use Rattle.std.proofs.Common.{◌≡◌, ℕ, List, Some, None, sym}
use Rattle.std.specs.Prelude.{Option, IfSome}
use Rattle.flash_words.specs.Words.{IsCommand, Law, command_of}
use Rattle.flash_words.specs.declared.command.Command.{Command}

commands : Law → (ws : List (List ℕ)) (said : Option Command) → command_of ws ≡ said → IfSome said IsCommand
commands law ws None e = tt
commands law ws (Some c) e = ((law ws c).0 e).0

pub is_command : Law → (ws : List (List ℕ)) (said : Option Command) → said ≡ command_of ws → IfSome said IsCommand
is_command law ws said e = commands law ws said (sym e)
