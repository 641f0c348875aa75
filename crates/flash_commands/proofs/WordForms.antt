-- What the words say: the order file, and no run that is a look at the journal too.
use Rattle.std.proofs.Common.{◌≡◌, ℕ, List, [], Some, None, sym, ap, ◌∙◌}
use Rattle.std.specs.Prelude.{Option, IfSome}
use Rattle.flash_words.specs.Words as form
use Rattle.flash_words.specs.Words.{Law}
use Rattle.flash_words.specs.declared.command.Command.{Command as AnyCommand}
use Rattle.flash_words.specs.declared.command.Command.TheVariants as any
use Rattle.plan_commands.specs.Words.{looked_at, status_order}
use Rattle.flash_commands.specs.Words.{run_named, run_order}

not_both : (said : Option AnyCommand) (o p : List ℕ) → run_named said ≡ Some o → looked_at said ≡ Some p → ⊥
not_both None o p e f = cc
not_both (Some (any.Check order)) o p e f = cc
not_both (Some (any.Image order task)) o p e f = cc
not_both (Some (any.Status order)) o p e f = cc
not_both (Some (any.Run order workers)) o p e f = cc
not_both (Some (any.Drill n)) o p e f = cc

pub apart : (ws : List (List ℕ)) (o p : List ℕ) → run_order ws ≡ Some o → status_order ws ≡ Some p → ⊥
apart ws o p = not_both (form.command_of ws) o p

-- ------ one order file
abbrev name_in : Option (List ℕ) → List ℕ
name_in None = []
name_in (Some name) = name

pub same_order : (x y : List ℕ) (words : Option (List ℕ)) → Some x ≡ words → words ≡ Some y → y ≡ x
same_order x y words e f = sym (ap name_in (e ∙ f))

-- ------ the workers
commands : Law → (ws : List (List ℕ)) (said : Option AnyCommand) → form.command_of ws ≡ said → IfSome said form.IsCommand
commands law ws None e = tt
commands law ws (Some c) e = ((law ws c).0 e).0

pub is_command : Law → (ws : List (List ℕ)) (said : Option AnyCommand) → said ≡ form.command_of ws → IfSome said form.IsCommand
is_command law ws said e = commands law ws said (sym e)
