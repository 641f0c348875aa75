use Rattle.flash_run.specs.Run.{told_seen}
use Rattle.flash_run.proofs.run.Run.conversation.Given as goal

abbrev pub ghost-conversation_in : goal.ghost-conversation_in
ghost-conversation_in a = told_seen a.plan.now a.rules.now a.found.now a.notes.now.events a.starved
