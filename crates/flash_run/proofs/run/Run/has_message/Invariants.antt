use Rattle.flash_run.specs.Run.{told_seen}
use Rattle.flash_run.proofs.run.Run.has_message.Given as goal

abbrev pub ghost-has_message_in : goal.ghost-has_message_in
ghost-has_message_in a = told_seen a.plan.now a.rules.now a.found.now a.notes.now.events a.starved
