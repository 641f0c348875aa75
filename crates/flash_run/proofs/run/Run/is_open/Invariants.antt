use Rattle.flash_run.specs.Run.{told_seen}
use Rattle.flash_run.proofs.run.Run.is_open.Given as goal

abbrev pub ghost-is_open_in : goal.ghost-is_open_in
ghost-is_open_in a = told_seen a.plan.now a.rules.now a.found.now a.notes.now.events a.starved
