use Rattle.flash_run.specs.Run.{told_seen}
use Rattle.flash_run.proofs.run.Run.take.Given as goal

abbrev pub ghost-take_in : goal.ghost-take_in
ghost-take_in a = told_seen a.plan.now a.rules.now a.found.now a.notes.now.events a.starved
