use Rattle.flash_run.specs.Run.{told_seen}
use Rattle.flash_run.proofs.run.Run.starve.Given as goal

abbrev pub ghost-starve_in : goal.ghost-starve_in
ghost-starve_in a = told_seen a.plan.now a.rules.now a.found.now a.notes.now.events a.starved
