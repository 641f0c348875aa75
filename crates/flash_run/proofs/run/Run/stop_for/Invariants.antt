use Rattle.flash_run.specs.Run.{told_seen}
use Rattle.flash_run.proofs.run.Run.stop_for.Given as goal

abbrev pub ghost-has_faulted_in : goal.ghost-has_faulted_in
ghost-has_faulted_in a = told_seen a.plan.now a.rules.now a.found.now a.notes.now.events a.starved
