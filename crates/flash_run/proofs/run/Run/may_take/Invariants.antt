use Rattle.flash_run.specs.Run.{told_seen}
use Rattle.flash_run.proofs.run.Run.may_take.Given as goal

abbrev pub ghost-may_take_in : goal.ghost-may_take_in
ghost-may_take_in a = told_seen a.plan.now a.rules.now a.found.now a.notes.now.events a.starved
