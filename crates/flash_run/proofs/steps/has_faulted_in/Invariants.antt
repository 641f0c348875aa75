use Rattle.flash_run.proofs.steps.has_faulted_in.Given as goal

abbrev pub ghost-has_faulted : goal.ghost-has_faulted
ghost-has_faulted g a = g.told
