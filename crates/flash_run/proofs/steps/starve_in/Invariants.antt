use Rattle.flash_run.proofs.steps.starve_in.Given as goal

abbrev pub ghost-starve : goal.ghost-starve
ghost-starve g a = g.told
