use Rattle.flash_run.proofs.steps.take_in.Given as goal

abbrev pub ghost-take : goal.ghost-take
ghost-take g a = g.told
