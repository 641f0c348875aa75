use Rattle.flash_run.proofs.steps.may_take_in.Given as goal

abbrev pub ghost-may_take : goal.ghost-may_take
ghost-may_take g a = g.told
