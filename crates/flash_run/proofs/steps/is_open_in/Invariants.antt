use Rattle.flash_run.proofs.steps.is_open_in.Given as goal

abbrev pub ghost-is_open : goal.ghost-is_open
ghost-is_open g a = g.told
