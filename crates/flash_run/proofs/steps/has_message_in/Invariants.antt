use Rattle.flash_run.proofs.steps.has_message_in.Given as goal

abbrev pub ghost-has_message : goal.ghost-has_message
ghost-has_message g a = g.told
