use Rattle.flash_run.proofs.steps.conversation_in.Given as goal

abbrev pub ghost-conversation : goal.ghost-conversation
ghost-conversation g a = g.told
