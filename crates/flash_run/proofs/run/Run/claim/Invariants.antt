use Rattle.bay_replay.specs.Replays.{told_by}
use Rattle.flash_run.proofs.run.Run.claim.Given as goal

abbrev pub ghost-claim_in : goal.ghost-claim_in
ghost-claim_in a = told_by a.rules.now a.plan.now a.found.now a.notes.now.events
