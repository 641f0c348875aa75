use Rattle.std.proofs.Common.{ap}
use Rattle.flash_bay.specs.Recording.{records_next}
use Rattle.flash_workers.proofs.Steps.{record_due}
use Rattle.flash_workers.proofs.unit_step.complete.Goals as goal

pub commit-requires-clause-due : goal.commit-requires-clause-due
commit-requires-clause-due g c = record_due c.args.bay.now.run c.args.plan.now c.args.unit c.requires.plan c.requires.within (ap records_next c.requires.due)
