use Rattle.flash_plan.proofs.Tasks.{draft_of-get}
use Rattle.flash_plan.proofs.naming.draft_at.Goals as goal

pub returns : goal.returns
returns c = draft_of-get c.args.drafts.now c.args.n c.index-drafts-n.result c.requires c.index-drafts-n.is
