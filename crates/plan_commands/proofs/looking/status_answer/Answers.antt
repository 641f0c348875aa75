use Rattle.plan_commands.proofs.Journals.{only_reads}
use Rattle.plan_commands.proofs.looking.status_answer.Goals as goal

pub returns-in-Err-clause-reads : goal.returns-in-Err-clause-reads
returns-in-Err-clause-reads g c = only_reads (g.S.Shop.history c.args.shop.now)
