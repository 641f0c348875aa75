use Rattle.run_report.proofs.text.put_outcome.Goals as goal

pub returns-in-IdentMismatch : goal.returns-in-IdentMismatch
returns-in-IdentMismatch c = rw c.in-IdentMismatch.is c.put_named.ensures

pub returns-in-PendingLimit : goal.returns-in-PendingLimit
returns-in-PendingLimit c = rw c.in-PendingLimit.is c.put_coded-in-PendingLimit.ensures
