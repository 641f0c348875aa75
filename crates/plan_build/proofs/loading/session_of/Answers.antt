use Rattle.plan_build.proofs.loading.session_of.Goals as goal

pub returns-in-Some-clause-read : goal.returns-in-Some-clause-read
returns-in-Some-clause-read g c = rw c.in-Some.is c.session_loaded.ensures.read
