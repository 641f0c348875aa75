use Rattle.plan_build.proofs.making.made.Goals as goal

pub returns-in-Some-clause-is : goal.returns-in-Some-clause-is
returns-in-Some-clause-is c = rw (c.in-Session.is, c.in-Some.is) c.session_part.ensures.is
