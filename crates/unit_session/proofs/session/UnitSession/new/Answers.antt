use Rattle.std.proofs.Common.{true, false, arith}
use Rattle.std.proofs.lemmas.Bool.{false≢true}
use Rattle.unit_session.proofs.Keeps.{start_of}
use Rattle.unit_session.proofs.session.UnitSession.new.Goals as goal

pub returns-then-begun-clause-of : goal.returns-then-begun-clause-of
returns-then-begun-clause-of c = λ u ok. record { stage = tt; known = tt; awaits = λ w. absurd (false≢true w); pendings = omega arith; busies = omega arith; few = start_of u true ok }

pub returns-else-begun-clause-of : goal.returns-else-begun-clause-of
returns-else-begun-clause-of c = λ u ok. record { stage = omega arith; known = tt; awaits = λ w. absurd (false≢true w); pendings = omega arith; busies = omega arith; few = start_of u false ok }
