use Rattle.std.proofs.Common.{◌≡◌}
use Rattle.unit_session.specs.Session.{has_mark, open_from}
use Rattle.unit_session.proofs.onward.first_open.Given as goal

abbrev pub invariant-loop-n : goal.invariant-loop-n
invariant-loop-n l = open_from l.unit (has_mark l.marks) l.n ≡ open_from l.unit (has_mark l.marks) l.from
