use Rattle.std.proofs.Common.{◌≡◌, ◌++◌, drop}
use Rattle.plan_build.proofs.copies.copy_of_idents.Given as goal

abbrev pub invariant-loop-wanted : goal.invariant-loop-wanted
invariant-loop-wanted l = l.copy ++ drop l.wanted-index l.idents ≡ l.idents
