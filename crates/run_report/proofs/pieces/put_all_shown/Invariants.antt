use Rattle.std.proofs.Common.{◌≡◌, ◌++◌, take, map}
use Rattle.run_report.specs.Forms.{shown_byte}
use Rattle.run_report.proofs.pieces.put_all_shown.Given as goal

abbrev pub invariant-loop-b : goal.invariant-loop-b
invariant-loop-b l = l.out ≡ l.initial.out ++ map shown_byte (take l.b-index l.bytes)
