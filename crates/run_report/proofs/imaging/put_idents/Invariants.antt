use Rattle.std.proofs.Common.{◌≡◌, ◌++◌, take, flat_map}
use Rattle.run_report.specs.Imaging.{own_lines}
use Rattle.run_report.proofs.imaging.put_idents.Given as goal

abbrev pub invariant-loop-ident : goal.invariant-loop-ident
invariant-loop-ident l = l.out ≡ l.initial.out ++ flat_map own_lines (take l.ident-index l.idents)
