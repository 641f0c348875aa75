use Rattle.std.proofs.Common.{◌≡◌, ◌++◌, drop}
use Rattle.run_report.specs.Imaging.{segment_lines}
use Rattle.run_report.proofs.imaging.put_segments.Given as goal

abbrev pub invariant-loop-i : goal.invariant-loop-i
invariant-loop-i l = l.out ++ segment_lines l.i (drop l.i l.segments) ≡ l.initial.out ++ segment_lines 0 l.segments
