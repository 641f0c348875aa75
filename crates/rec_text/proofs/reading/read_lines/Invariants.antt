use Rattle.std.proofs.Common.{◌≡◌, ◌-◌, ◌≤◌, drop, length}
use Rattle.rec_text.specs.Lines.{lines}
use Rattle.rec_text.specs.Reading.{steps}
use Rattle.rec_text.proofs.reading.read_lines.Given as goal

abbrev pub invariant-loop-at : goal.invariant-loop-at
invariant-loop-at g l = record {
  same : steps g.R.LineReader.step l.fn.reader 0 (lines l.text) ≡ steps g.R.LineReader.step l.reader l.n (lines (drop l.at l.text));
  within : l.at ≤ length l.text;
  counted : l.n ≤ l.at;
  holds : g.R.LineReader.holds l.reader l.n;
}

abbrev pub decreases-loop-at : goal.decreases-loop-at
decreases-loop-at g l = length l.text - l.at
