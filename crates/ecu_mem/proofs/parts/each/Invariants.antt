use Rattle.std.proofs.Common.{◌≡◌, drop}
use Rattle.ecu_mem.specs.Parts.{each_from}
use Rattle.ecu_mem.proofs.Steps.{prepend}
use Rattle.ecu_mem.proofs.parts.each.Given as goal

abbrev pub invariant-loop-i : goal.invariant-loop-i
invariant-loop-i g l = each_from 0 l.tag (g.R.Reader.reading l.reader) l.part-items ≡ prepend l.found (each_from l.i l.tag (g.R.Reader.reading l.reader) (drop l.i l.part-items))
