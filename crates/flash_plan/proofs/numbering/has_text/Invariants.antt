use Rattle.std.proofs.Common.{◌≡◌, drop}
use Rattle.flash_plan.specs.Numbering.{has_text}
use Rattle.flash_plan.proofs.numbering.has_text.Given as goal

abbrev pub invariant-loop-i : goal.invariant-loop-i
invariant-loop-i l = has_text l.names l.text ≡ has_text (drop l.i l.names) l.text
