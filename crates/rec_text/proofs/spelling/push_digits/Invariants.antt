use Rattle.std.proofs.Common.{◌≡◌, ◌++◌, take}
use Rattle.rec_text.specs.Spelling.{digits_of}
use Rattle.rec_text.proofs.spelling.push_digits.Given as goal

abbrev pub invariant-loop-b : goal.invariant-loop-b
invariant-loop-b l = l.text ≡ l.initial.text ++ digits_of (take l.b-index l.bytes)
