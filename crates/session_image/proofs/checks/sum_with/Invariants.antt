use Rattle.std.proofs.Common.{◌≡◌, ◌+◌, ◌%◌, sum, take}
use Rattle.session_image.proofs.checks.sum_with.Given as goal

abbrev pub invariant-loop-byte : goal.invariant-loop-byte
invariant-loop-byte l = l.all ≡ (l.before + sum (take l.byte-index l.bytes)) % 65536
