use Rattle.std.proofs.Common.{◌≡◌, ◌-◌, drop, length}
use Rattle.session_image.specs.Files.{is_among}
use Rattle.session_image.proofs.files.is_among.Given as goal

abbrev pub invariant-loop-i : goal.invariant-loop-i
invariant-loop-i l = is_among l.name l.names ≡ is_among l.name (drop l.i l.names)

abbrev pub decreases-loop-i : goal.decreases-loop-i
decreases-loop-i l = length l.names - l.i
