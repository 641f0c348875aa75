use Rattle.std.proofs.Common.{◌≡◌, ◌++◌, drop}
use Rattle.session_image.proofs.imaging.copied_ident.Given as goal

abbrev pub invariant-loop-value : goal.invariant-loop-value
invariant-loop-value l = l.values ++ drop l.value-index l.said ≡ l.said
