use Rattle.std.proofs.Common.{◌≡◌, ◌++◌, drop}
use Rattle.session_image.proofs.imaging.add_idents.Given as goal

abbrev pub invariant-loop-ident : goal.invariant-loop-ident
invariant-loop-ident l = l.own ++ drop l.ident-index l.more ≡ l.fn.own ++ l.more
