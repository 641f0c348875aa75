use Rattle.std.proofs.Common.{sym, subst, inl, inr}
use Rattle.uds_codec.specs.Grammar.{Reads}
use Rattle.uds_codec.proofs.Decodes.{reads}
use Rattle.uds_codec.proofs.reading.decode.Goals as goal

pub returns : goal.returns
returns c = elim c.read.ensures [
  | inl e ↦ inl e
  | inr e ↦ inr (subst (Reads c.args.bytes.now) (sym e) (reads c.args.bytes.now))
]
