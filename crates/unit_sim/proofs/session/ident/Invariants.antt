use Rattle.std.proofs.Common.{◌≡◌, drop}
use Rattle.unit_model.specs.Unit.{ident_of}
use Rattle.unit_sim.proofs.session.ident.Given as goal

abbrev pub invariant-loop-one : goal.invariant-loop-one
invariant-loop-one l = ident_of (drop l.one-index l.idents) l.did ≡ ident_of l.idents l.did
