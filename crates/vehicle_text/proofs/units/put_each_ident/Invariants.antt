use Rattle.vehicle_text.specs.Ranges.{FitsIdent}
use Rattle.vehicle_text.specs.Units.{ident_field}
use Rattle.vehicle_text.proofs.Written.{AreIn}
use Rattle.vehicle_text.proofs.units.put_each_ident.Given as goal

abbrev pub invariant-loop-ident : goal.invariant-loop-ident
invariant-loop-ident l = AreIn ident_field FitsIdent l.idents l.ident-index l.initial.out l.out
