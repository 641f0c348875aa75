use Rattle.vehicle_text.specs.Ranges.{FitsIdent}
use Rattle.vehicle_text.specs.Units.{ident_field}
use Rattle.vehicle_text.proofs.Written.{in_end, in_fits, in_more, in_none}
use Rattle.vehicle_text.proofs.units.put_each_ident.Goals as goal

pub loop-ident-init : goal.loop-ident-init
loop-ident-init c = in_none ident_field FitsIdent c.args.idents.now c.args.out.now

pub loop-ident-preserved : goal.loop-ident-preserved
loop-ident-preserved c =
    in_more ident_field FitsIdent c.args.idents.now c.loop-ident.ident-index c.ident-item.result c.args.out.now c.loop-ident.out c.put_ident.new.out
    c.loop-ident-test.true c.ident-item.is c.loop-ident.invariant c.in_ok-put_ident.ensures.is c.in_ok-put_ident.ensures.fits

pub returns-clause-is : goal.returns-clause-is
returns-clause-is c = in_end ident_field FitsIdent c.args.idents.now c.loop-ident.ident-index c.args.out.now c.loop-ident.out c.loop-ident-test.false c.loop-ident.invariant

pub returns-clause-fits : goal.returns-clause-fits
returns-clause-fits c = in_fits ident_field FitsIdent c.args.idents.now c.loop-ident.ident-index c.args.out.now c.loop-ident.out c.loop-ident-test.false c.loop-ident.invariant
