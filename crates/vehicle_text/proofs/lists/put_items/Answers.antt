use Rattle.vehicle_text.specs.Units.{data_in}
use Rattle.vehicle_text.proofs.Written.{fits_end, put_end, put_more, put_none}
use Rattle.vehicle_text.proofs.lists.put_items.Goals as goal

pub loop-item-init : goal.loop-item-init
loop-item-init g c = put_none (data_in g.F.Form.fields) g.F.Form.fits c.args.items.now c.args.out.now

pub loop-item-preserved : goal.loop-item-preserved
loop-item-preserved g c =
    put_more (data_in g.F.Form.fields) g.F.Form.fits c.args.items.now c.loop-item.item-index c.item-item.result c.args.out.now c.loop-item.out c.object.new.out
    c.loop-item-test.true c.item-item.is c.loop-item.invariant c.in_ok-object.ensures.is c.in_ok-object.ensures.fits

pub returns-clause-is : goal.returns-clause-is
returns-clause-is g c = put_end (data_in g.F.Form.fields) g.F.Form.fits c.args.items.now c.loop-item.item-index c.args.out.now c.loop-item.out c.loop-item-test.false c.loop-item.invariant

pub returns-clause-fits : goal.returns-clause-fits
returns-clause-fits g c = fits_end (data_in g.F.Form.fields) g.F.Form.fits c.args.items.now c.loop-item.item-index c.args.out.now c.loop-item.out c.loop-item-test.false c.loop-item.invariant
