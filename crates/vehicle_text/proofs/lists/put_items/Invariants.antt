use Rattle.vehicle_text.specs.Units.{data_in}
use Rattle.vehicle_text.proofs.Written.{IsPut}
use Rattle.vehicle_text.proofs.lists.put_items.Given as goal

abbrev pub invariant-loop-item : goal.invariant-loop-item
invariant-loop-item g l = IsPut (data_in g.F.Form.fields) g.F.Form.fits l.items l.item-index l.initial.out l.out
