use Rattle.flash_plan.proofs.Units.{accepted_read}
use Rattle.flash_plan.proofs.writing.put_units.Goals as goal

pub put_unit-requires : goal.put_unit-requires
put_unit-requires c = accepted_read c.args.units.now c.as_slice-unit-items.result.now c.loop-unit.unit-index c.unit-item.result c.requires c.as_slice-unit-items.ensures c.loop-unit-test.true c.unit-item.is
