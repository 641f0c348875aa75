use Rattle.std.proofs.Common.{◌++◌, flat_map, take}
use Rattle.sha2.specs.Hashers.{Holds256}
use Rattle.flash_plan.specs.Canonical.{unit_bytes}
use Rattle.flash_plan.proofs.Units.{accepted_read}
use Rattle.flash_plan.proofs.Writes.{fed_more, fed_whole}
use Rattle.flash_plan.proofs.digesting.feed_units.Goals as goal

pub feed_unit-requires : goal.feed_unit-requires
feed_unit-requires c = accepted_read c.args.units.now c.as_slice-unit-items.result.now c.loop-unit.unit-index c.unit-item.result c.requires c.as_slice-unit-items.ensures c.loop-unit-test.true c.unit-item.is

pub loop-unit-preserved : goal.loop-unit-preserved
loop-unit-preserved c =
    let xs = c.as_slice-unit-items.result.now in
    λ m h.
    fed_more (Holds256 c.feed_unit.new.hasher) unit_bytes m xs c.loop-unit.unit-index c.unit-item.result c.loop-unit-test.true c.unit-item.is
    (c.in_ok-feed_unit.ensures (m ++ flat_map unit_bytes (take c.loop-unit.unit-index xs)) (c.loop-unit.invariant m h))
