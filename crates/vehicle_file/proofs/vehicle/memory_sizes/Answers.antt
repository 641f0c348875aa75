use Rattle.std.proofs.Common.{◌≤◌, ap, arith, drop, length}
use Rattle.std.proofs.lemmas.List.{drop_all}
use Rattle.vehicle_file.specs.Fields.{LAST_COUNT}
use Rattle.vehicle_file.specs.Files.{memory_sizes}
use Rattle.vehicle_file.proofs.Steps.{capped_whole}
use Rattle.vehicle_file.proofs.vehicle.memory_sizes.Goals as goal

pub returns : goal.returns
returns c =
    let past : length c.args.units.now ≤ c.loop-unit.unit-index = omega arith in
    capped_whole LAST_COUNT c.loop-unit.all (memory_sizes c.args.units.now) (memory_sizes (drop c.loop-unit.unit-index c.args.units.now))
    c.loop-unit.invariant.fits c.loop-unit.invariant.same (ap memory_sizes (drop_all c.loop-unit.unit-index c.args.units.now past))
