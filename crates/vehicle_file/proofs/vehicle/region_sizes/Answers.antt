use Rattle.std.proofs.Common.{◌≤◌, ap, arith, drop, length}
use Rattle.std.proofs.lemmas.List.{drop_all}
use Rattle.vehicle_file.specs.Fields.{LAST_COUNT}
use Rattle.vehicle_file.specs.Files.{region_sizes}
use Rattle.vehicle_file.proofs.Steps.{capped_whole}
use Rattle.vehicle_file.proofs.vehicle.region_sizes.Goals as goal

pub returns : goal.returns
returns c =
    let past : length c.args.regions.now ≤ c.loop-region.region-index = omega arith in
    capped_whole LAST_COUNT c.loop-region.all (region_sizes c.args.regions.now) (region_sizes (drop c.loop-region.region-index c.args.regions.now))
    c.loop-region.invariant.fits c.loop-region.invariant.same (ap region_sizes (drop_all c.loop-region.region-index c.args.regions.now past))
