use Rattle.std.proofs.Common.{◌≡◌, drop}
use Rattle.unit_model.specs.RegionTests.{apart_from, spec_extents}
use Rattle.vehicle_file.proofs.memory.apart_from.Given as goal

abbrev pub invariant-loop-s : goal.invariant-loop-s
invariant-loop-s l = apart_from (l.r.at, l.r.size) (spec_extents l.before) ≡ apart_from (l.r.at, l.r.size) (spec_extents (drop l.s-index l.before))
