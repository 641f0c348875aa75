use Rattle.std.proofs.Common.{◌≡◌, [], drop}
use Rattle.serde_json.specs.View.{items_view}
use Rattle.vehicle_file.specs.Units.{regions_from}
use Rattle.vehicle_file.proofs.memory.regions_in.Given as goal

abbrev pub invariant-loop-i : goal.invariant-loop-i
invariant-loop-i l = regions_from [] 0 (items_view l.list) ≡ regions_from l.found l.i (items_view (drop l.i l.list))
