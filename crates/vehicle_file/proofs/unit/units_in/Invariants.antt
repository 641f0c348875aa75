use Rattle.std.proofs.Common.{◌≡◌, [], drop}
use Rattle.serde_json.specs.View.{items_view}
use Rattle.vehicle_file.specs.Units.{units_from}
use Rattle.vehicle_file.proofs.unit.units_in.Given as goal

abbrev pub invariant-loop-i : goal.invariant-loop-i
invariant-loop-i l = units_from [] 0 (items_view l.list) ≡ units_from l.found l.i (items_view (drop l.i l.list))
