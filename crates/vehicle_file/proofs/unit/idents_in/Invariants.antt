use Rattle.std.proofs.Common.{◌≡◌, []}
use Rattle.serde_json.specs.View.{members_view}
use Rattle.vehicle_file.specs.Units.{idents_from}
use Rattle.vehicle_file.proofs.unit.idents_in.Given as goal

abbrev pub invariant-loop-name : goal.invariant-loop-name
invariant-loop-name l = idents_from [] (members_view l.map.entries) ≡ idents_from l.found (members_view l.name-iterator)
