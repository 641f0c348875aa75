use Rattle.std.proofs.Common.{◌≡◌}
use Rattle.serde_json.specs.View.{members_view}
use Rattle.vehicle_file.specs.Fields.{stranger}
use Rattle.vehicle_file.proofs.reading.stranger.Given as goal

abbrev pub invariant-loop-name : goal.invariant-loop-name
invariant-loop-name g l = stranger (g.M.Members.has l.table) (members_view l.map.entries) ≡ stranger (g.M.Members.has l.table) (members_view l.name-iterator)
