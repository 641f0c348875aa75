use Rattle.std.proofs.Common.{◌≡◌, [], drop}
use Rattle.serde_json.specs.View.{items_view}
use Rattle.vehicle_file.specs.Fields.{entries_from}
use Rattle.vehicle_file.proofs.reading.entries.Given as goal

abbrev pub invariant-loop-i : goal.invariant-loop-i
invariant-loop-i g l = entries_from (g.R.Reader.reading l.reader) [] 0 (items_view l.list) ≡ entries_from (g.R.Reader.reading l.reader) l.found l.i (items_view (drop l.i l.list))
