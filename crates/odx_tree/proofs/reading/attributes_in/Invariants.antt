use Rattle.std.proofs.Common.{◌≡◌}
use Rattle.serde_json.specs.View.{members_view}
use Rattle.odx_tree.specs.Tree.{attributes}
use Rattle.odx_tree.proofs.Steps.{prepend}
use Rattle.odx_tree.proofs.reading.attributes_in.Given as goal

abbrev pub invariant-loop-name : goal.invariant-loop-name
invariant-loop-name l = attributes (members_view l.map.entries) ≡ prepend l.found (attributes (members_view l.name-iterator))
