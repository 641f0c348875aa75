use Rattle.std.proofs.Common.{◌≡◌, ◌+◌, ◌*◌, drop}
use Rattle.serde_json.specs.View.{items_view}
use Rattle.odx_tree.specs.Tree.{elements}
use Rattle.odx_tree.proofs.Steps.{prepend}
use Rattle.odx_tree.proofs.reading.+tree.Given as goal

abbrev pub decreases-element_in : goal.decreases-element_in
decreases-element_in l = 3 * l.depth + 2

abbrev pub decreases-kids_in : goal.decreases-kids_in
decreases-kids_in l = 3 * l.depth + 1

abbrev pub decreases-elements_in : goal.decreases-elements_in
decreases-elements_in l = 3 * l.depth + 3

abbrev pub invariant-elements_in-loop-i : goal.invariant-elements_in-loop-i
invariant-elements_in-loop-i l = elements 0 (items_view l.list) ≡ prepend l.found.items (elements l.i (items_view (drop l.i l.list)))
