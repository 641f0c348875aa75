use Rattle.std.proofs.Common.{rules, arith, ◌≡◌, true, is_some, Some, codes, ◌<◌, ◌≤◌, ◌-◌}
use Rattle.serde_json.specs.Data.{depth as nesting, items_depth}
use Rattle.serde_json.specs.Find.{get, as_object, as_array}
use Rattle.serde_json.specs.View.{view, items_view}
use Rattle.odx_tree.proofs.Steps.{element-object, depth-get, depth-item, depth-as_array}
use Rattle.odx_tree.proofs.reading.+tree.Goals as goal

-- src/reading.rt:90:16
pub element_in-returns-in_err-kids : goal.element_in-returns-in_err-kids
element_in-returns-in_err-kids t c =
    let is : is_some (as_object (view c.args.value.now)) ≡ true = search rules in
    let whole = element-object (view c.args.value.now) is in
    search (rules, whole)

-- src/reading.rt:79:1
pub element_in-returns : goal.element_in-returns
element_in-returns t c =
    let is : is_some (as_object (view c.args.value.now)) ≡ true = search rules in
    let whole = element-object (view c.args.value.now) is in
    search (rules, whole)

-- src/reading.rt:121:15
pub elements_in-element_in-requires : goal.elements_in-element_in-requires
elements_in-element_in-requires t c =
    let within = depth-item c.args.list.now c.loop-i.i c.index-list-i.result c.loop-i-test.true in
    let deep : nesting (view c.index-list-i.result) ≤ c.args.depth - 1 = search (rules, within) in
    (search (rules, c.decreases), deep)

-- src/reading.rt:109:23
pub kids_in-elements_in-requires : goal.kids_in-elements_in-requires
kids_in-elements_in-requires t c =
    let has : get (codes "kids") (view c.args.value.now) ≡ Some (view c.in-Some.found.now) = search rules in
    let is : as_array (view c.in-Some.found.now) ≡ Some (items_view c.as_slice.result.now) = search rules in
    let one = depth-get (codes "kids") (view c.args.value.now) (view c.in-Some.found.now) has in
    let two = depth-as_array (view c.in-Some.found.now) (items_view c.as_slice.result.now) is in
    let deep : items_depth (items_view c.as_slice.result.now) < c.args.depth - 1 = omega (arith, one, two, c.requires) in
    (omega (arith, deep, c.decreases), deep)
