use Rattle.std.proofs.Common.{rules, ◌≡◌, ◌∙◌, sym, ap, [], ◌∷◌, ◌++◌, Some, string_bytes, ℕ, List}
use Rattle.serde_json.specs.Find.{as_str}
use Rattle.serde_json.specs.View.{view, members_view}
use Rattle.odx_tree.specs.Tree.{attributes}
use Rattle.odx_tree.proofs.Steps.{prepend, prepend-one, attribute_is}
use Rattle.odx_tree.proofs.reading.attributes_in.Goals as goal

-- src/reading.rt:56:5
pub loop-name-preserved : goal.loop-name-preserved
loop-name-preserved c =
    let rest = members_view c.next.new.self in
    let pair : List ℕ × List ℕ = (string_bytes c.in-Some.name.now, c.in-Some-as_str.text.now) in
    let step : c.loop-name.name-iterator ≡ (c.in-Some.name.now, c.in-Some.value.now) ∷ c.next.new.self = search rules in
    let has : as_str (view c.in-Some.value.now) ≡ Some c.in-Some-as_str.text.now = search rules in
    let found : c.push.new.self ≡ c.loop-name.found ++ pair ∷ [] = search rules in
    c.loop-name.invariant
    ∙ ap (λ es. prepend c.loop-name.found (attributes (members_view es))) step
    ∙ ap (prepend c.loop-name.found) (attribute_is (string_bytes c.in-Some.name.now) (view c.in-Some.value.now) rest c.in-Some-as_str.text.now has)
    ∙ sym (prepend-one c.loop-name.found pair (attributes rest))
    ∙ ap (λ f. prepend f (attributes rest)) (sym found)
