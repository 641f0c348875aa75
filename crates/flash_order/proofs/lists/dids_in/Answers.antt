use Rattle.std.proofs.Common.{rules, ◌≡◌, ◌∙◌, ◌<◌, sym, ap, subst, [], ◌∷◌, ◌++◌, Some, string_bytes, ℕ, List}
use Rattle.serde_json.specs.View.{view, members_view}
use Rattle.flash_base.specs.Lists.{Each}
use Rattle.flash_order.specs.Fields.{address}
use Rattle.flash_order.specs.Lists.{dids_of}
use Rattle.flash_order.proofs.Steps.{joined, joined_one, did_is, each_more}
use Rattle.flash_order.proofs.lists.dids_in.Goals as goal

pub loop-name-preserved : goal.loop-name-preserved
loop-name-preserved c =
    let rest = members_view c.next.new.self in
    let pair : List ℕ × ℕ = (string_bytes c.in-Some.name.now, c.in-Some-address_of.did) in
    let step : c.loop-name.name-iterator ≡ (c.in-Some.name.now, c.in-Some.value.now) ∷ c.next.new.self = search rules in
    let has : address (view c.in-Some.value.now) ≡ Some c.in-Some-address_of.did = search rules in
    let found : c.push.new.self ≡ c.loop-name.found ++ pair ∷ [] = search rules in
    let low : c.in-Some-address_of.did < 65536 = search rules in
    record {
      is = c.loop-name.invariant.is
          ∙ ap (λ es. joined c.loop-name.found (dids_of (members_view es))) step
          ∙ ap (joined c.loop-name.found) (did_is (string_bytes c.in-Some.name.now) (view c.in-Some.value.now) rest c.in-Some-address_of.did has)
          ∙ sym (joined_one c.loop-name.found pair (dids_of rest))
          ∙ ap (λ f. joined f (dids_of rest)) (sym found);
      small = subst (Each (λ d. d.1 < 65536)) (sym found) (each_more (λ d. d.1 < 65536) c.loop-name.found pair c.loop-name.invariant.small low);
    }
