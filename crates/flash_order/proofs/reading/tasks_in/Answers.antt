use Rattle.std.proofs.Common.{rules, ◌≡◌, ◌∙◌, ◌+◌, sym, ap, subst, [], ◌∷◌, ◌++◌, Ok, drop, length, arith, length-append}
use Rattle.std.proofs.lemmas.List.{drop_more}
use Rattle.serde_json.specs.View.{view, items_view}
use Rattle.flash_base.specs.Lists.{Each}
use Rattle.flash_order.specs.Orders.{task, tasks_from}
use Rattle.flash_order.specs.Promises.{IsTask}
use Rattle.flash_order.proofs.Steps.{behind, behind_one, each_more, task_is}
use Rattle.flash_order.proofs.reading.tasks_in.Goals as goal

pub loop-i-preserved : goal.loop-i-preserved
loop-i-preserved c =
    let i = c.loop-i.i in
    let t = c.in-Ok.task in
    let rest = items_view (drop (i + 1) c.args.list.now) in
    let found : c.push.new.self ≡ c.loop-i.found ++ t ∷ [] = search rules in
    let more = drop_more c.args.list.now i c.index-list-i.result c.loop-i-test.true in
    let step : drop i c.args.list.now ≡ c.index-list-i.result ∷ drop (i + 1) c.args.list.now = search (rules, more) in
    let is : task (view c.index-list-i.result) ≡ Ok t = search rules in
    record {
      is = c.loop-i.invariant.is
          ∙ ap (λ vs. behind c.loop-i.found (tasks_from i (items_view vs))) step
          ∙ ap (behind c.loop-i.found) (task_is i (view c.index-list-i.result) rest t is)
          ∙ sym (behind_one c.loop-i.found t (tasks_from (i + 1) rest))
          ∙ ap (λ f. behind f (tasks_from (i + 1) rest)) (sym found);
      count = omega (arith, ap length found, length-append c.loop-i.found (t ∷ []), c.loop-i.invariant.count);
      form = subst (Each IsTask) (sym found) (each_more IsTask c.loop-i.found t c.loop-i.invariant.form c.in-Ok.ensures.form);
    }
