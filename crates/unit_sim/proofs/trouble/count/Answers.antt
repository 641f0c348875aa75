use Rattle.std.proofs.Common.{◌∙◌, ◌<◌, ◌≤◌, ap, arith, length, filter, rules}
use Rattle.std.proofs.lemmas.Fn.{filter_same}
use Rattle.unit_sim.specs.Acting.{lowered, remains}
use Rattle.unit_sim.proofs.Lists.{one_changed, all_changed}
use Rattle.unit_sim.proofs.trouble.count.Goals as goal

pub loop-i-preserved : goal.loop-i-preserved
loop-i-preserved c =
    let lt : c.loop-i.i < length c.args.troubles.now.items = omega arith in
    one_changed (lowered c.args.sid) _ c.args.troubles.now.items c.loop-i.i c.index_mut.result.now c.lower.new.trouble c.loop-i.invariant lt
    (c.lower.ensures ∙ ap (lowered c.args.sid) c.index_mut.ensures.value)

pub returns : goal.returns
returns c =
    let past : length c.args.troubles.now.items ≤ c.loop-i.i = omega arith in
    let kept = filter_same _ remains _ (λ x b f' is. search rules) _ _ c.retain.ensures.filtered in
    kept ∙ ap (filter remains) (all_changed (lowered c.args.sid) _ c.args.troubles.now.items c.loop-i.i c.loop-i.invariant past)
