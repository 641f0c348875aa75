use Rattle.std.proofs.Common.{◌∙◌}
use Rattle.plan_build.proofs.Lists.{copy_on}
use Rattle.plan_build.proofs.copies.copy_of_names.Goals as goal

pub loop-i-preserved : goal.loop-i-preserved
loop-i-preserved c =
    copy_on c.args.names.now c.loop-i.copy c.push.new.self c.loop-i.i c.at.result.now c.in_ok-from_str.field-0 c.at.ensures (c.in_ok-from_str.ensures ∙ c.as_str.ensures) c.in_ok-push.ensures.ok c.loop-i.invariant
