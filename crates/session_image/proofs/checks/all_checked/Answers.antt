use Rattle.std.proofs.Common.{◌∙◌, ◌+◌, ap, refl, subst, drop}
use Rattle.ecu_mem.specs.Bounds.{IsCheck}
use Rattle.flash_base.specs.Lists.{Each}
use Rattle.session_image.specs.Checks.{checked, all_checked}
use Rattle.session_image.proofs.Joins.{joined, drop_at, given, next}
use Rattle.session_image.proofs.checks.all_checked.Goals as goal

pub loop-check-preserved : goal.loop-check-preserved
loop-check-preserved c =
    let ps = c.args.pieces.now in
    let cs = c.args.checks.now in
    let i = c.loop-check.check-index in
    let x = c.check-item.result in
    let step = drop_at cs i x c.loop-check-test.true c.check-item.is in
    record {
      are = next (all_checked ps) (all_checked ps) x (checked ps x) (drop (i + 1) cs) c.in_ok-one.one c.loop-check.all c.push.new.self (all_checked ps cs) (λ r. refl) (given c.in_ok-one.ensures) c.in_ok-push.ensures.ok
          (c.loop-check.invariant.are ∙ ap (λ l. joined c.loop-check.all (all_checked ps l)) step);
      rest = (subst (Each IsCheck) step c.loop-check.invariant.rest).1;
    }
