use Rattle.std.proofs.Common.{◌∙◌, ◌<◌, ◌+◌, ℕ, refl, arith, le_trans, length, drop}
use Rattle.flash_order.specs.Promises.{IsTask}
use Rattle.plan_build.specs.Fetched.{came}
use Rattle.plan_build.proofs.Batches.{count_more, each_job, loaded_one_more, one_job_more}
use Rattle.plan_build.proofs.Lists.{drop_at}
use Rattle.plan_build.proofs.Periods.{earlier, later}
use Rattle.plan_build.proofs.batch.read_batch.Goals as goal

pub loop-i-preserved : goal.loop-i-preserved
loop-i-preserved g c =
    let i = c.loop-i.invariant in
    let one = c.in-Ok.ensures in
    let ts = c.args.tasks.now in
    let n : ℕ = c.loop-i.i in
    let t = c.index-tasks-i.result in
    let js = c.loop-i.jobs.items in
    let more = c.push.new.self.items in
    let pushed = c.in_ok-push-in-Ok.ensures.items in
    let within : n < length ts = omega (arith, c.loop-i-test.true, c.min-i-end.ensures) in
    record {
      keeps = one.keeps ∙ i.keeps;
      never_falls = le_trans i.never_falls one.never_falls;
      read = λ q h.
          loaded_one_more (came q) c.args.name.now c.args.catalogue.now ts (drop (n + 1) ts) js more _ n t pushed i.count (drop_at ts n t within c.index-tasks-i.is) refl
          (one.read q (later h i.keeps i.never_falls)) (i.read q (earlier h one.never_falls));
      jobs = one_job_more c.args.catalogue.now js more _ pushed i.jobs (each_job IsTask ts n t c.requires.tasks within c.index-tasks-i.is, one.ready);
      count = count_more js more _ n pushed i.count;
      first = λ h. absurd (omega (arith, h));
    }
