use Rattle.std.proofs.Common.{rules, ◌≡◌, ◌∙◌, ◌≤◌, ◌<◌, ◌+◌, ◌-◌, ℕ, List, inr, subst, sym, arith, le_trans, drop, length}
use Rattle.std.proofs.lemmas.Result.{err_from_is_err_and}
use Rattle.std.proofs.lemmas.List.{drop-drop, length-drop}
use Rattle.flash_base.specs.Lists.{Each}
use Rattle.flash_order.specs.Promises.{IsTask}
use Rattle.flash_order.specs.declared.order.Task.{Task}
use Rattle.plan_build.specs.Fetched.{came}
use Rattle.plan_build.specs.Loading.{AreParts}
use Rattle.plan_build.proofs.Batches.{drafts_on, each_drop, so_on, stops_after, taken_off, taken_on}
use Rattle.plan_build.proofs.Drafts.{AreSo}
use Rattle.plan_build.proofs.Lists.{nothing_left, parts_done, LeadsParts}
use Rattle.plan_build.proofs.Periods.{earlier, later}
use Rattle.plan_build.proofs.task.all_parts.Goals as goal

pub next_batch-requires : goal.next_batch-requires
next_batch-requires g c =
    let ts = c.args.tasks.now in
    let n : ℕ = c.loop-n.n in
    let many : length (drop n ts) ≡ length ts - n = length-drop n ts in (
      search rules,
      (
        subst (λ (l : List Task). 0 < length l) (sym c.tasks_from.ensures) (omega (arith, many, c.loop-n-test.true)),
        (subst (Each IsTask) (sym c.tasks_from.ensures) c.loop-n.invariant.tasks, c.requires.whole),
      ),
    )

pub take_parts-requires : goal.take_parts-requires
take_parts-requires g c =
    let ts = c.args.tasks.now in
    let n : ℕ = c.loop-n.n in
    let many : length (drop n ts) ≡ length ts - n = length-drop n ts in
    let within : length c.in_ok-given.given.parts.items ≤ length (drop n ts) = subst (λ (l : List Task). length c.in_ok-given.given.parts.items ≤ length l) c.tasks_from.ensures c.in_ok-given.ensures.within in
    omega (arith, many, within, c.loop-n.invariant.within, c.requires.few)

pub returns-in_err-room-clause-read : goal.returns-in_err-room-clause-read
returns-in_err-room-clause-read g c =
    let p = err_from_is_err_and c.from_residual-in_err-room.result c.from_residual-in_err-room.ensures.1 in
    let i = c.loop-n.invariant in
    let given = c.in_ok-given.ensures in
    let rs = c.in_ok-given.given.parts.items in
    rw (p.1, p.2) (λ q h.
    taken_off (came q) c.args.name.now c.args.catalogue.now c.args.tasks.now rs c.loop-n.n c.loop-n.room c.loop-n.all c.take_parts.new.all c.in_err-room.field-0.0 c.in_err-room.ensures
    (subst (λ (l : List Task). AreParts (came q) c.args.name.now c.args.catalogue.now l rs) c.tasks_from.ensures (given.read q (later h i.keeps i.never_falls)))
    (i.read q (earlier h given.never_falls)))

pub returns-in-Some-clause-read : goal.returns-in-Some-clause-read
returns-in-Some-clause-read g c =
    let i = c.loop-n.invariant in
    let given = c.in_ok-given.ensures in
    let rs = c.in_ok-given.given.parts.items in
    λ q h.
    stops_after (came q) c.args.name.now c.args.catalogue.now c.args.tasks.now rs c.loop-n.n c.loop-n.room c.loop-n.all c.take_parts.new.all c.in_ok-room.room c.tasks_from.result.now c.in_ok-given.given.stopped c.in-Some.fault
    c.tasks_from.ensures c.in-Some.is (given.stopped q (later h i.keeps i.never_falls)) c.in_ok-room.ensures
    (subst (λ (l : List Task). AreParts (came q) c.args.name.now c.args.catalogue.now l rs) c.tasks_from.ensures (given.read q (later h i.keeps i.never_falls)))
    (i.read q (earlier h given.never_falls))

pub loop-n-preserved : goal.loop-n-preserved
loop-n-preserved g c =
    let i = c.loop-n.invariant in
    let given = c.in_ok-given.ensures in
    let parts = c.in_ok-given.given.parts in
    let rs = parts.items in
    let ts = c.args.tasks.now in
    let n : ℕ = c.loop-n.n in
    let more = c.take_parts.new.all in
    let room = c.in_ok-room.room in
    let count : n + length rs ≡ n + c.len-count.result = omega (arith, parts.ok.0, c.len-count.ensures) in
    let many : length (drop n ts) ≡ length ts - n = length-drop n ts in
    let within : length rs ≤ length (drop n ts) = subst (λ (l : List Task). length rs ≤ length l) c.tasks_from.ensures given.within in
    record {
      keeps = given.keeps ∙ i.keeps;
      never_falls = le_trans i.never_falls given.never_falls;
      read = λ q h.
          subst (λ (m : ℕ). LeadsParts (came q) c.args.name.now c.args.catalogue.now ts more m room (drop m ts)) count
          (taken_on (came q) c.args.name.now c.args.catalogue.now ts rs n c.loop-n.room c.loop-n.all more room c.in_ok-room.ensures
          (subst (λ (l : List Task). AreParts (came q) c.args.name.now c.args.catalogue.now l rs) c.tasks_from.ensures (given.read q (later h i.keeps i.never_falls)))
          (i.read q (earlier h given.never_falls)));
      so = subst (λ (m : ℕ). AreSo m more) count (so_on c.args.name.now rs n c.loop-n.room room c.loop-n.all more c.in_ok-room.ensures i.so);
      within = omega (arith, count, many, within, i.within);
      drafts = drafts_on c.args.name.now rs n c.loop-n.room room c.loop-n.all more c.in_ok-room.ensures i.drafts given.drafts;
      tasks = subst (Each IsTask) (drop-drop c.len-count.result n ts) (each_drop IsTask (drop n ts) c.len-count.result i.tasks);
    }

pub returns-clause-read : goal.returns-clause-read
returns-clause-read g c =
    let ts = c.args.tasks.now in
    let end : length ts ≤ c.loop-n.n = omega (arith, c.loop-n-test.false) in
    λ q h.
    inr (parts_done (came q) c.args.name.now c.args.catalogue.now ts c.loop-n.all c.loop-n.n c.loop-n.room
    (subst (λ (l : List Task). LeadsParts (came q) c.args.name.now c.args.catalogue.now ts c.loop-n.all c.loop-n.n c.loop-n.room l) (nothing_left ts c.loop-n.n end) (c.loop-n.invariant.read q h)))
