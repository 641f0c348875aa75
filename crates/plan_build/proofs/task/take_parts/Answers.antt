use Rattle.std.proofs.Common.{◌≡◌, ◌∙◌, ◌∷◌, ℕ, suc, List, inr, Result, Ok, Err, ap, arith, length, subst, sym}
use Rattle.std.proofs.lemmas.Result.{err_from_is_err_and}
use Rattle.std.specs.Vec.Iter.{into_iter_items}
use Rattle.flash_plan.specs.Plan.{size_of}
use Rattle.flash_plan.specs.declared.unit.Segment.{Segment}
use Rattle.plan_build.specs.Answers.{just}
use Rattle.plan_build.specs.Loading.{taken}
use Rattle.plan_build.specs.Tasks.{room_after}
use Rattle.plan_build.specs.declared.built.Part.{Part}
use Rattle.plan_build.specs.declared.fault.BuildFault.{BuildFault}
use Rattle.plan_build.proofs.Batches.{room_stops, take_more, take_stops}
use Rattle.plan_build.proofs.Steps.{Or}
use Rattle.plan_build.proofs.task.take_parts.Goals as goal

pub returns-in_err-part : goal.returns-in_err-part
returns-in_err-part c =
    let p = err_from_is_err_and c.from_residual.result c.from_residual.ensures.1 in
    let rest = into_iter_items c.next.new.self in
    let same = ap (taken c.args.name.now c.args.first c.args.room c.args.all.now) c.into_iter-rest.ensures.rest in
    rw (p.1, p.2) (inr (take_stops c.args.name.now c.loop-part.number c.loop-part.left c.loop-part.all (into_iter_items c.loop-part.rest) rest
    (taken c.args.name.now c.args.first c.args.room c.args.all.now c.args.parts.items) c.in_err-part.field-0.0 (c.in-Some.ensures.items ∙ ap (λ (y : Result Part BuildFault). y ∷ rest) c.in_err-part.was)
    (sym same ∙ c.loop-part.invariant.taken)))

pub returns-in_err-left : goal.returns-in_err-left
returns-in_err-left c =
    let p = err_from_is_err_and c.from_residual-in_err-left.result c.from_residual-in_err-left.ensures.1 in
    let rest = into_iter_items c.next.new.self in
    let same = ap (taken c.args.name.now c.args.first c.args.room c.args.all.now) c.into_iter-rest.ensures.rest in
    let e = c.in_err-left.field-0.0 in
    rw (p.1, p.2) (room_stops c.args.name.now c.loop-part.number c.loop-part.left c.loop-part.all (into_iter_items c.loop-part.rest) rest
    (taken c.args.name.now c.args.first c.args.room c.args.all.now c.args.parts.items) c.in_ok-part.part e (c.in-Some.ensures.items ∙ ap (λ (y : Result Part BuildFault). y ∷ rest) c.in_ok-part.was)
    (subst (λ (ss : List Segment). Or {A = ℕ} (Err e) (just (room_after c.args.name.now c.loop-part.left (size_of ss)))) c.as_slice.ensures c.in_err-left.ensures)
    (sym same ∙ c.loop-part.invariant.taken))

pub loop-part-preserved : goal.loop-part-preserved
loop-part-preserved c =
    let i = c.loop-part.invariant in
    let rest = into_iter_items c.next.new.self in
    let all = into_iter_items c.into_iter-rest.result in
    let left = c.in_ok-left.left in
    let fewer : length (into_iter_items c.loop-part.rest) ≡ suc (length rest) = ap length c.in-Some.ensures.items in
    record {
      few = omega (arith, i.few, fewer);
      taken = take_more c.args.name.now c.loop-part.number c.loop-part.left c.loop-part.all (into_iter_items c.loop-part.rest) rest
          (taken c.args.name.now c.args.first c.args.room c.args.all.now all) c.in_ok-part.part left c.push.new.self (c.in-Some.ensures.items ∙ ap (λ (y : Result Part BuildFault). y ∷ rest) c.in_ok-part.was)
          (subst (λ (ss : List Segment). Or {A = ℕ} (Ok left) (just (room_after c.args.name.now c.loop-part.left (size_of ss)))) c.as_slice.ensures c.in_ok-left.ensures)
          c.in_ok-push.ensures i.taken;
    }
