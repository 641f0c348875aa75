use Rattle.std.proofs.Common.{rules, ◌≡◌, sym, subst, arith, length}
use Rattle.std.proofs.Crossing.{crosses, frees}
use Rattle.std.specs.Prelude.{slice_index_or}
use denote.Exit.{no}
use denote.Param.Send.{arg_send, param_send, sendable}
use Rattle.plan_build.specs.Loading.{IsJob, IsMade}
use Rattle.plan_build.proofs.Batches.{all_are_made, each_job}
use Rattle.plan_build.proofs.Crossing.{given_send, job_send, one_catalogue_sync}
use Rattle.plan_build.proofs.batch.all_made.Goals as goal

pub map_vec-requires : goal.map_vec-requires
map_vec-requires g c = λ l. (
  param_send _ _ (arg_send _ no _ (job_send _)),
  (
    param_send _ _ (arg_send _ no _ given_send),
    (
      search rules,
      (
        search rules,
        (
          search (sendable, crosses, one_catalogue_sync) depth 40,
          (
            frees,
            λ i x h is. each_job (IsJob c.args.catalogue.now) c.args.jobs.items i x c.requires h is,
          ),
        ),
      ),
    ),
  ),
)

pub returns : goal.returns
returns g c =
    let made = c.in_ok-map_vec.field-0 in
    let jobs = c.args.jobs in
    let many : length made.items ≡ length jobs.items = omega (arith, made.ok.0, jobs.ok.0, c.in_ok-map_vec.ensures.len) in
    all_are_made c.args.name.now c.args.catalogue.now jobs.items made.items many
    (λ i j r h.
    let one = (c.in_ok-map_vec.ensures.each i r h).1 in
    subst (λ k. IsMade c.args.name.now c.args.catalogue.now k (slice_index_or made.items i r)) (sym (one.job_is j)) one.call.met)
