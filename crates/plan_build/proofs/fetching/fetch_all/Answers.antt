use Rattle.std.proofs.Common.{◌∙◌, ◌≤◌, ℕ, List, inr, subst, arith, le_trans, length}
use Rattle.std.proofs.lemmas.Result.{err_from_is_err_and}
use Rattle.plan_build.specs.Fetched.{came}
use Rattle.plan_build.proofs.Lists.{file_failed, file_more, files_done, named_more, nothing_left, LeadsFiles}
use Rattle.plan_build.proofs.Periods.{earlier, later}
use Rattle.plan_build.proofs.fetching.fetch_all.Goals as goal

pub returns-in_err-bytes-clause-read : goal.returns-in_err-bytes-clause-read
returns-in_err-bytes-clause-read g c =
    let p = err_from_is_err_and c.from_residual.result c.from_residual.ensures.1 in
    rw (p.1, p.2) (λ q h.
    file_failed (came q) c.args.names.now c.loop-i.i c.as_str-name.result.now c.loop-i.files c.in_err-bytes.field-0.0 (rw c.as_str-name.ensures c.at.ensures)
    (c.in_err-bytes.ensures.read q (later h c.loop-i.invariant.keeps c.loop-i.invariant.never_falls))
    (c.loop-i.invariant.read q (earlier h c.in_err-bytes.ensures.never_falls)))

pub loop-i-preserved : goal.loop-i-preserved
loop-i-preserved g c =
    let at = c.at.ensures in
    let same = c.in_ok-from_str.ensures in
    record {
      keeps = c.in_ok-bytes.ensures.keeps ∙ c.loop-i.invariant.keeps;
      never_falls = le_trans c.loop-i.invariant.never_falls c.in_ok-bytes.ensures.never_falls;
      read = λ q h.
          file_more (came q) c.args.names.now c.loop-i.i c.as_str-name.result.now c.in_ok-from_str.field-0 c.in_ok-bytes.bytes c.loop-i.files c.push.new.self (rw c.as_str-name.ensures c.at.ensures)
          (c.in_ok-bytes.ensures.read q (later h c.loop-i.invariant.keeps c.loop-i.invariant.never_falls)) same c.in_ok-push.ensures.ok
          (c.loop-i.invariant.read q (earlier h c.in_ok-bytes.ensures.never_falls));
      names = named_more c.args.names.now c.loop-i.i c.as_str-name.result.now c.in_ok-from_str.field-0 c.in_ok-bytes.bytes c.loop-i.files c.push.new.self (rw c.as_str-name.ensures c.at.ensures) same c.in_ok-push.ensures.ok c.loop-i.invariant.names;
    }

pub returns-clause-read : goal.returns-clause-read
returns-clause-read g c =
    let names = c.args.names.now in
    let end : length names ≤ c.loop-i.i = omega (arith, c.loop-i-test.false, c.len-i-end.ensures) in
    λ q h. inr (files_done (came q) names c.loop-i.files (subst (λ (l : List (List ℕ)). LeadsFiles (came q) names c.loop-i.files l) (nothing_left names c.loop-i.i end) (c.loop-i.invariant.read q h)))
