use Rattle.std.proofs.Common.{◌≡◌, arith, ℕ, drop, length, sym, subst}
use Rattle.plan_build.specs.Fetched.{came}
use Rattle.plan_build.specs.Loading.{IsStop}
use Rattle.plan_build.proofs.Batches.{drafts_made, many_made, parts_of}
use Rattle.plan_build.proofs.batch.next_batch.Goals as goal

pub returns-clause-read : goal.returns-clause-read
returns-clause-read g c = λ q h.
    parts_of (came q) c.args.name.now c.args.catalogue.now c.args.tasks.now c.in_ok-batch.batch.jobs.items c.in_ok-parts.parts.items (c.in_ok-batch.ensures.read q h) c.in_ok-parts.ensures

pub returns-clause-stopped : goal.returns-clause-stopped
returns-clause-stopped g c = λ q h.
    let b = c.in_ok-batch.batch in
    let name = c.args.name.now in
    let cat = c.args.catalogue.now in
    let ts = c.args.tasks.now in
    let many : length c.in_ok-parts.parts.items ≡ length b.jobs.items = many_made name cat b.jobs.items c.in_ok-parts.parts.items c.in_ok-parts.ensures in
    subst (λ (n : ℕ). IsStop (came q) name cat (drop n ts) b.stopped) (sym many) (c.in_ok-batch.ensures.stopped q h)

pub returns-clause-drafts : goal.returns-clause-drafts
returns-clause-drafts g c = drafts_made c.args.name.now c.args.catalogue.now c.in_ok-batch.batch.jobs.items c.in_ok-parts.parts.items c.in_ok-parts.ensures

pub returns-clause-within : goal.returns-clause-within
returns-clause-within g c =
    let b = c.in_ok-batch.batch in
    let many : length c.in_ok-parts.parts.items ≡ length b.jobs.items = many_made c.args.name.now c.args.catalogue.now b.jobs.items c.in_ok-parts.parts.items c.in_ok-parts.ensures in
    omega (arith, many, c.in_ok-batch.ensures.within)

pub returns-clause-some : goal.returns-clause-some
returns-clause-some g c = λ none.
    let b = c.in_ok-batch.batch in
    let many : length c.in_ok-parts.parts.items ≡ length b.jobs.items = many_made c.args.name.now c.args.catalogue.now b.jobs.items c.in_ok-parts.parts.items c.in_ok-parts.ensures in
    omega (arith, many, c.in_ok-batch.ensures.some none)
