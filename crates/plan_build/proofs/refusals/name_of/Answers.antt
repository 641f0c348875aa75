use Rattle.std.proofs.Common.{◌≡◌, ◌<◌, sym, rules, arith, length, get_or}
use Rattle.plan_build.proofs.Drafts.{name_at, no_name}
use Rattle.plan_build.proofs.refusals.name_of.Goals as goal

pub returns-in-Some : goal.returns-in-Some
returns-in-Some c =
    let ts = c.args.tasks.now in
    let within : c.args.n < length ts = grind arith in
    let at : c.in-Some.task.now ≡ get_or ts c.args.n c.in-Some.task.now = search rules in
    let is = name_at ts c.args.n c.in-Some.task.now within at in
    rw (sym is, sym c.as_str.ensures) c.from_str.ensures

pub returns-in-None : goal.returns-in-None
returns-in-None c =
    let ts = c.args.tasks.now in
    let is = no_name ts c.args.n (grind arith) in
    rw (sym is) c.from_str-in-None.ensures
