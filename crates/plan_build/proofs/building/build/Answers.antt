use Rattle.plan_build.specs.Fetched.{came, period}
use Rattle.plan_build.proofs.Outside.{built_speaks}
use Rattle.plan_build.proofs.Periods.{whole}
use Rattle.plan_build.proofs.Weaker.{told_built}
use Rattle.plan_build.proofs.building.build.Goals as goal

pub returns-clause-read : goal.returns-clause-read
returns-clause-read g c =
    let tells = g.F.Shelf.tells in
    let files = (g.F.Shelf.history c.args.shelf.now).contents in
    let a = (g.F.Shelf.history c.args.shelf.now).faults in
    let b = (g.F.Shelf.history c.built_by.new.shelf).faults in
    c.built_by.ensures.read (period tells files a b) (whole tells files a b)

pub returns-clause-told : goal.returns-clause-told
returns-clause-told g c =
    let tells = g.F.Shelf.tells in
    let files = (g.F.Shelf.history c.args.shelf.now).contents in
    let a = (g.F.Shelf.history c.args.shelf.now).faults in
    let b = (g.F.Shelf.history c.built_by.new.shelf).faults in
    λ told. told_built tells files a b c.args.name.now c.built_by.result told (c.built_by.ensures.read (period tells files a b) (whole tells files a b))

pub returns-clause-outside : goal.returns-clause-outside
returns-clause-outside g c =
    let tells = g.F.Shelf.tells in
    let files = (g.F.Shelf.history c.args.shelf.now).contents in
    let a = (g.F.Shelf.history c.args.shelf.now).faults in
    let b = (g.F.Shelf.history c.built_by.new.shelf).faults in
    built_speaks (came (period tells files a b)) c.args.name.now c.built_by.result (c.built_by.ensures.read (period tells files a b) (whole tells files a b))
