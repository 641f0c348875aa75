use Rattle.std.proofs.Common.{◌≡◌, ◌<◌, ◌≤◌, arith}
use Rattle.bay_replay.proofs.Settling.{lost_body, unlost_body, are_of}
use Rattle.bay_replay.proofs.state.Core.lose_units.Goals as goal

pub lose-requires : goal.lose-requires
lose-requires g c = are_of c.args.plan.now c.args.self.now g.told c.requires

pub returns-then-losses-before : goal.returns-then-losses-before
returns-then-losses-before g c =
    let is : c.losses.result ≡ g.told.core.link.losses = c.losses.ensures.shows g.told.core.link c.requires.link in
    let more : c.args.before < g.told.core.link.losses = omega (arith, is, c.if-losses-before.true) in
    lost_body c.args.plan.now c.args.self.now g.told c.args.before c.lose.new.self more c.requires c.lose.ensures

pub returns-else-losses-before : goal.returns-else-losses-before
returns-else-losses-before g c =
    let is : c.losses.result ≡ g.told.core.link.losses = c.losses.ensures.shows g.told.core.link c.requires.link in
    let few : g.told.core.link.losses ≤ c.args.before = omega (arith, is, c.if-losses-before.false) in
    unlost_body c.args.plan.now c.args.self.now g.told c.args.before few c.requires
