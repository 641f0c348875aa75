use Rattle.std.proofs.Common.{◌≡◌, length, ap, arith}
use Rattle.session_image.specs.Keeping.{keeps}
use Rattle.session_image.proofs.Chosen.{ended, lighter, loaded}
use Rattle.session_image.proofs.keeping.Kept.load.Goals as goal

pub returns-in-Some-clause-step : goal.returns-in-Some-clause-step
returns-in-Some-clause-step c =
    let k = c.args.self.now in
    let less = lighter k.rest c.next.new.self c.in-Some.at c.in-Some.bytes.now c.in-Some.ensures.steps in
    let none : length k.bytes.now ≡ 0 = ap length c.requires.empty in (
      loaded k.rest c.next.new.self k.at c.in-Some.at k.bytes.now c.in-Some.bytes.now (keeps k.all k.ranges.now) c.requires.empty c.in-Some.ensures.steps,
      omega (arith, less, none),
    )

pub returns-in-None-clause-step : goal.returns-in-None-clause-step
returns-in-None-clause-step c =
    let k = c.args.self.now in (
      ended k.rest k.at k.bytes.now (keeps k.all k.ranges.now) c.requires.empty c.in-None.ensures.steps.0,
      ended c.next.new.self k.at k.bytes.now (keeps k.all k.ranges.now) c.requires.empty c.in-None.ensures.steps.1,
    )
