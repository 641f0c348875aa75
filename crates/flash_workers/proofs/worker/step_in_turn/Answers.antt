use Rattle.flash_workers.proofs.Turns.{steps_in_turn}
use Rattle.flash_workers.proofs.worker.step_in_turn.Goals as goal

pub returns-clause-steps : goal.returns-clause-steps
returns-clause-steps g c =
    let taken = c.take-desk.ensures in
    let stepped = c.step-stand.ensures in
    steps_in_turn c.args.unit c.step-stand.result.made c.args.pass.now c.take-desk.new.pass c.give.new.pass _ c.take-desk.result c.step-stand.new.self
    c.requires.pass.rests taken.holds taken.opening taken.seen c.give.ensures stepped.gone stepped.rest stepped.grows stepped.event
