use Rattle.flash_workers.proofs.Turns.{claims_in_turn}
use Rattle.flash_workers.proofs.worker.claim_in_turn.Goals as goal

pub returns-clause-claims : goal.returns-clause-claims
returns-clause-claims g c =
    let taken = c.take-desk.ensures in
    let claimed = c.claim-claimed.ensures in
    claims_in_turn c.claim-claimed.result c.args.pass.now c.take-desk.new.pass c.give.new.pass _ c.take-desk.result c.claim-claimed.new.self
    c.requires.rests taken.holds taken.opening taken.seen c.give.ensures claimed.grows claimed.claims
