use Rattle.std.proofs.Common.{◌≡◌, ◌∙◌, ap}
use Rattle.flash_bay.specs.Sending.{spot_in}
use Rattle.flash_workers.proofs.Steps.{goes_ready}
use Rattle.flash_workers.proofs.unit_step.send_anew.Goals as goal
use Rattle.unit_session.specs.Prepared.{ReadyState}

pub returns-clause-ok : goal.returns-clause-ok
returns-clause-ok g c =
    let here : c.in_ok-ready.ready.spot ≡ spot_in c.args.bay.now.run c.args.unit = ap (λ (r : ReadyState). r.spot) c.in_ok-ready.ensures ∙ c.spot-spot.ensures.is in
    goes_ready g.S.Shop.tells_vehicle g.S.Shop.history c.args.unit c.in_ok-ready.ready c.args.bay.now c.in_ok-send_ready.field-0 c.send_ready.new.self here c.in_ok-send_ready.ensures.ok
