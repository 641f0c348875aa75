use Rattle.std.proofs.Common.{drop, arith, length-drop}
use Rattle.doip_frame.proofs.Payloads.{no_oem}
use Rattle.doip_frame.proofs.payload.oem.Goals as goal

pub returns-else-payload-from-eq4 : goal.returns-else-payload-from-eq4
returns-else-payload-from-eq4 c = no_oem (drop c.args.from c.args.payload.now) (λ e.
    let l = length-drop c.args.from c.args.payload.now in
    omega (arith, e, l, c.if-payload-from-eq4.false))
