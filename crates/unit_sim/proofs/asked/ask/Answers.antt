use Rattle.std.proofs.Common.{inl, inr, arith}
use Rattle.uds_codec.specs.Form.{AreBytes}
use Rattle.unit_sim.proofs.Forms.{are_bytes}
use Rattle.unit_sim.proofs.asked.ask.Goals as goal

pub returns-in-Ok-clause-form : goal.returns-in-Ok-clause-form
returns-in-Ok-clause-form c =
    let bytes : AreBytes c.args.bytes.now = are_bytes c.args.bytes.now (λ k lt. omega (arith, c.type_inv.bytes k)) in
    elim c.in-Ok.ensures [ inl none ↦ absurd (cc) | inr read ↦ (c.written_again.ensures c.args.bytes.now c.in-Ok.request bytes read).form ]
