use Rattle.std.proofs.Common.{◌∙◌, refl, arith}
use Rattle.uds_codec.specs.Form.{AreBytes}
use Rattle.unit_model.specs.Running.{control_unit}
use Rattle.unit_sim.specs.Acting.{acting}
use Rattle.unit_sim.specs.Asking.{asked_of}
use Rattle.unit_sim.specs.Done.{acted_in}
use Rattle.unit_sim.specs.Sims.{sim_of}
use Rattle.unit_sim.specs.Tallies.{counts_of}
use Rattle.unit_sim.proofs.Counted.{beside}
use Rattle.unit_sim.proofs.Committing.{on_ok, on_ok_hears, committed_is, step_beside, first_byte, hears}
use Rattle.unit_sim.proofs.Forms.{are_bytes}
use Rattle.unit_sim.proofs.sim.UnitSim.hear.Goals as goal

exact : goal.returns-clause-exact
exact c =
    let s = c.args.self.now in
    let k = counts_of s.tally in
    let bytes = c.args.request.now in
    let first = first_byte bytes c.requires.some in
    let acts = c.acting-act.ensures ∙ (λ i. acting (first i) (c.as_slice.ensures.value i)) in
    let step = step_beside k (control_unit s.unit) bytes _ (asked_of c.in_ok-asked.asked) c.in_ok-step.step first c.in_ok-asked.ensures.is c.in_ok-step.ensures.is in
    on_ok c.commit.result _ _ _
    (committed_is (sim_of s) bytes c.args.tick _ c.in_ok-outcome.outcome first (c.in_ok-outcome.ensures.is (beside k (control_unit s.unit)) ∙ (λ i. acted_in (acts i) (beside k (control_unit s.unit)) (step i) bytes c.args.tick)))
    c.commit.ensures.ok

pub returns-clause-exact : goal.returns-clause-exact
returns-clause-exact c = exact c

pub returns-clause-step : goal.returns-clause-step
returns-clause-step c =
    let s = c.args.self.now in
    let are : AreBytes c.args.request.now = are_bytes c.args.request.now (λ k lt. omega (arith, c.type_inv.request k)) in
    on_ok_hears c.commit.result (sim_of s) (sim_of c.commit.new.self) c.args.request.now c.args.tick
    (hears (counts_of s.tally) s.unit (sim_of s) (sim_of c.commit.new.self) c.args.request.now c.args.tick refl s.in_range are c.written_again.ensures)
    (exact c)
