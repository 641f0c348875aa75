use Rattle.std.proofs.Common.{◌≡◌, ℕ, List, true, false, ap, sym, ◌∙◌}
use Rattle.std.specs.Prelude.{◌==◌, not, is_some}
use Rattle.std.proofs.lemmas.Bool.{ne_eqb, eq-eqb}
use Rattle.bay_core.proofs.Allowed.{below_count}
use Rattle.bay_core.specs.Legal.{is_open_unit, is_clear}
use Rattle.flash_plan.specs.declared.unit.UnitPlan.{UnitPlan}
use Rattle.run_model.specs.Script.{request_at}
use Rattle.run_model.specs.Talk.{Talk}
use Rattle.unit_session.specs.Session.{talk_of}
use Rattle.bay_replay.specs.Units.{kept_talk}
use Rattle.bay_replay.proofs.Bodies.{send_tests, not_next, all_next}
use Rattle.bay_replay.proofs.state.Core.may_send.Goals as goal

pub returns-then-place-number : goal.returns-then-place-number
returns-then-place-number g c =
    let P : List UnitPlan = c.args.plan.now in
    let u : ℕ = c.args.unit in
    let plan : UnitPlan = c.unit.result.now in
    let t : Talk = talk_of plan c.at-kept.result.now.session in
    let opened : is_open_unit P g.told.core u ≡ true = sym c.is_open.ensures ∙ c.if-not-is_open.false in
    let is : t ≡ kept_talk (g.told.core.slots u).talk = (λ i. talk_of (c.unit.ensures i) (c.at-kept.ensures i).session) ∙ (c.requires.body.slots u (below_count P g.told.core u opened)).talk in
    let other : (c.args.place == t.number) ≡ false = ne_eqb c.args.place t.number (λ e. c.if-place-number.true (e ∙ sym (c.number.ensures plan))) in
    sym (send_tests P g.told.core u c.args.place plan t opened c.unit.ensures is ∙ not_next (is_some (request_at plan t.place)) (c.args.place == t.number) (not t.awaiting) (is_clear g.told.core) other)

pub returns : goal.returns
returns g c =
    let P : List UnitPlan = c.args.plan.now in
    let u : ℕ = c.args.unit in
    let plan : UnitPlan = c.unit.result.now in
    let t : Talk = talk_of plan c.at-kept.result.now.session in
    let opened : is_open_unit P g.told.core u ≡ true = sym c.is_open.ensures ∙ c.if-not-is_open.false in
    let is : t ≡ kept_talk (g.told.core.slots u).talk = (λ i. talk_of (c.unit.ensures i) (c.at-kept.ensures i).session) ∙ (c.requires.body.slots u (below_count P g.told.core u opened)).talk in
    let next : (c.args.place == t.number) ≡ true = eq-eqb c.args.place t.number (c.if-place-number.false ∙ c.number.ensures plan) in
    let asks : is_some (request_at plan t.place) ≡ true = sym c.has_request.ensures ∙ c.if-not-has_request.false in
    let idle : not t.awaiting ≡ true = ap not (sym (c.is_waiting.ensures) ∙ c.if-is_waiting.false) in
    c.is_clear.ensures
    ∙ sym (send_tests P g.told.core u c.args.place plan t opened c.unit.ensures is ∙ all_next (is_some (request_at plan t.place)) (c.args.place == t.number) (not t.awaiting) (is_clear g.told.core) asks next idle)
