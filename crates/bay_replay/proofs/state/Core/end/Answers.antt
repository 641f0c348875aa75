use Rattle.std.proofs.Common.{◌≡◌, ℕ, ◌<◌, List, true, None, refl, ap, sym, subst, ◌∙◌}
use Rattle.barrier_board.specs.Board.{NamesWithin, says_complete}
use Rattle.flash_plan.specs.declared.unit.UnitPlan.{UnitPlan}
use Rattle.flash_plan.specs.Plan.{count_of}
use Rattle.bay_replay.proofs.Bodies.{given_body, not_complete, ender_below, ender_open}
use Rattle.bay_replay.proofs.Slots.{same_of}
use Rattle.bay_replay.proofs.Verdicts.{end_other}
use Rattle.bay_replay.proofs.state.Core.end.Goals as goal

pub end-requires-clause-other : goal.end-requires-clause-other
end-requires-clause-other g c =
    let P : List UnitPlan = c.args.plan.now in
    let u : ℕ = c.args.unit in
    let lt : u < count_of P = ender_below P g.told.core u c.args.outcome c.requires.1 in
    (end_other P g.told.core u c.args.outcome (c.is_accepted.ensures.after u lt) (c.requires.0.body.slots u lt).ends c.requires.0.body.right c.requires.1).other

pub end-requires-clause-blocker : goal.end-requires-clause-blocker
end-requires-clause-blocker g c =
    let P : List UnitPlan = c.args.plan.now in
    let u : ℕ = c.args.unit in
    let lt : u < count_of P = ender_below P g.told.core u c.args.outcome c.requires.1 in
    subst (λ (n : ℕ). NamesWithin n c.args.outcome) (sym c.requires.0.body.posts)
    (end_other P g.told.core u c.args.outcome (c.is_accepted.ensures.after u lt) (c.requires.0.body.slots u lt).ends c.requires.0.body.right c.requires.1).within

pub returns : goal.returns
returns g c =
    let P : List UnitPlan = c.args.plan.now in
    let u : ℕ = c.args.unit in
    let lt : u < count_of P = ender_below P g.told.core u c.args.outcome c.requires.1 in
    let other = (end_other P g.told.core u c.args.outcome (c.is_accepted.ensures.after u lt) (c.requires.0.body.slots u lt).ends c.requires.0.body.right c.requires.1).other in
    let none : (g.told.core.slots u).outcome ≡ None = ender_open P g.told.core u c.args.outcome c.requires.1 in
    given_body P c.args.self.now g.told u c.args.outcome c.end.new.self g.told.core.recorded lt c.requires.0.body c.end.ensures (λ n ne. same_of g.told.core.recorded n) refl (λ n. refl)
    (not_complete c.args.outcome other ∙ sym (ap says_complete none) ∙ (c.requires.0.body.slots u lt).complete)
