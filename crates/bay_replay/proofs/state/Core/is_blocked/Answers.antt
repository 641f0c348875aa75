use Rattle.std.proofs.Common.{◌≡◌, ℕ, ◌<◌, List, length, ap, sym, subst, ◌∙◌}
use Rattle.std.specs.Prelude.{slice_index}
use Rattle.bay_core.specs.Legal.{is_blocked}
use Rattle.flash_plan.specs.declared.unit.UnitPlan.{UnitPlan}
use Rattle.flash_plan.specs.Plan.{plan_of, count_of}
use Rattle.bay_replay.specs.Hears.{blocker}
use Rattle.bay_replay.proofs.Endings.{blocks_is, each_within}
use Rattle.bay_replay.proofs.state.Core.is_blocked.Goals as goal

pub is_blocker-requires : goal.is_blocker-requires
is_blocker-requires g c =
    let P : List UnitPlan = c.args.plan.now in
    let u : ℕ = c.args.unit in
    let is : c.as_slice.result.now ≡ (plan_of P u).after = c.as_slice.ensures ∙ ap (λ (x : UnitPlan). x.after) c.unit.ensures in
    subst (λ (xs : List ℕ). (i : ℕ) → i < length xs → slice_index xs i < length c.args.self.now.board) (sym is)
    (λ i lt. subst (λ (n : ℕ). slice_index (plan_of P u).after i < n) (sym c.requires.0.body.posts) (each_within (count_of P) (plan_of P u).after (c.is_accepted.ensures.after u c.requires.1) i lt))

pub returns-in-Blocked : goal.returns-in-Blocked
returns-in-Blocked g c =
    let P : List UnitPlan = c.args.plan.now in
    let u : ℕ = c.args.unit in
    let is : c.as_slice.result.now ≡ (plan_of P u).after = c.as_slice.ensures ∙ ap (λ (x : UnitPlan). x.after) c.unit.ensures in
    c.is_blocker.ensures ∙ ap (λ (xs : List ℕ). blocker c.args.self.now.board xs c.in-Blocked.by) is
    ∙ sym (blocks_is P c.args.self.now g.told c.requires.0.body (plan_of P u).after c.in-Blocked.by (c.is_accepted.ensures.after u c.requires.1))
    ∙ ap (is_blocked P g.told.core u) (sym c.in-Blocked.is)
