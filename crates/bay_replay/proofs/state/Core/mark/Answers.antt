use Rattle.std.proofs.Common.{◌≡◌, ℕ, ◌<◌, List, ap, sym, subst, ◌∙◌}
use Rattle.std.specs.Prelude.{set}
use Rattle.bay_core.proofs.Allowed.{MarkFacts, mark_facts, open_claimed}
use Rattle.flash_plan.specs.declared.unit.UnitPlan.{UnitPlan}
use Rattle.flash_plan.specs.Plan.{plan_of, IsAcceptedUnit}
use Rattle.run_model.specs.Talk.{talk_marked}
use Rattle.unit_session.specs.Session.{talk_of, is_begun, ask_of, IsOf}
use Rattle.unit_session.specs.declared.session.Ask.TheVariants.{Mark}
use Rattle.bay_replay.specs.Held.{HoldsSlot}
use Rattle.bay_replay.specs.Units.{unit_of}
use Rattle.bay_replay.specs.declared.units.Unit.{Unit as Kept}
use Rattle.bay_replay.proofs.Bodies.{marked_body}
use Rattle.bay_replay.proofs.Marks.{asks_mark, marks_session}
use Rattle.bay_replay.proofs.state.Core.mark.Goals as goal

pub returns : goal.returns
returns g c =
    let P : List UnitPlan = c.args.plan.now in
    let u : ℕ = c.args.unit in
    let s : ℕ = c.args._segment in
    let plan : UnitPlan = plan_of P u in
    let f : MarkFacts P g.told.core u s = mark_facts P g.told.core u s c.requires.1 in
    let ok : IsAcceptedUnit plan = c.is_accepted.ensures.each u f.below in
    let slot : HoldsSlot plan _ (unit_of c.args.self.now.units u) g.told.core.recorded u (g.told.core.slots u) = c.requires.0.body.slots u f.below in
    let at : c.at_mut.result.now ≡ unit_of c.args.self.now.units u = c.at_mut.ensures.value in
    let fits : IsOf plan c.at_mut.result.now.session = subst (λ (x : Kept). IsOf plan x.session) (sym at) slot.fits in
    let asks : ask_of plan (talk_of plan c.at_mut.result.now.session) ≡ Mark s =
    ap (λ (x : Kept). ask_of plan (talk_of plan x.session)) at ∙ asks_mark plan (unit_of c.args.self.now.units u).session (g.told.core.slots u).talk s slot.fits slot.talk f.at in
    marked_body P c.args.self.now g.told u s (set c.args.self.now.units u (record c.at_mut.result.now { session = c.marked.new.self })) c.marked.new.self f.below c.requires.0.body (open_claimed P g.told.core u f.opened)
    (ap (λ (x : Kept). set c.args.self.now.units u (record x { session = c.marked.new.self })) at) (c.marked.ensures.begun ∙ ap (λ (x : Kept). is_begun x.session) at)
    (c.marked.ensures.talk plan s ok fits asks ∙ ap (λ (x : Kept). talk_marked s (talk_of plan x.session)) at ∙ marks_session plan (unit_of c.args.self.now.units u).session (g.told.core.slots u).talk s slot.fits slot.talk f.at ok)
    (c.marked.ensures.of plan ok fits)
