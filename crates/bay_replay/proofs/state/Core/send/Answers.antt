use Rattle.std.proofs.Common.{◌≡◌, ℕ, List, true, ap, sym, refl, subst, ◌∙◌}
use Rattle.std.specs.Prelude.{set}
use Rattle.bay_core.proofs.Allowed.{SentFacts, sent_facts, asks_needs}
use Rattle.bay_core.specs.Core.{addresses_of}
use Rattle.flash_plan.specs.declared.unit.UnitPlan.{UnitPlan}
use Rattle.flash_plan.specs.Plan.{plan_of}
use Rattle.run_model.specs.Link.{lost_or}
use Rattle.run_model.specs.Places.{needs_request}
use Rattle.run_model.specs.Talk.{Talk, talk_sent}
use Rattle.unit_session.specs.Session.{talk_of, is_begun, IsOf}
use Rattle.bay_replay.specs.declared.units.Unit.{Unit as Kept}
use Rattle.bay_replay.specs.Held.{HoldsSlot}
use Rattle.bay_replay.proofs.Bodies.{talked_body, labels_kept, few_losses, clear_stop}
use Rattle.bay_replay.proofs.state.Core.send.Goals as goal

pub lose-requires : goal.lose-requires
lose-requires g c =
    let f : SentFacts c.args.plan.now g.told.core c.args.unit c.args._place = sent_facts c.args.plan.now g.told.core c.args.unit c.args._place c.args.lost c.requires.1 in
    few_losses c.args.plan.now c.args.self.now g.told c.requires.0 (clear_stop g.told.core f.clear)

pub returns : goal.returns
returns g c =
    let P : List UnitPlan = c.args.plan.now in
    let u : ℕ = c.args.unit in
    let plan : UnitPlan = plan_of P u in
    let f : SentFacts P g.told.core u c.args._place = sent_facts P g.told.core u c.args._place c.args.lost c.requires.1 in
    let slot : HoldsSlot plan _ _ g.told.core.recorded u (g.told.core.slots u) = c.requires.0.body.slots u f.below in
    let needs : needs_request (talk_of plan c.at_mut.result.now.session).place ≡ true =
    ap (λ (x : Kept). needs_request (talk_of plan x.session).place) c.at_mut.ensures.value ∙ ap (λ (t : Talk). needs_request t.place) slot.talk ∙ asks_needs plan (g.told.core.slots u).talk.place f.request in
    let tick : c.ticks-tick.result ≡ g.told.core.link.ticks = c.ticks-tick.ensures.shows g.told.core.link c.requires.0.body.link in
    talked_body P c.args.self.now g.told u c.sent.new.self (talk_sent g.told.core.link.ticks) c.lose.new.link (lost_or c.args.lost g.told.core.link) (set c.args.self.now.units u (record c.at_mut.result.now { session = c.sent.new.self })) f.below c.requires.0.body
    (c.lose.ensures.shows g.told.core.link c.requires.0.body.link)
    (labels_kept g.told.rules.tester (addresses_of P) c.args.self.now.link c.lose.new.link c.lose.ensures.labels c.requires.0.body.labels) (ap (λ (x : Kept). set c.args.self.now.units u (record x { session = c.sent.new.self })) c.at_mut.ensures.value) f.claimed
    (c.sent.ensures.begun ∙ ap (λ (x : Kept). is_begun x.session) c.at_mut.ensures.value)
    (c.sent.ensures.talk plan ∙ (λ i. talk_sent (tick i) (talk_of plan (c.at_mut.ensures.value i).session)) ∙ ap (talk_sent g.told.core.link.ticks) slot.talk) (λ n. refl)
    (c.sent.ensures.of plan needs (subst (λ (x : Kept). IsOf plan x.session) (sym c.at_mut.ensures.value) slot.fits)) slot.ends
