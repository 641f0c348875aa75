use Rattle.std.proofs.Common.{◌≡◌, ℕ, ◌+◌, List, true, ap, sym, subst, ◌∙◌}
use Rattle.std.specs.Prelude.{set}
use Rattle.bay_core.proofs.Allowed.{CollectedFacts, collected_facts}
use Rattle.bay_core.specs.Core.{addresses_of}
use Rattle.bay_core.specs.declared.event.Heard.TheVariants.{Quiet}
use Rattle.flash_plan.specs.declared.unit.UnitPlan.{UnitPlan}
use Rattle.flash_plan.specs.Plan.{plan_of}
use Rattle.link_state.specs.State.{Shows}
use Rattle.run_model.specs.Link.{Link, polled_quiet}
use Rattle.run_model.specs.Talk.{Talk, talk_quiet}
use Rattle.unit_session.specs.Session.{talk_of, is_begun, IsOf}
use Rattle.bay_replay.specs.declared.units.Unit.{Unit as Kept}
use Rattle.bay_replay.specs.Held.{HoldsSlot}
use Rattle.bay_replay.proofs.Bodies.{talked_body, labels_kept}
use Rattle.bay_replay.proofs.Marks.{quiet_low, quiet_marks}
use Rattle.bay_replay.proofs.Verdicts.{quiet_right}
use Rattle.bay_replay.proofs.state.Core.collect_quiet.Goals as goal
use Rattle.bay_core.proofs.Ticks.{quiet_ticks}

pub returns : goal.returns
returns g c =
    let P : List UnitPlan = c.args.plan.now in
    let u : ℕ = c.args.unit in
    let plan : UnitPlan = plan_of P u in
    let l : Link = g.told.core.link in
    let f : CollectedFacts P g.told.core u Quiet = collected_facts P g.told.core u Quiet c.requires.1.1 in
    let slot : HoldsSlot plan _ _ g.told.core.recorded u (g.told.core.slots u) = c.requires.0.body.slots u f.below in
    let fits : IsOf plan c.at_mut.result.now.session = subst (λ (x : Kept). IsOf plan x.session) (sym c.at_mut.ensures.value) slot.fits in
    let waits : (talk_of plan c.at_mut.result.now.session).awaiting ≡ true = ap (λ (x : Kept). (talk_of plan x.session).awaiting) c.at_mut.ensures.value ∙ ap (λ (t : Talk). t.awaiting) slot.talk ∙ f.awaiting in
    let shows : Shows c.quiet.new.self (polled_quiet l) = c.quiet.ensures.shows l c.requires.0.body.link in
    let tick : c.ticks-tick.result ≡ l.ticks + 1 = c.ticks-tick.ensures.shows (polled_quiet l) shows ∙ quiet_ticks l in
    talked_body P c.args.self.now g.told u c.quiet-2.new.self (talk_quiet plan (l.ticks + 1)) c.quiet.new.self (polled_quiet l) (set c.args.self.now.units u (record c.at_mut.result.now { session = c.quiet-2.new.self })) f.below c.requires.0.body shows
    (labels_kept g.told.rules.tester (addresses_of P) c.args.self.now.link c.quiet.new.self c.quiet.ensures.of c.requires.0.body.labels) (ap (λ (x : Kept). set c.args.self.now.units u (record x { session = c.quiet-2.new.self })) c.at_mut.ensures.value) f.claimed
    (c.quiet-2.ensures.begun ∙ ap (λ (x : Kept). is_begun x.session) c.at_mut.ensures.value)
    (c.quiet-2.ensures.talk plan (fits.awaits waits) ∙ (λ i. talk_quiet plan (tick i) (talk_of plan (c.at_mut.ensures.value i).session)) ∙ ap (talk_quiet plan (l.ticks + 1)) slot.talk ∙ quiet_low plan (l.ticks + 1) (g.told.core.slots u).talk)
    (quiet_marks plan (l.ticks + 1) (g.told.core.slots u).talk) (c.quiet-2.ensures.of plan fits) (quiet_right plan (l.ticks + 1) (g.told.core.slots u).talk slot.ends)
