use Rattle.std.proofs.Common.{◌≡◌, true, false, ap, sym, subst, ◌∙◌, None, Some}
use Rattle.std.specs.Prelude.{set}
use Rattle.bay_core.specs.Core.{addresses_of}
use Rattle.flash_plan.specs.declared.unit.UnitPlan.{UnitPlan}
use Rattle.flash_plan.specs.Plan.{plan_of}
use Rattle.link_state.specs.Inboxes.{message_of}
use Rattle.link_state.specs.State.{option_message}
use Rattle.run_model.specs.Link.{take_message, first_message}
use Rattle.run_model.specs.Places.{is_ended}
use Rattle.run_model.specs.Talk.{Talk, talk_takes}
use Rattle.unit_session.specs.Session as session
use Rattle.unit_session.specs.Session.{is_begun}
use Rattle.bay_replay.specs.declared.units.Unit.{Unit as Kept}
use Rattle.bay_replay.specs.Held.{HoldsSlot}
use Rattle.bay_replay.proofs.Bodies.{TookWord, taken_from, unheard_body, talked_body, labels_kept, heard_talk, waits_going}
use Rattle.bay_replay.proofs.Marks.{takes_marks}
use Rattle.bay_replay.proofs.Verdicts.{takes_right}
use Rattle.bay_replay.proofs.state.Core.hear.Goals as goal

pub returns-in_default : goal.returns-in_default
returns-in_default c = λ told b claimed.
    let took : TookWord c.args.plan.now told c.args.unit c.take.new.self (option_message c.take.result) =
    taken_from c.args.plan.now c.args.self.now told c.args.unit c.unit.result.now.address c.take.new.self (option_message c.take.result) c.requires.within (ap (λ (u : UnitPlan). u.address) c.unit.ensures) b c.take.ensures.word c.take.ensures.shows in
    let none : first_message (plan_of c.args.plan.now c.args.unit).address told.core.link.inbox ≡ None = sym took.is ∙ ap option_message c.in_default.is in
    unheard_body c.args.plan.now c.args.self.now told c.args.unit c.take.new.self c.requires.within b took.shows
    (labels_kept told.rules.tester (addresses_of c.args.plan.now) c.args.self.now.link c.take.new.self c.take.ensures.of b.labels) none

pub returns : goal.returns
returns c = λ told b claimed.
    let took : TookWord c.args.plan.now told c.args.unit c.take.new.self (option_message c.take.result) =
    taken_from c.args.plan.now c.args.self.now told c.args.unit c.unit.result.now.address c.take.new.self (option_message c.take.result) c.requires.within (ap (λ (u : UnitPlan). u.address) c.unit.ensures) b c.take.ensures.word c.take.ensures.shows in
    let plan : UnitPlan = plan_of c.args.plan.now c.args.unit in
    let some : first_message plan.address told.core.link.inbox ≡ Some (message_of c.in-Some.message) = sym took.is ∙ ap option_message c.in-Some.is in
    let slot : HoldsSlot plan _ _ told.core.recorded c.args.unit (told.core.slots c.args.unit) = b.slots c.args.unit c.requires.within in
    let waits : (told.core.slots c.args.unit).talk.awaiting ≡ true = ap (λ (t : Talk). t.awaiting) (sym slot.talk) ∙ c.requires.waits in
    let going : is_ended (told.core.slots c.args.unit).talk.place ≡ false = waits_going plan _ _ told.core.recorded c.args.unit (told.core.slots c.args.unit) slot waits in
    talked_body c.args.plan.now c.args.self.now told c.args.unit c.hear.new.session (talk_takes plan told.core.link.ticks (first_message plan.address told.core.link.inbox)) c.take.new.self
    (take_message plan.address told.core.link) (set c.args.self.now.units c.args.unit (record c.at_mut-kept.result.now { session = c.hear.new.session })) c.requires.within b took.shows (labels_kept told.rules.tester (addresses_of c.args.plan.now) c.args.self.now.link c.take.new.self c.take.ensures.of b.labels) (ap (λ (x : Kept). set c.args.self.now.units c.args.unit (record x { session = c.hear.new.session })) c.at_mut-kept.ensures.value) claimed
    (c.hear.ensures.known ∙ ap (λ (x : Kept). is_begun x.session) c.at_mut-kept.ensures.value)
    (heard_talk plan c.unit-2.result.now c.hear.new.session c.ticks-tick.result told.core.link.ticks c.in-Some.message (first_message plan.address told.core.link.inbox) c.at_mut-kept.result.now _ (told.core.slots c.args.unit).talk
    (c.is_accepted.ensures.each c.args.unit c.requires.within) c.unit-2.ensures (c.ticks-tick.ensures.shows (take_message plan.address told.core.link) took.shows) some c.at_mut-kept.ensures.value slot.talk c.hear.ensures)
    (takes_marks plan told.core.link.ticks (first_message plan.address told.core.link.inbox) (told.core.slots c.args.unit).talk)
    (subst (λ (p : UnitPlan). session.IsOf p c.hear.new.session) c.unit-2.ensures c.hear.ensures.fits)
    (takes_right plan told.core.link.ticks (first_message plan.address told.core.link.inbox) (told.core.slots c.args.unit).talk going slot.ends)
