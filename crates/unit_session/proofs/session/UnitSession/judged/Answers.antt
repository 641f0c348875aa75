use Rattle.std.proofs.Common.{ap, subst, sym, ◌∙◌}
use Rattle.run_model.specs.Script.{Place}
use Rattle.run_model.specs.Talk.{talk_judged}
use Rattle.uds_codec.specs.Answer.{Accepted}
use Rattle.uds_codec.specs.Awaited.{verdict_of}
use Rattle.uds_codec.specs.declared.judging.Verdict.{Verdict}
use Rattle.unit_session.proofs.Keeps.{sid_is, stage_good, left_judged}
use Rattle.unit_session.proofs.session.UnitSession.judged.Goals as goal
use Rattle.unit_session.specs.Session.{place_at, talk_of, has_mark, IsFewer}

pub returns-in-Busy-clause-talk : goal.returns-in-Busy-clause-talk
returns-in-Busy-clause-talk c =
    let u = c.args.unit.now in
    let s = c.args.self.now in
    c.busy.ensures.talk u c.args.tick (c.sid-sid.ensures ∙ sym (sid_is u s.stage c.requires.needs)) ∙ ap (λ (v : Verdict). talk_judged u c.args.tick (verdict_of v) (talk_of u s)) (sym c.in-Busy.is)

pub returns-in-Accepted-clause-of : goal.returns-in-Accepted-clause-of
returns-in-Accepted-clause-of c =
    let u = c.args.unit.now in
    let s = c.args.self.now in
    let fewer = left_judged u (has_mark s.marks) (place_at u s.stage) (Accepted c.in-Accepted.record.now) (stage_good u s.stage c.requires.accepted c.requires.of.stage) c.requires.needs tt in
    c.settle-in-Accepted.ensures.of u c.onward-stage.ensures.fits c.onward-stage.ensures.known (subst (λ (p : Place). IsFewer u p (place_at u s.stage)) (sym c.onward-stage.ensures.place) fewer) c.requires.of
