use Rattle.std.proofs.Common.{◌≡◌, true, ap, sym, ◌∙◌}
use Rattle.run_model.specs.Places.{needs_request}
use Rattle.run_model.specs.Script.{bytes_at}
use Rattle.run_model.specs.Talk.{talk_judged}
use Rattle.uds_codec.specs.Answer.{Verdict, judge}
use Rattle.uds_codec.specs.Awaited.{verdict_of}
use Rattle.unit_session.proofs.Keeps.{waits, heard_by, has_record}
use Rattle.unit_session.proofs.session.UnitSession.hear.Goals as goal
use Rattle.unit_session.specs.Session.{place_at, talk_of}

pub judged-requires-clause-form : goal.judged-requires-clause-form
judged-requires-clause-form c = λ rest e.
    let u = c.args.unit.now in
    let s = c.args.self.now in
    let needs : needs_request (place_at u s.stage) ≡ true = c.requires.of.awaits (waits _ _ c.requires.wait) in
    let v : judge (bytes_at u (place_at u s.stage)) c.args.reply.now ≡ verdict_of c.judge-verdict.result =
    heard_by u s.stage c.args.reply.now c.awaited.result _ c.requires.accepted c.requires.of.stage needs c.awaited.ensures c.judge-verdict.ensures.answer in
    has_record u s.stage c.args.reply.now rest c.requires.accepted c.requires.of.stage needs (v ∙ e)

pub returns-clause-talk : goal.returns-clause-talk
returns-clause-talk c =
    let u = c.args.unit.now in
    let s = c.args.self.now in
    let needs : needs_request (place_at u s.stage) ≡ true = c.requires.of.awaits (waits _ _ c.requires.wait) in
    let v : judge (bytes_at u (place_at u s.stage)) c.args.reply.now ≡ verdict_of c.judge-verdict.result =
    heard_by u s.stage c.args.reply.now c.awaited.result _ c.requires.accepted c.requires.of.stage needs c.awaited.ensures c.judge-verdict.ensures.answer in
    c.judged.ensures.talk ∙ ap (λ (w : Verdict). talk_judged u c.args.tick w (talk_of u s)) (sym v)
