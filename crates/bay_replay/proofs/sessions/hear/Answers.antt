use Rattle.std.proofs.Common.{sym, ◌∙◌, ap}
use Rattle.link_state.specs.Inboxes.{message_of}
use Rattle.link_state.specs.declared.inbox.Message.{Message}
use Rattle.run_model.specs.Talk.{talk_hears}
use Rattle.unit_session.specs.Session.{talk_of}
use Rattle.bay_replay.proofs.sessions.hear.Goals as goal

pub returns-in-Nack : goal.returns-in-Nack
returns-in-Nack c = record {
  known = c.nack.ensures.begun;
  talk = c.nack.ensures.talk c.args.unit.now c.args.tick
      ∙ ap (λ (m : Message). talk_hears c.args.unit.now c.args.tick (message_of m) (talk_of c.args.unit.now c.args.session.now)) (sym c.in-Nack.is);
  fits = c.nack.ensures.of c.args.unit.now c.requires.of;
}
