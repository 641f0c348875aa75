use Rattle.link_state.proofs.Keeping.{took, first_took}
use Rattle.link_state.proofs.state.LinkState.take.Goals as goal

pub returns-in-Some-clause-word : goal.returns-in-Some-clause-word
returns-in-Some-clause-word c = λ l s known.
    first_took c.args.self.now.units.items c.args.self.now.inboxes.items _ c.in-Some.n c.args.unit l.inbox s.body.distinct c.in-Some.ensures s.body.inbox c.take_first.ensures.others c.take_first.result c.take_first.ensures.first

pub returns-in-Some-clause-shows : goal.returns-in-Some-clause-shows
returns-in-Some-clause-shows c = λ l s known. record {
  body = record {
    phase = s.body.phase;
    ticks = s.body.ticks;
    asked = s.body.asked;
    losses = s.body.losses;
    owes = s.body.owes;
    distinct = s.body.distinct;
    inbox = took c.args.self.now.units.items c.args.self.now.inboxes.items _ c.in-Some.n c.args.unit l.inbox s.body.distinct c.in-Some.ensures s.body.inbox c.take_first.ensures.others c.take_first.ensures.rest;
  };
  rest = s.rest;
}
