use Rattle.std.proofs.Common.{refl}
use Rattle.run_model.specs.Link as phase
use Rattle.link_state.proofs.state.LinkState.asked.Goals as goal

pub returns-then-lost-clause-shows : goal.returns-then-lost-clause-shows
returns-then-lost-clause-shows c = λ l live s. rw c.if-lost.true (c.drop_it.ensures.shows (record l { phase = phase.Asked; asked = l.ticks }) (record {
  body = record { phase = refl; ticks = s.body.ticks; asked = s.body.ticks; losses = s.body.losses; owes = s.body.owes; distinct = s.body.distinct; inbox = s.body.inbox };
  rest = λ q. s.rest live;
}))
