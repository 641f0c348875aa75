use Rattle.std.proofs.Common.{refl, false}
use Rattle.link_state.proofs.state.LinkState.said.Goals as goal

pub returns-then-lost-clause-shows : goal.returns-then-lost-clause-shows
returns-then-lost-clause-shows c = λ l s. rw c.if-lost.true (c.drop_it.ensures.shows (record l { owes = false }) (record {
  body = record { phase = s.body.phase; ticks = s.body.ticks; asked = s.body.asked; losses = s.body.losses; owes = refl; distinct = s.body.distinct; inbox = s.body.inbox };
  rest = s.rest;
}))
