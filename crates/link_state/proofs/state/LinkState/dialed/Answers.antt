use Rattle.std.proofs.Common.{refl, ap}
use Rattle.run_model.specs.Link.{new_link}
use Rattle.link_state.specs.Inboxes.{messages_all}
use Rattle.link_state.proofs.state.LinkState.dialed.Goals as goal

pub returns-then-lost-clause-shows : goal.returns-then-lost-clause-shows
returns-then-lost-clause-shows c = λ l s. rw c.if-lost.true (c.drop_it.ensures.shows (new_link l) (record {
  body = record { phase = refl; ticks = s.body.ticks; asked = s.body.asked; losses = s.body.losses; owes = refl; distinct = s.body.distinct; inbox = λ n lt. ap messages_all (c.clear.ensures.none n) };
  rest = λ live. c.new.ensures;
}))
