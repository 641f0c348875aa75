use Rattle.link_state.proofs.Frames.{on_ok}
use Rattle.link_state.proofs.Keeping.{kept}
use Rattle.link_state.proofs.state.LinkState.keep.Goals as goal

pub returns-in-Some-clause-shows : goal.returns-in-Some-clause-shows
returns-in-Some-clause-shows c = on_ok c.put.result _ _ c.put.ensures.there (λ there l s. rw c.in-Some.ensures.known (record {
  phase = s.phase;
  ticks = s.ticks;
  asked = s.asked;
  losses = s.losses;
  owes = s.owes;
  distinct = s.distinct;
  inbox = kept c.args.self.now.units.items c.args.self.now.inboxes.items _ c.in-Some.n c.args.source l.inbox s.distinct c.in-Some.ensures s.inbox c.put.ensures.others c.args.message there;
}))
