use Rattle.std.proofs.Common.{sym, subst}
use Rattle.doip_frame.specs.declared.frame.Frame.{Frame}
use Rattle.run_model.specs.Link.{see_frame}
use Rattle.link_state.specs.State.{ShowsBody, tester_of, units_of}
use Rattle.link_state.proofs.state.LinkState.see_frame.Goals as goal

pub returns-in-HeaderNack-clause-shows : goal.returns-in-HeaderNack-clause-shows
returns-in-HeaderNack-clause-shows c = λ l s.
    subst (λ (f : Frame). ShowsBody c.drop_it.new.self (see_frame (tester_of c.args.self.now) (units_of c.args.self.now) f l)) (sym c.in-HeaderNack.is) (c.drop_it.ensures.body l s)
