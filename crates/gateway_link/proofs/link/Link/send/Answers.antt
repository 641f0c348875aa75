use Rattle.std.proofs.Common.{◌∙◌, ap}
use Rattle.doip_frame.specs.Frame.{message_bytes}
use Rattle.gateway_link.proofs.Hearing.{sends_by}
use Rattle.link_state.specs.State.{tester_of}
use Rattle.run_model.specs.Link.{lost_or}
use Rattle.gateway_link.proofs.link.Link.send.Goals as goal

pub returns-clause-sends : goal.returns-clause-sends
returns-clause-sends g c =
    sends_by _ _ _ lost_or _ _ _ _ _
    (c.as_slice.ensures ∙ c.in_ok-frame.ensures.are ∙ (λ i. message_bytes ((c.tester.ensures ∙ ap tester_of c.self.view_is) i) c.args.unit (c.in_ok-body.ensures i)))
    c.deliver-lost.ensures c.lose.ensures.shows c.lose.ensures.labels
