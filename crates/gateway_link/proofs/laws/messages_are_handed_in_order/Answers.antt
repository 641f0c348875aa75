use Rattle.gateway_link.proofs.Handing.{are_handed}
use Rattle.gateway_link.proofs.laws.messages_are_handed_in_order.Goals as goal

pub returns : goal.returns
returns c = are_handed c.messages_come_in_order.ensures
