use Rattle.link_state.proofs.Arriving.{inbox_laws}
use Rattle.link_state.proofs.laws.messages_come_in_order.Goals as goal

pub returns : goal.returns
returns c = inbox_laws
