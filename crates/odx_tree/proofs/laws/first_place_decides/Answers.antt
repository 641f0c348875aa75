use Rattle.odx_tree.proofs.Order.{element-order}
use Rattle.odx_tree.proofs.laws.first_place_decides.Goals as goal

pub returns : goal.returns
returns c = element-order
