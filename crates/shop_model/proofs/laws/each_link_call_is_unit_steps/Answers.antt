use Rattle.shop_model.proofs.Stepping.{are_unit_steps}
use Rattle.shop_model.proofs.laws.each_link_call_is_unit_steps.Goals as goal

pub returns : goal.returns
returns c = are_unit_steps
