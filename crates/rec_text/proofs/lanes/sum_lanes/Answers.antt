use Rattle.std.proofs.Common.{arith}
use Rattle.rec_text.proofs.Wide.{steps_fit, fold_small}
use Rattle.rec_text.proofs.lanes.sum_lanes.Goals as goal

pub overflow_add-result : goal.overflow_add-result
overflow_add-result c = steps_fit 0 c.args.v c.fits-v.1 (omega (arith, c.fits-v.0))

pub returns-clause-small : goal.returns-clause-small
returns-clause-small c = omega (arith, c.fits-v.0, fold_small 0 c.args.v c.fits-v.1)
