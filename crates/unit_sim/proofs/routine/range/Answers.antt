use Rattle.std.proofs.Common.{◌/◌, ◌%◌, get_or, refl, arith, ℕ, List}
use Rattle.unit_sim.proofs.Options.{range_there}
use Rattle.unit_sim.proofs.routine.range.Goals as goal

pub returns : goal.returns
returns c =
    let xs : List ℕ = c.args.option.now in
    let d : ℕ = get_or xs 0 0 in
    range_there xs (d % 16) (d / 16) _ _ _ (omega arith) refl refl (omega arith) (omega arith) (omega arith) (omega arith) (omega arith) c.placed.ensures.at c.placed.ensures.size c.placed.ensures.end c.placed.ensures.fits
