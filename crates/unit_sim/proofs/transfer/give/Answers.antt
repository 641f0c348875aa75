use Rattle.std.proofs.Common.{◌≡◌, Some, true, arith, ℕ}
use Rattle.unit_model.specs.Rules.{transfer_in}
use Rattle.unit_sim.proofs.Ranges.{next_block}
use Rattle.unit_sim.proofs.transfer.give.Goals as goal

pub block-requires : goal.block-requires
block-requires c =
    let was : transfer_in c.args.unit.now.memory (Some c.in-Some.t) ≡ true = rw c.in-Some.is at c.args.unit.now.open_range in
    let size : ℕ = c.block_up-size.result in
    next_block _ c.in-Some.t size was (omega (arith, c.block_up-size.ensures)) (omega (arith, c.block_up-size.ensures))
