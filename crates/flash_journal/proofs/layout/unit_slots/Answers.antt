use Rattle.std.proofs.Common.{arith}
use Rattle.flash_journal.proofs.Counts.{count_length}
use Rattle.flash_journal.proofs.layout.unit_slots.Goals as goal

pub returns-clause-slots : goal.returns-clause-slots
returns-clause-slots c = omega (arith, count_length c.args.plan.now, c.units.ensures)
