use Rattle.std.proofs.Common.{◌≡◌, ◌++◌, drop}
use Rattle.unit_model.specs.Poll.{bytes_due}
use Rattle.gateway_sim.proofs.queue.due_bytes.Given as goal

abbrev pub invariant-loop-one : goal.invariant-loop-one
invariant-loop-one l = bytes_due l.tick l.later ≡ l.made.items ++ bytes_due l.tick (drop l.one-index l.later)
