use Rattle.std.proofs.Common.{◌≡◌, ◌+◌, ◌-◌, ◌*◌, ◌++◌, drop}
use Rattle.unit_model.specs.Saving.{chunks, chunks_of}
use Rattle.unit_model.proofs.memory.saving.push_chunks.Given as goal

abbrev pub invariant-loop-i : goal.invariant-loop-i
invariant-loop-i l = l.patches.items ++ chunks (l.count - l.i) (l.at + l.i * 4096) (drop (l.i * 4096) l.bytes) ≡ l.initial.patches.items ++ chunks_of l.at l.bytes
