use Rattle.mem_disk.proofs.Crashes.{ShowsUpTo}
use Rattle.mem_disk.proofs.disk.MemDisk.crash.Given as goal

abbrev pub invariant-loop-i : goal.invariant-loop-i
invariant-loop-i l = ShowsUpTo l.pick l.self.first.items l.self.calls.items l.i l.picture
