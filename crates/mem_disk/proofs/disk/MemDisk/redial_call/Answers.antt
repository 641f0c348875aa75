use Rattle.mem_disk.proofs.Calls.{link_went}
use Rattle.mem_disk.proofs.disk.MemDisk.redial_call.Goals as goal

pub returns-then-went-clause-call : goal.returns-then-went-clause-call
returns-then-went-clause-call c = link_went _ c.args.self.now c.record-went.new.self c.connect.new.self tt c.if-went.ensures.yes c.connect.ensures.counted
