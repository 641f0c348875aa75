use Rattle.std.proofs.Common.{refl}
use Rattle.mem_disk.proofs.Calls.{link_tried}
use Rattle.mem_disk.proofs.disk.MemDisk.link_call.Goals as goal

pub returns-clause-call : goal.returns-clause-call
returns-clause-call c = link_tried _ c.args.self.now c.record.new.self _ c.miss_link-2.new.self _ c.record.result c.record.ensures.yes c.record.ensures.no
    (record { first = refl; calls = refl; idle = refl; made = refl; disk_faults = refl; link_faults = refl; link_calls = refl }) c.miss_link-2.ensures
