use Rattle.std.proofs.Common.{refl}
use Rattle.mem_disk.proofs.Calls.{link_begun}
use Rattle.mem_disk.proofs.disk.MemDisk.pass_link.Goals as goal

pub returns : goal.returns
returns c = link_begun _ c.args.self.now c.record-went.new.self _ c.record-went.result c.record-went.ensures.yes c.record-went.ensures.no
    (record { first = refl; failing = refl; calls = refl; idle = refl; made = refl; starves = refl; disk_faults = refl; link_faults = refl; link_calls = refl; linked = refl })
