use Rattle.std.proofs.Common.{◌∙◌, ap}
use Rattle.disk_model.specs.Disk.{DiskState}
use Rattle.shop_model.specs.History.{disk_now}
use Rattle.mem_disk.specs.Disks.{history_of}
use Rattle.mem_disk.proofs.Calls.{disk_recorded, kept_tried}
use Rattle.mem_disk.proofs.Replays.{no_write}
use Rattle.mem_disk.proofs.disk.MemDisk.disk_call.Goals as goal

pub returns-then-listed-clause-kept : goal.returns-then-listed-clause-kept
returns-then-listed-clause-kept c = kept_tried _ c.args.self.now c.record.new.self c.miss_disk-then-listed.new.self c.record.result c.record.ensures.yes c.record.ensures.no c.miss_disk-then-listed.ensures

pub returns-then-listed-clause-bytes : goal.returns-then-listed-clause-bytes
returns-then-listed-clause-bytes c = ap (λ (d : DiskState). d.bytes) (kept_tried _ c.args.self.now c.record.new.self c.miss_disk-then-listed.new.self c.record.result c.record.ensures.yes c.record.ensures.no c.miss_disk-then-listed.ensures)

pub returns-then-record-clause-done : goal.returns-then-record-clause-done
returns-then-record-clause-done c = disk_recorded _ c.args.good c.args.self.now c.record-2.new.self c.if-record.ensures.yes

pub returns-then-record-clause-bytes : goal.returns-then-record-clause-bytes
returns-then-record-clause-bytes c =
    ap (λ (d : DiskState). d.bytes) (disk_recorded _ c.args.good c.args.self.now c.record-2.new.self c.if-record.ensures.yes)
    ∙ no_write c.args.good c.requires (disk_now (history_of c.args.self.now))
