use Rattle.std.proofs.Common.{refl}
use Rattle.mem_disk.proofs.Calls.{wrote_tried, wrote_ok, misses_tried}
use Rattle.mem_disk.proofs.disk.MemDisk.write_call.Goals as goal

pub returns-then-listed-clause-disk : goal.returns-then-listed-clause-disk
returns-then-listed-clause-disk c = wrote_tried _ c.args.at _ c.args.bytes.now c.args.self.now c.record.new.self c.miss_disk-then-listed.new.self _ c.record.result refl c.record.ensures.yes c.record.ensures.no c.miss_disk-then-listed.ensures

pub returns-then-record_write-clause-disk : goal.returns-then-record_write-clause-disk
returns-then-record_write-clause-disk c = wrote_ok _ c.args.at c.args.bytes.now c.args.self.now c.record_write.new.self c.requires c.if-record_write.ensures.yes

pub returns-then-listed-clause-listed : goal.returns-then-listed-clause-listed
returns-then-listed-clause-listed c = misses_tried _ c.args.at _ c.args.bytes.now c.args.self.now c.record.new.self c.miss_disk-then-listed.new.self _ c.record.result refl c.record.ensures.yes c.record.ensures.no c.miss_disk-then-listed.ensures
