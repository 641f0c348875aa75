use Rattle.std.specs.Prelude.{is_ok}
use Rattle.mem_disk.proofs.Replays.{replay_tried, within_tried}
use Rattle.mem_disk.proofs.disk.MemDisk.record.Goals as goal

pub invariant_of-self-clause-bytes_now : goal.invariant_of-self-clause-bytes_now
invariant_of-self-clause-bytes_now c = replay_tried _ _ _ _ _ (is_ok c.push.result) c.args.self.now.bytes_now c.requires.keeps c.push.ensures.items

pub invariant_of-self-clause-within : goal.invariant_of-self-clause-within
invariant_of-self-clause-within c = within_tried _ _ _ _ (is_ok c.push.result) c.args.self.now.within c.requires.keeps c.push.ensures.items
