use Rattle.std.proofs.Common.{rules}
use Rattle.mem_disk.proofs.Replays.{replay_wrote, within_wrote}
use Rattle.mem_disk.proofs.disk.MemDisk.record_write.Goals as goal

pub invariant_of-self-clause-bytes_now : goal.invariant_of-self-clause-bytes_now
invariant_of-self-clause-bytes_now c = replay_wrote _ _ _ _ _ _ _ _ _ c.args.self.now.bytes_now c.deref.ensures.value c.in-Ok.ensures c.in-Ok-copied.ensures c.in-Ok-push.ensures.items

pub invariant_of-self-clause-within : goal.invariant_of-self-clause-within
invariant_of-self-clause-within c = within_wrote _ _ _ _ _ _ c.args.self.now.bytes_now c.requires.within c.args.self.now.within c.in-Ok-push.ensures.items

pub returns-in-Ok-push-clause-yes : goal.returns-in-Ok-push-clause-yes
returns-in-Ok-push-clause-yes c = (c.in-Ok-copied.copy, c.in-Ok-copied.ensures, search rules)
