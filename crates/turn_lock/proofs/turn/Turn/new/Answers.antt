use Rattle.turn_lock.proofs.Passes.{starts}
use Rattle.turn_lock.proofs.turn.Turn.new.Goals as goal

pub new-requires : goal.new-requires
new-requires g c = rw (c.of-about.ensures, c.in_default.ensures.items, c.new-slots.ensures.items) (starts _ _ c.args.value c.count-seen.ensures.few)
