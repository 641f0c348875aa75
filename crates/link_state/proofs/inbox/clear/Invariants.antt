use Rattle.std.proofs.Common.{◌≡◌, ◌<◌, ℕ, [], length}
use Rattle.link_state.specs.Inboxes.{queue_at}
use Rattle.link_state.proofs.inbox.clear.Given as goal

abbrev pub invariant-loop-i : goal.invariant-loop-i
invariant-loop-i l = record {
  size : length l.inboxes.items ≡ length l.initial.inboxes.items;
  none : (k : ℕ) → k < l.i → queue_at l.inboxes.items k ≡ [];
}
