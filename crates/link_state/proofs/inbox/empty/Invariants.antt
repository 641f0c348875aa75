use Rattle.std.proofs.Common.{◌≡◌, ℕ, [], length}
use Rattle.link_state.specs.Inboxes.{queue_at}
use Rattle.link_state.proofs.inbox.empty.Given as goal

abbrev pub invariant-loop : goal.invariant-loop
invariant-loop l = record {
  size : length l.inboxes.items ≡ l.counter;
  none : (k : ℕ) → queue_at l.inboxes.items k ≡ [];
}
