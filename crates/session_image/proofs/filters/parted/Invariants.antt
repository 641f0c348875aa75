use Rattle.std.proofs.Common.{◌≡◌, ◌+◌, ◌<◌, ◌≤◌, ℕ, true, take, get_or, length}
use Rattle.flash_base.specs.Lists.{Each}
use Rattle.span_store.specs.ByteMap.{top}
use Rattle.session_image.specs.Content.{is_in_one}
use Rattle.session_image.specs.Filtering.{Apart}
use Rattle.session_image.proofs.filters.parted.Given as goal

abbrev pub invariant-loop-range : goal.invariant-loop-range
invariant-loop-range l = record {
  ascend : Apart 0 l.parted.items;
  ended : Each (λ r. r.0 + r.1 ≤ l.reached) l.parted.items;
  within : l.reached ≤ top;
  same : (a : ℕ) → is_in_one l.parted.items a ≡ is_in_one (take l.range-index l.ranges) a;
  reached : (j a : ℕ) → l.range-index ≤ j → j < length l.ranges → (get_or l.ranges j (0, 0)).0 ≤ a → a < l.reached → is_in_one (take l.range-index l.ranges) a ≡ true;
}
