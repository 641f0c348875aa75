use Rattle.std.proofs.Common.{◌≡◌}
use Rattle.serde_json.specs.View.{members_view}
use Rattle.flash_order.specs.Listed.{is_order_member, stranger}
use Rattle.flash_order.proofs.listed.order_stranger.Given as goal

abbrev pub invariant-loop-name : goal.invariant-loop-name
invariant-loop-name l = stranger is_order_member (members_view l.map.entries) ≡ stranger is_order_member (members_view l.name-iterator)
