use Rattle.std.proofs.Common.{◌≡◌, ◌++◌, ap, ◌∙◌}
use Rattle.doip_frame.specs.Frame.{cut_frame, Partial}
use Rattle.doip_frame.proofs.Feeds.{left_part, bounded}
use Rattle.doip_frame.proofs.Looks.{part_bound}
use Rattle.doip_frame.proofs.deframer.Deframer.feed.Goals as goal

pub invariant_of-self-2 : goal.invariant_of-self-2
invariant_of-self-2 c = ap cut_frame c.in_ok-fed.ensures.held ∙ left_part (c.self.inside.held.items ++ c.args.piece.now)

pub returns-clause-bound : goal.returns-clause-bound
returns-clause-bound c =
    let part : cut_frame c.feed_into.new.held.items ≡ Partial = ap cut_frame c.in_ok-fed.ensures.held ∙ left_part (c.self.inside.held.items ++ c.args.piece.now) in
    bounded c.is_some-self-inside.result c.feed_into.new.held.items (part_bound c.feed_into.new.held.items part)
