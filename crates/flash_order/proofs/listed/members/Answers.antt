use Rattle.std.proofs.Common.{◌∙◌, sym}
use Rattle.flash_order.proofs.Steps.{member_count-view}
use Rattle.flash_order.proofs.listed.members.Goals as goal

pub returns : goal.returns
returns c = c.len.ensures.len ∙ sym (member_count-view c.args.map.now.entries)
