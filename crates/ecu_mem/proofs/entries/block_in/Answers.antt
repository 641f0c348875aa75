use Rattle.std.proofs.Common.{◌∙◌, ap}
use Rattle.ecu_mem.specs.Refusals.{read_as}
use Rattle.ecu_mem.specs.Elements.{block_of}
use Rattle.ecu_mem.proofs.Steps.{both-same}
use Rattle.ecu_mem.proofs.entries.block_in.Goals as goal

pub returns : goal.returns
returns c = c.block_of.ensures ∙ ap (read_as block_of) (c.both-6.ensures ∙ both-same c.in_ok-id.ensures (c.both-5.ensures ∙ both-same c.in_ok-name.ensures (c.both-4.ensures ∙ both-same c.in_ok-flash.ensures (c.both-3.ensures ∙ both-same c.in_ok-filters.ensures (c.both-2.ensures ∙ both-same c.in_ok-segments.ensures (c.both.ensures ∙ both-same c.in_ok-offset.ensures c.in_ok-own.ensures))))))
