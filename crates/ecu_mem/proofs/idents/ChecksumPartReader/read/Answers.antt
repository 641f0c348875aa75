use Rattle.std.proofs.Common.{◌∙◌, ap}
use Rattle.ecu_mem.specs.Refusals.{read_as}
use Rattle.ecu_mem.specs.Elements.{check_of}
use Rattle.ecu_mem.proofs.Steps.{both-same}
use Rattle.ecu_mem.proofs.idents.ChecksumPartReader.read.Goals as goal

pub returns : goal.returns
returns c = c.check_of.ensures ∙ ap (read_as check_of) (c.both-4.ensures ∙ both-same c.in_ok-name.ensures (c.both-3.ensures ∙ both-same c.in_ok-fill.ensures (c.both-2.ensures ∙ both-same c.in_ok-range.ensures (c.both.ensures ∙ both-same c.in_ok-alg.ensures c.in_ok-bytes.ensures))))
