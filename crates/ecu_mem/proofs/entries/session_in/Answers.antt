use Rattle.std.proofs.Common.{◌∙◌, ap}
use Rattle.ecu_mem.specs.Refusals.{read_as}
use Rattle.ecu_mem.specs.Elements.{session_of}
use Rattle.ecu_mem.proofs.Steps.{both-same}
use Rattle.ecu_mem.proofs.entries.session_in.Goals as goal

pub returns : goal.returns
returns c = c.session_of.ensures ∙ ap (read_as session_of) (c.both-4.ensures ∙ both-same c.in_ok-id.ensures (c.both-3.ensures ∙ both-same c.in_ok-name.ensures (c.both-2.ensures ∙ both-same c.in_ok-idents.ensures (c.both.ensures ∙ both-same c.in_ok-checks.ensures c.in_ok-refs.ensures))))
