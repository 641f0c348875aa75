-- What a request comes to: a change of the unit, a count that is raised, and replies.
use Rattle.std.specs.Prelude.{List}
use Rattle.unit_model.specs.declared.reply.UnitReply.{UnitReply}
use Rattle.unit_model.specs.Unit.{ControlUnit}
use Rattle.unit_sim.specs.declared.outcome.Outcome.{Outcome}
use Rattle.unit_sim.specs.Changes.{changed}
use Rattle.unit_sim.specs.Tallies.{raised_by}

abbrev pub counted_on : Outcome → ControlUnit → ControlUnit
counted_on o u = record (changed o.change u) { counts = raised_by o.raise (changed o.change u).counts }

abbrev pub outcome_of : Outcome → ControlUnit → ControlUnit × List UnitReply
outcome_of o u = (counted_on o u, o.replies.items)
