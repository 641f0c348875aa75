use Rattle.std.proofs.Common.{[]}
use Rattle.bay_core.specs.declared.event.Event.TheVariants.{Claimed}
use Rattle.bay_replay.specs.Held.{told_after}
use Rattle.bay_replay.specs.Replays.{told_by}
use Rattle.core_tests.proofs.asking.asked_first.Given as goal

abbrev pub ghost-claimed : goal.ghost-claimed
ghost-claimed g a = told_by a.rules.now a.plan.now a.found.now []

abbrev pub ghost-asked : goal.ghost-asked
ghost-asked g a = told_after a.plan.now (Claimed a.unit) (told_by a.rules.now a.plan.now a.found.now [])
