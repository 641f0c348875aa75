use Rattle.std.proofs.Common.{ap, ◌∙◌}
use Rattle.flash_run.specs.Run.{RunState, core_of_run, seen_core, told_seen}
use Rattle.bay_replay.specs.Replays.{core_by}
use Rattle.link_state.specs.State.{link_phase}
use Rattle.flash_run.proofs.Taking.{phase_is}
use Rattle.flash_run.proofs.run.Run.phase.Goals as goal

pub returns : goal.returns
returns c =
    phase_is c.args.self.now (link_phase c.phase.result) c.requires
    (c.phase.ensures.shows (seen_core c.self.inside.plan.value c.self.inside.starved (core_by c.self.inside.rules c.self.inside.plan.value c.self.inside.found c.self.inside.notes.events)).link (c.link.ensures c.self.inside.plan.value (told_seen c.self.inside.plan.value c.self.inside.rules c.self.inside.found c.self.inside.notes.events c.self.inside.starved) c.self.invariant.holds) ∙ ap (λ (r : RunState). (seen_core r.plan r.starved (core_of_run r)).link.phase) c.self.view_is)
