use Rattle.std.proofs.Common.{ap, ◌∙◌}
use Rattle.flash_run.specs.Run.{RunState, core_of_run, seen_core, told_seen}
use Rattle.bay_replay.specs.Replays.{core_by}
use Rattle.flash_run.proofs.Taking.{losses_is}
use Rattle.flash_run.proofs.run.Run.losses.Goals as goal

pub returns : goal.returns
returns c =
    losses_is c.args.self.now c.losses.result
    (c.losses.ensures.shows (seen_core c.self.inside.plan.value c.self.inside.starved (core_by c.self.inside.rules c.self.inside.plan.value c.self.inside.found c.self.inside.notes.events)).link (c.link.ensures c.self.inside.plan.value (told_seen c.self.inside.plan.value c.self.inside.rules c.self.inside.found c.self.inside.notes.events c.self.inside.starved) c.self.invariant.holds) ∙ ap (λ (r : RunState). (seen_core r.plan r.starved (core_of_run r)).link.losses) c.self.view_is)
