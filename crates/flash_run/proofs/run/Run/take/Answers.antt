use Rattle.std.proofs.Common.{◌≡◌, refl, sym, ap, ◌∙◌}
use Rattle.flash_run.specs.Run.{RunState}
use Rattle.flash_run.proofs.Taking.{taken_logged, few_ticks_of, note_holds, note_seen, note_may, note_room}
use Rattle.flash_run.proofs.run.Run.take.Goals as goal

pub take_in-requires : goal.take_in-requires
take_in-requires c =
    let same : c.args.plan.now ≡ c.self.inside.plan.value = c.requires.plan ∙ sym (ap (λ (r : RunState). r.plan) c.self.view_is) in (
      note_holds c.args.self.now c.args.plan.now c.self.inside.plan.value c.self.inside.rules c.self.inside.found c.self.inside.notes c.self.inside.starved same c.self.view_is c.self.inside.core c.self.invariant.holds,
      (refl, (few_ticks_of c.args.plan.now c.self.inside.rules c.self.inside.found c.self.inside.notes.events c.self.inside.starved c.count-few.ensures.few, note_seen c.args.self.now c.args.plan.now c.self.inside.plan.value c.self.inside.rules c.self.inside.found c.self.inside.notes c.self.inside.starved same c.self.view_is c.args.event c.requires.allowed)),
    )

pub invariant_of-self : goal.invariant_of-self
invariant_of-self c =
    let same : c.args.plan.now ≡ c.self.inside.plan.value = c.requires.plan ∙ sym (ap (λ (r : RunState). r.plan) c.self.view_is) in
    let may = note_may c.args.self.now c.args.plan.now c.self.inside.plan.value c.self.inside.rules c.self.inside.found c.self.inside.notes c.self.inside.starved same c.self.view_is c.args.event c.requires.allowed in
    taken_logged c.args.plan.now c.self.inside.plan.value c.self.inside.rules c.self.inside.found c.self.inside.notes c.note.new.self c.self.inside.starved c.self.inside.core c.take_in.new.core c.args.event same c.note.ensures c.self.invariant may.0 may.1
    c.in-Ok.ensures.holds (note_room c.args.self.now c.args.plan.now c.self.inside.plan.value c.self.inside.rules c.self.inside.found c.self.inside.notes c.self.inside.starved same c.self.view_is c.args.event c.requires.room)
