use Rattle.std.proofs.Common.{sym, ap, refl, ◌∙◌}
use Rattle.std.specs.Prelude.{Option, is_some}
use Rattle.link_state.specs.Inboxes.{first_of, queue_at}
use Rattle.run_model.specs.Ways.{UnitMessage}
use Rattle.link_state.proofs.Keeping.{first_took, spoken_some}
use Rattle.link_state.proofs.state.LinkState.has_message.Goals as goal

pub returns-in-Some : goal.returns-in-Some
returns-in-Some c = λ l s known.
    let boxes = c.args.self.now.inboxes.items in
    c.has_any.ensures ∙ sym (spoken_some (first_of (queue_at boxes c.in-Some.n)))
    ∙ ap (λ (w : Option UnitMessage). is_some w)
    (first_took c.args.self.now.units.items boxes boxes c.in-Some.n c.args.unit l.inbox s.body.distinct c.in-Some.ensures s.body.inbox (λ k ne. refl) (first_of (queue_at boxes c.in-Some.n)) refl)
