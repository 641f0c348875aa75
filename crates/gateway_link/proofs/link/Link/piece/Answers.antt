use Rattle.std.proofs.Common.{sym, ◌∙◌, ap, subst, true, false, Some}
use Rattle.gateway_link.specs.Link.{Hears}
use Rattle.gateway_link.specs.declared.calls.Came.TheVariants.{Piece}
use Rattle.gateway_link.specs.declared.link.Polled.TheVariants.{Bytes, Lost}
use Rattle.gateway_link.proofs.Hearing.{heard_piece}
use Rattle.link_state.specs.State.{phase_now}
use Rattle.link_state.specs.declared.state.LinkState.{LinkState}
use Rattle.run_model.specs.Link.{is_open}
use Rattle.gateway_link.proofs.link.Link.piece.Goals as goal

pub returns-then-has_lost-clause-hears : goal.returns-then-has_lost-clause-hears
returns-then-has_lost-clause-hears c =
    let P : LinkState → Type 0 = λ s. Hears (Piece c.args.bytes) s c.piece.new.self (Lost (Some c.args.bytes)) in
    subst P c.self.view_is (heard_piece _ c.piece.new.self _ _ _ true c.as_slice.ensures (ap (λ (s : LinkState). is_open (phase_now s)) c.self.view_is ∙ c.requires.open)
    c.losses-before.ensures.shows c.in_ok-piece.ensures.shows (λ l s. sym c.if-has_lost.true ∙ c.has_lost.ensures l s))

pub returns-else-has_lost-clause-hears : goal.returns-else-has_lost-clause-hears
returns-else-has_lost-clause-hears c =
    let P : LinkState → Type 0 = λ s. Hears (Piece c.args.bytes) s c.piece.new.self (Bytes c.args.bytes) in
    subst P c.self.view_is (heard_piece _ c.piece.new.self _ _ _ false c.as_slice.ensures (ap (λ (s : LinkState). is_open (phase_now s)) c.self.view_is ∙ c.requires.open)
    c.losses-before.ensures.shows c.in_ok-piece.ensures.shows (λ l s. sym c.if-has_lost.false ∙ c.has_lost.ensures l s))
