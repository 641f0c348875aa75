use Rattle.std.proofs.Common.{ℕ, ◌∙◌, ap, subst}
use Rattle.std.specs.Prelude.{not}
use Rattle.doip_frame.specs.Frame.{activate_bytes}
use Rattle.gateway_link.specs.Link.{Sends}
use Rattle.gateway_link.proofs.Hearing.{sends_by, lives}
use Rattle.link_state.specs.State.{tester_of, phase_now}
use Rattle.link_state.specs.declared.state.LinkState.{LinkState}
use Rattle.run_model.specs.Link.{asked_link, is_dialed}
use Rattle.gateway_link.proofs.link.Link.ask.Goals as goal

pub returns-clause-sends : goal.returns-clause-sends
returns-clause-sends g c =
    let P : LinkState → Type 0 =
    λ s. Sends g.S.Shop.tells_vehicle (activate_bytes (tester_of c.args.self.now)) asked_link (g.S.Shop.history c.args.shop.now) (g.S.Shop.history c.deliver-lost.new.shop) s c.asked.new.self (not c.deliver-lost.result) in
    subst P c.self.view_is (sends_by _ _ _ asked_link _ _ _ _ _
    (c.as_slice.ensures ∙ c.in_ok-frame.ensures.are ∙ ap (λ (t : ℕ). activate_bytes t) (c.tester.ensures ∙ ap tester_of c.self.view_is))
    c.deliver-lost.ensures (λ l s. c.asked.ensures.shows l (lives _ l s (ap (λ (x : LinkState). is_dialed (phase_now x)) c.self.view_is ∙ c.requires.fresh)) s) c.asked.ensures.of)
