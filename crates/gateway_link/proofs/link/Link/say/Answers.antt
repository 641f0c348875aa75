use Rattle.std.proofs.Common.{ℕ, ◌∙◌, ap, subst}
use Rattle.std.specs.Prelude.{not}
use Rattle.doip_frame.specs.Frame.{alive_say_bytes}
use Rattle.gateway_link.specs.Link.{Sends}
use Rattle.gateway_link.proofs.Hearing.{sends_by}
use Rattle.link_state.specs.State.{tester_of}
use Rattle.link_state.specs.declared.state.LinkState.{LinkState}
use Rattle.run_model.specs.Link.{said_link}
use Rattle.gateway_link.proofs.link.Link.say.Goals as goal

pub returns-clause-sends : goal.returns-clause-sends
returns-clause-sends g c =
    let P : LinkState → Type 0 =
    λ s. Sends g.S.Shop.tells_vehicle (alive_say_bytes (tester_of c.args.self.now)) said_link (g.S.Shop.history c.args.shop.now) (g.S.Shop.history c.deliver-lost.new.shop) s c.said.new.self (not c.deliver-lost.result) in
    subst P c.self.view_is (sends_by _ _ _ said_link _ _ _ _ _
    (c.as_slice.ensures ∙ c.in_ok-frame.ensures.are ∙ ap (λ (t : ℕ). alive_say_bytes t) (c.tester.ensures ∙ ap tester_of c.self.view_is))
    c.deliver-lost.ensures (c.said.ensures.shows) c.said.ensures.of)
