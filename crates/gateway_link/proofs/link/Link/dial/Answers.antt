use Rattle.link_state.specs.declared.state.LinkState.{LinkState}
use Rattle.std.proofs.Common.{subst}
use Rattle.std.specs.Prelude.{not}
use Rattle.gateway_link.specs.Link.{Dials}
use Rattle.gateway_link.proofs.Hearing.{dials_by}
use Rattle.gateway_link.proofs.link.Link.dial.Goals as goal

pub returns-clause-dials : goal.returns-clause-dials
returns-clause-dials g c =
    let P : LinkState → Type 0 = λ s. Dials g.S.Shop.tells_vehicle (g.S.Shop.history c.args.shop.now) (g.S.Shop.history c.redial-lost.new.shop) s c.dialed.new.self (not c.redial-lost.result) in
    subst P c.self.view_is (dials_by _ _ _ _ _ _ c.redial-lost.ensures c.dialed.ensures.shows c.dialed.ensures.of)
