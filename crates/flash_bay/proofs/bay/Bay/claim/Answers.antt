use Rattle.flash_bay.proofs.Calls.{claim_keeps}
use Rattle.flash_bay.proofs.bay.Bay.claim.Goals as goal

pub invariant_of-self : goal.invariant_of-self
invariant_of-self g c =
    claim_keeps g.S.Shop.tells_disk g.S.Shop.tells_vehicle c.self.inside.run c.claim.new.self c.claim.result (g.S.Shop.history c.self.inside.first.value) (g.S.Shop.history c.self.inside.shop) c.self.inside.journal
    c.claim.ensures c.self.invariant
