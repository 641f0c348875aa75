use Rattle.std.proofs.Common.{ℕ, subst, sym}
use Rattle.std.specs.Prelude.{Option}
use Rattle.flash_workers.proofs.Turns.{claimed_unit, claims_by, grows_claims}
use Rattle.flash_workers.proofs.holding.claim_at.Goals as goal
use Rattle.flash_workers.specs.Crew.{ClaimsBy, HasUnit}
use Rattle.flash_workers.specs.Openings.{opening_of}

pub returns-clause-grows : goal.returns-clause-grows
returns-clause-grows g c = grows_claims c.args.bay.now c.claim.new.self c.claim.result c.claim.ensures

pub returns-clause-claims : goal.returns-clause-claims
returns-clause-claims g c =
    subst (λ (x : Option ℕ). ClaimsBy (opening_of c.args.bay.now) c.args.bay.now.run.events x c.claim.new.self.run.events) (sym c.unit_of.ensures)
    (claims_by c.args.bay.now c.claim.new.self c.claim.result c.claim.ensures)

pub returns-clause-unit : goal.returns-clause-unit
returns-clause-unit g c =
    subst (HasUnit c.args.plan.now) (sym c.unit_of.ensures) (claimed_unit c.args.plan.now c.args.bay.now c.claim.new.self c.claim.result c.requires c.claim.ensures)
