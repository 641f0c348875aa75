use Rattle.flash_plan.proofs.plan.Plan.of_units.Goals as goal

pub invariant_of-result : goal.invariant_of-result
invariant_of-result c = record { accepted = c.requires; digest = c.in_ok-digest.ensures }
