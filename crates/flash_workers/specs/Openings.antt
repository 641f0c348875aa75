-- What a bay began with.
use Rattle.flash_bay.specs.State.{BayState}
use Rattle.flash_bay.specs.declared.bay.Opening.{Opening}

-- plan, rules, what was found, and the shop at the opening
abbrev pub opening_of : {S : Type 0} → BayState S → Opening S
opening_of b = record { plan = b.run.plan; rules = b.run.rules; found = b.run.found; shop = b.first }
