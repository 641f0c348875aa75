-- What bytes are read as.
use Rattle.std.specs.Prelude.{Option, None, Some}
use Rattle.uds_codec.specs.declared.request.Request.{Request}
use Rattle.uds_codec.specs.declared.request.Request.TheVariants.{Transfer}
use Rattle.uds_codec.specs.Form.{HasForm}
use Rattle.unit_sim.specs.declared.asked.Asked.{Asked}
use Rattle.unit_sim.specs.declared.asked.Asked.TheVariants.{Block, Other, Unknown}

abbrev pub asked_of : Asked → Option Request
asked_of (Block counter body) = Some (Transfer counter body.now)
asked_of (Other request) = Some request
asked_of Unknown = None

-- what is read has a spelling
abbrev pub IsFormed : Option Request → Type 0
IsFormed None = Unit {0}
IsFormed (Some r) = HasForm r
