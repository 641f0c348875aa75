-- Where the bytes of a task come from: exactly one of a file and a session.
use Rattle.std.specs.Prelude.{ℕ, [], codes, Option, Some, None, option_map, Result, Ok, Err}
use Rattle.serde_json.specs.Data.{Data}
use Rattle.serde_json.specs.Find.{get}
use Rattle.flash_order.specs.declared.fault.FieldFault.{FieldFault}
use Rattle.flash_order.specs.declared.fault.FieldFault.TheVariants.{Bad}
use Rattle.flash_order.specs.declared.order.Source.{Source}
use Rattle.flash_order.specs.declared.order.Source.TheVariants.{Raw, Session}
use Rattle.flash_order.specs.Fields.{◌>>=◌, given, needed, chosen, absent, file, session_id, place, one_byte}
use Rattle.flash_order.specs.Lists.{idents, dids}

abbrev pub raw_source : Data → Data → Result Source FieldFault
raw_source raw d =
    given (codes "raw") (file raw) >>= λ name.
    needed (codes "at") place d >>= λ at.
    chosen (codes "idents") [] idents d >>= λ wanted.
    absent (codes "dids") d (absent (codes "fill") d (Ok (Raw name at wanted)))

abbrev pub fill_byte : Data → Option (Option ℕ)
fill_byte d = option_map Some (one_byte d)

abbrev pub session_source : Data → Data → Result Source FieldFault
session_source session d =
    given (codes "session") (session_id session) >>= λ id.
    absent (codes "at") d (absent (codes "idents") d (
    chosen (codes "dids") [] dids d >>= λ named.
    chosen (codes "fill") None fill_byte d >>= λ fill.
    Ok (Session id named fill)))

abbrev pub source_of : Option Data → Option Data → Data → Result Source FieldFault
source_of (Some raw) None d = raw_source raw d
source_of None (Some session) d = session_source session d
source_of _ _ d = Err (Bad (codes "raw"))

abbrev pub source : Data → Result Source FieldFault
source d = source_of (get (codes "raw") d) (get (codes "session") d) d
