-- The slots of a journal in memory.
use Rattle.std.specs.Prelude.{ℕ, List, Option, Some, None, if◌then◌else◌}
use Rattle.flash_plan.specs.declared.outcome.Entry.{Entry}
use Rattle.journal_model.specs.Records.{Label, Form, old_form, new_form, behind, is_new, is_migrated, names}
use Rattle.journal_steps.specs.Tables.{place_of}
use Rattle.flash_journal.specs.declared.layout.Layout.{Layout}
use Rattle.flash_journal.specs.declared.layout.Version.{Version}
use Rattle.flash_journal.specs.declared.layout.Version.TheVariants.{Old, New, Moved}

abbrev pub layout_form : Layout → Form
layout_form l = record { at = l.at; units = l.units; segments = l.segments.items }

-- the version of an image, by its bytes 8 and 63
abbrev pub version_seen : List ℕ → Version
version_seen image = if is_new image then New else (if is_migrated image then Moved else Old)

-- the slots that count in it
abbrev pub form_as : Label → Version → Form
form_as P Old = old_form P
form_as P New = new_form P 0
form_as P Moved = new_form P (behind P)

-- the place of an entry that the form has
abbrev pub place_in : Form → Entry → Option ℕ
place_in F e = if names F e then Some (place_of F e) else None
