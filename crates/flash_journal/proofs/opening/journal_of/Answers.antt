use Rattle.std.proofs.Common.{◌∙◌}
use Rattle.journal_model.specs.Records.{label_of, form_of}
use Rattle.flash_journal.proofs.Opens.{entries_as, read_is_ordered}
use Rattle.flash_journal.proofs.opening.journal_of.Goals as goal

pub returns-clause-ordered : goal.returns-clause-ordered
returns-clause-ordered c =
    let P = label_of c.args.plan.now in
    let front = c.args.front.now in
    let t = c.args.reading.tables in
    read_is_ordered P front t.gates.items t.found.items c.with_tables.result c.requires.journal c.requires.reading.slots.read
    (entries_as c.with_tables.result (form_of P front) t.found.items (c.with_tables.ensures.form ∙ c.requires.reading.form) c.with_tables.ensures.found)
