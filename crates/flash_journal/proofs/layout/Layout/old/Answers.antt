use Rattle.std.proofs.Common.{◌≡◌, ◌∙◌, List, ℕ, sym, arith}
use Rattle.journal_model.specs.Records.{Form, segment_counts}
use Rattle.flash_journal.proofs.Counts.{count_length}
use Rattle.flash_journal.proofs.layout.Layout.old.Goals as goal

pub returns : goal.returns
returns c =
    let units = c.units-units.ensures ∙ sym (count_length c.args.plan.now) in
    let none = c.new.ensures.items in
    λ i. record { at = 0; units = units i; segments = none i }
