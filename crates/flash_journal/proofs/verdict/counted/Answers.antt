use Rattle.std.proofs.Common.{◌≡◌, ◌∙◌, ℕ, false, ap}
use Rattle.journal_model.specs.Records.{label_of, is_new, says_slots}
use Rattle.flash_journal.proofs.Versions.{not_new, counts_old, neither}
use Rattle.flash_journal.proofs.verdict.counted.Goals as goal

pub returns-in-Old : goal.returns-in-Old
returns-in-Old c =
    let P = label_of c.args.plan.now in
    let bytes = c.args.bytes.now in
    let old : is_new bytes ≡ false = not_new bytes c.args.version c.requires.version (neither c.args.version c.in-Old.is) in
    c.says_slots-in-Old.ensures ∙ ap (λ (n : ℕ). says_slots bytes 0 n) c.unit_slots.ensures.slots ∙ counts_old P bytes old
