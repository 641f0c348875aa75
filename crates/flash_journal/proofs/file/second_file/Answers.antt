use Rattle.std.proofs.Common.{List, ℕ, subst, sym}
use Rattle.journal_model.specs.Records.{label_of}
use Rattle.journal_steps.specs.Move.{IsSecond}
use Rattle.flash_journal.proofs.Seconds.{second_parts}
use Rattle.flash_journal.proofs.file.second_file.Goals as goal

pub returns : goal.returns
returns c =
    let P = label_of c.args.plan.now in
    let old = c.args.old.now in
    subst (λ (xs : List ℕ). IsSecond P old xs) (sym c.in_ok-second.ensures.bytes) (second_parts P old c.unit_slots-slots.result c.in_ok-second.ensures.digest c.requires c.unit_slots-slots.ensures.slots)
