use Rattle.std.proofs.Common.{◌≡◌, ◌*◌, ◌++◌, ◌∙◌}
use Rattle.std.specs.Prelude.{replicate}
use Rattle.flash_journal.proofs.file.put_second.Goals as goal

pub returns-clause-bytes : goal.returns-clause-bytes
returns-clause-bytes c =
    let marks = c.mark_slots-marks.ensures.slots in
    c.in_ok-push_zeros-3.ensures ∙ (λ i. (c.in_ok-extend_from_slice-2.ensures.items ∙ (λ j. (c.in_ok-push_zeros-2.ensures
    ∙ (λ k. (c.in_ok-extend_from_slice.ensures.items ∙ (λ l. (c.in_ok-push_zeros.ensures ∙ (λ m. c.in_ok-file.ensures.bytes m ++ replicate 16 0)) l ++ c.args.gates.now)) k ++ replicate (marks k) 0)) j
    ++ c.args.bodies.now)) i ++ replicate (16 * marks i) 0)
