use Rattle.std.proofs.Common.{◌≡◌, ◌∙◌, ◌≤◌, ℕ, length, take, ap, arith}
use Rattle.std.specs.Prelude.{min, drop}
use Rattle.journal_steps.specs.Tables.{open_run, closed_run}
use Rattle.flash_journal.specs.Kept.{journal_label, has_entry, first_closed, room_of}
use Rattle.flash_journal.proofs.Appends.{first_of, room_first, may_first, adds_first}
use Rattle.flash_journal.proofs.Runs.{rest_is}
use Rattle.flash_journal.proofs.journal.Journal.append_group.Goals as goal

pub record_run-requires-clause-room : goal.record_run-requires-clause-room
record_run-requires-clause-room g c =
    let j = c.args.self.now in
    let at : c.open_run-slot.result ≡ first_closed j = c.open_run-slot.ensures.run ∙ ap open_run c.deref.ensures.value in
    let room : c.closed_run-room.result ≡ room_of j = c.closed_run-room.ensures.run ∙ ap closed_run (rest_is c.deref-2.result.now c.open_run-slot.result)
    ∙ (λ i. closed_run (drop (at i) (c.deref-2.ensures.value i))) in
    let is : c.min-count.result ≡ min (length c.args.entries.now) (room_of j) = c.min-count.ensures ∙ ap (λ (n : ℕ). min (length c.args.entries.now) n) room in
    room_first j c.args.entries.now c.open_run-slot.result c.min-count.result at is

pub record_run-requires-clause-entries : goal.record_run-requires-clause-entries
record_run-requires-clause-entries g c =
    let j = c.args.self.now in
    let at : c.open_run-slot.result ≡ first_closed j = c.open_run-slot.ensures.run ∙ ap open_run c.deref.ensures.value in
    let room : c.closed_run-room.result ≡ room_of j = c.closed_run-room.ensures.run ∙ ap closed_run (rest_is c.deref-2.result.now c.open_run-slot.result)
    ∙ (λ i. closed_run (drop (at i) (c.deref-2.ensures.value i))) in
    let is : c.min-count.result ≡ min (length c.args.entries.now) (room_of j) = c.min-count.ensures ∙ ap (λ (n : ℕ). min (length c.args.entries.now) n) room in
    may_first j c.args.entries.now c.min-count.result c.requires.entries is

pub returns-in-Ok-clause-some : goal.returns-in-Ok-clause-some
returns-in-Ok-clause-some g c =
    let j = c.args.self.now in
    let at : c.open_run-slot.result ≡ first_closed j = c.open_run-slot.ensures.run ∙ ap open_run c.deref.ensures.value in
    let room : c.closed_run-room.result ≡ room_of j = c.closed_run-room.ensures.run ∙ ap closed_run (rest_is c.deref-2.result.now c.open_run-slot.result)
    ∙ (λ i. closed_run (drop (at i) (c.deref-2.ensures.value i))) in
    let is : c.min-count.result ≡ min (length c.args.entries.now) (room_of j) = c.min-count.ensures ∙ ap (λ (n : ℕ). min (length c.args.entries.now) n) room in
    omega (arith, is, c.requires.entries.some, first_of j c.args.entries.now c.requires.entries)

pub returns-in-Ok-clause-any_moment : goal.returns-in-Ok-clause-any_moment
returns-in-Ok-clause-any_moment g c = λ told. adds_first (journal_label c.args.self.now) (has_entry c.args.self.now) c.args.entries.now c.min-count.result _ _ (c.record_run.ensures.any_moment told)

pub returns-in-Err-clause-any_moment : goal.returns-in-Err-clause-any_moment
returns-in-Err-clause-any_moment g c = λ told. adds_first (journal_label c.args.self.now) (has_entry c.args.self.now) c.args.entries.now c.min-count.result _ _ (c.record_run.ensures.any_moment told)
