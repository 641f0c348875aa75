use Rattle.std.proofs.Common.{◌≡◌, ◌∙◌, ◌<◌, ◌≤◌, List, ℕ, Bool, true, length, sym, subst, ap, arith}
use Rattle.std.specs.List.{list_all}
use Rattle.flash_plan.specs.declared.outcome.Entry.{Entry}
use Rattle.journal_model.specs.Records.{Form, label_of, form_of, end_of, is_formed, is_distinct, is_ordered}
use Rattle.journal_steps.specs.Read.{needs_none}
use Rattle.journal_steps.proofs.Listing.{read_ordered}
use Rattle.flash_journal.specs.Layouts.{layout_form, form_as}
use Rattle.flash_journal.specs.Seen.{HasSlots, AreSlots}
use Rattle.flash_journal.proofs.Looks.{standing_short, standing_all, standing_unordered}
use Rattle.flash_journal.proofs.Versions.{form_seen}
use Rattle.flash_journal.proofs.verdict.standing.Goals as goal

pub returns-then-bytes-end : goal.returns-then-bytes-end
returns-then-bytes-end c =
    let P = label_of c.args.plan.now in
    let bytes = c.args.bytes.now in
    let form : layout_form c.in_ok-layout.layout ≡ form_of P bytes = c.in_ok-layout.ensures ∙ ap (form_as P) c.version_of-version.ensures ∙ form_seen P bytes in
    standing_short P bytes (omega (arith, c.if-bytes-end.true, c.end.ensures, ap end_of form))

pub returns-then-ordered : goal.returns-then-ordered
returns-then-ordered c =
    let P = label_of c.args.plan.now in
    let bytes = c.args.bytes.now in
    let F = form_of P bytes in
    let t = c.in-Some.tables in
    let form : layout_form c.in_ok-layout.layout ≡ F = c.in_ok-layout.ensures ∙ ap (form_as P) c.version_of-version.ensures ∙ form_seen P bytes in
    let read = rw c.in-Some.is at c.in_ok-tables.ensures in
    let formed : is_formed F bytes ≡ true = subst (λ (G : Form). is_formed G bytes ≡ true) form read.0 in
    let distinct : is_distinct F bytes ≡ true = subst (λ (G : Form). is_distinct G bytes ≡ true) form read.1 in
    let slots : HasSlots F bytes t = subst (λ (G : Form). HasSlots G bytes t) form read.2 in
    let ordered : is_ordered F bytes ≡ true = read_ordered F bytes t.gates.items t.found.items t.entries.items slots.read slots.listed
    ∙ sym (c.if-ordered.ensures ∙ (λ i. list_all (needs_none (c.deref.ensures.value i)) (c.deref-2.ensures.value i))) in (
      standing_all P bytes (sym c.if-not-counted.ensures) (sym c.if-not-seconded.ensures) (omega (arith, c.if-bytes-end.false, c.end.ensures, ap end_of form)) formed distinct ordered,
      record { version = c.version_of-version.ensures; form = form; slots = slots },
    )

pub returns-else-ordered : goal.returns-else-ordered
returns-else-ordered c =
    let P = label_of c.args.plan.now in
    let bytes = c.args.bytes.now in
    let F = form_of P bytes in
    let t = c.in-Some.tables in
    let form : layout_form c.in_ok-layout.layout ≡ F = c.in_ok-layout.ensures ∙ ap (form_as P) c.version_of-version.ensures ∙ form_seen P bytes in
    let read = rw c.in-Some.is at c.in_ok-tables.ensures in
    let slots : HasSlots F bytes t = subst (λ (G : Form). HasSlots G bytes t) form read.2 in
    standing_unordered P bytes (read_ordered F bytes t.gates.items t.found.items t.entries.items slots.read slots.listed
    ∙ sym (c.if-ordered.ensures ∙ (λ i. list_all (needs_none (c.deref.ensures.value i)) (c.deref-2.ensures.value i))))
