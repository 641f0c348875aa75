use Rattle.std.proofs.Common.{◌≡◌, ℕ, suc, true, false, get_or, subst, refl, sym, ◌∙◌, ap, arith}
use Rattle.std.specs.Prelude.{slice_index}
use Rattle.std.proofs.lemmas.Bool.{and_left, and_right, eq-eqb}
use Rattle.flash_plan.specs.declared.outcome.Entry.{Entry}
use Rattle.journal_model.specs.Records.{is_open, spells, stands_at, body_of}
use Rattle.journal_steps.proofs.Reading.{bad_form, bad_name, bad_twice}
use Rattle.journal_steps.proofs.Tables.{index_is}
use Rattle.flash_journal.specs.Layouts.{layout_form}
use Rattle.flash_journal.proofs.OneSlot.{slot_noted}
use Rattle.flash_journal.proofs.Versions.{placed_some, placed_none}
use Rattle.flash_journal.proofs.tables.read_slot.Goals as goal

pub returns-in_default : goal.returns-in_default
returns-in_default c =
    let F = layout_form c.args.layout.now in
    let bytes = c.args.bytes.now in
    let k = c.args.slot in
    let opened : is_open F bytes k ≡ true = eq-eqb _ _ (ap (λ (i : ℕ). slice_index bytes i) (sym c.gate_at.ensures.place) ∙ c.if-bytes-gate_at.false) in
    and_left _ _ (bad_form F bytes k c.requires.slot opened
    (subst (λ (p : ℕ). (e : Entry) → stands_at bytes p 16 (body_of e) ≡ false) c.body_at.ensures.place (c.in_default.ensures.none refl)))

pub returns-in_default-place : goal.returns-in_default-place
returns-in_default-place c =
    let F = layout_form c.args.layout.now in
    let bytes = c.args.bytes.now in
    let k = c.args.slot in
    let e = c.in-Some.entry in
    let opened : is_open F bytes k ≡ true = eq-eqb _ _ (ap (λ (i : ℕ). slice_index bytes i) (sym c.gate_at.ensures.place) ∙ c.if-bytes-gate_at.false) in
    let spelt : spells F bytes k e ≡ true = subst (λ (p : ℕ). stands_at bytes p 16 (body_of e) ≡ true) c.body_at.ensures.place c.in-Some.ensures.some in
    and_left _ _ (bad_name F bytes k e c.requires.slot opened spelt (placed_none F e c.in_default-place.ensures.place))

pub returns-then-index : goal.returns-then-index
returns-then-index c =
    let F = layout_form c.args.layout.now in
    let bytes = c.args.bytes.now in
    let k = c.args.slot in
    let e = c.in-Some.entry in
    let found = c.args.tables.now.found.items in
    let opened : is_open F bytes k ≡ true = eq-eqb _ _ (ap (λ (i : ℕ). slice_index bytes i) (sym c.gate_at.ensures.place) ∙ c.if-bytes-gate_at.false) in
    let spelt : spells F bytes k e ≡ true = subst (λ (p : ℕ). stands_at bytes p 16 (body_of e) ≡ true) c.body_at.ensures.place c.in-Some.ensures.some in
    let placed = placed_some F e c.in-Some-place.place c.in-Some-place.ensures.place in
    let there = index_is found c.in-Some-place.place c.index.result.now true (omega (arith, c.in-Some-place.ensures.within, c.requires.so_far.read.found_size)) c.index.ensures c.if-index.true in
    and_right _ _ (bad_twice F bytes k c.args.tables.now.gates.items found e placed.named c.requires.so_far.read c.requires.slot opened spelt
    (subst (λ (p : ℕ). get_or found p false ≡ true) placed.place there))

pub returns : goal.returns
returns c =
    let F = layout_form c.args.layout.now in
    let bytes = c.args.bytes.now in
    let k = c.args.slot in
    let e = c.in-Some.entry in
    let found = c.args.tables.now.found.items in
    let opened : is_open F bytes k ≡ true = eq-eqb _ _ (ap (λ (i : ℕ). slice_index bytes i) (sym c.gate_at.ensures.place) ∙ c.if-bytes-gate_at.false) in
    let spelt : spells F bytes k e ≡ true = subst (λ (p : ℕ). stands_at bytes p 16 (body_of e) ≡ true) c.body_at.ensures.place c.in-Some.ensures.some in
    let placed = placed_some F e c.in-Some-place.place c.in-Some-place.ensures.place in
    let lacks = index_is found c.in-Some-place.place c.index.result.now false (omega (arith, c.in-Some-place.ensures.within, c.requires.so_far.read.found_size)) c.index.ensures c.if-index.false in
    slot_noted F bytes k c.args.tables.now _ e c.in-Some-place.place c.requires.so_far c.requires.slot opened spelt placed.named placed.place c.in-Some-place.ensures.within lacks
    refl refl c.in_ok-push.ensures.items
