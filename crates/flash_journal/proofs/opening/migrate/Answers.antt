use Rattle.std.proofs.Common.{◌≡◌, ◌≤◌, ℕ, List, length, refl, sym, ◌∙◌, ap, subst, arith}
use Rattle.shop_model.specs.History.{disk_now}
use Rattle.journal_model.specs.Records.{Form, label_of, behind, form_of}
use Rattle.journal_steps.specs.Make.{AllFollow}
use Rattle.journal_steps.specs.Move.{IsSecond, CanMove}
use Rattle.journal_steps.proofs.Moments.{starts}
use Rattle.journal_steps.proofs.Opening.{follows_itself}
use Rattle.flash_journal.proofs.Moves.{is_old, first, long_front, gates_fit, found_fit, balanced}
use Rattle.flash_journal.proofs.Opens.{read_is_ordered, wider_entries, can_move, opened_moved, move_follows}
use Rattle.flash_journal.proofs.opening.migrate.Goals as goal

pub moved_parts-requires : goal.moved_parts-requires
moved_parts-requires g c = long_front (label_of c.args.plan.now) c.args.front.now c.args.reading c.requires.journal c.requires.reading c.requires.old

pub returns-in_default-clause-any_moment : goal.returns-in_default-clause-any_moment
returns-in_default-clause-any_moment g c = λ told.
    let h0 = g.S.Shop.history c.args.shop.now in
    let P = label_of c.args.plan.now in
    starts (AllFollow P (disk_now h0)) h0 (follows_itself P (disk_now h0))

pub write_second-requires-clause-long : goal.write_second-requires-clause-long
write_second-requires-clause-long g c = λ told.
    let P = label_of c.args.plan.now in
    let long = long_front P c.args.front.now c.args.reading c.requires.journal c.requires.reading c.requires.old in
    let at : c.at.result ≡ behind P = c.at.ensures.place ∙ ap (λ (F : Form). F.at) c.in-Ok.ensures.form in
    omega (arith, long, (c.requires.front told).size, at)

pub with_tables-requires-clause-gates : goal.with_tables-requires-clause-gates
with_tables-requires-clause-gates g c = gates_fit (label_of c.args.plan.now) c.args.front.now c.args.reading c.requires.journal c.requires.reading c.requires.old c.in-Ok.parts c.in-Ok.ensures

pub with_tables-requires-clause-found : goal.with_tables-requires-clause-found
with_tables-requires-clause-found g c = found_fit (label_of c.args.plan.now) c.args.front.now c.args.reading c.requires.journal c.requires.reading c.requires.old c.in-Ok.parts c.in-Ok.ensures

pub with_tables-requires-clause-balance : goal.with_tables-requires-clause-balance
with_tables-requires-clause-balance g c = balanced (label_of c.args.plan.now) c.args.front.now c.args.reading c.requires.journal c.requires.reading c.requires.old c.in-Ok.parts c.in-Ok.ensures

pub returns-in-Ok-write_second-clause-ordered : goal.returns-in-Ok-write_second-clause-ordered
returns-in-Ok-write_second-clause-ordered g c =
    let P = label_of c.args.plan.now in
    let front = c.args.front.now in
    let t = c.args.reading.tables in
    let j = c.with_tables.result in
    let read = c.requires.reading.slots.read in
    read_is_ordered P front t.gates.items t.found.items j c.requires.journal read
    (wider_entries P (form_of P front) j t.found.items (first P front c.args.reading c.requires.journal c.requires.reading c.requires.old) read.found_size (c.with_tables.ensures.form ∙ c.in-Ok.ensures.form) (c.with_tables.ensures.found ∙ c.in-Ok.ensures.found))

pub returns-in-Ok-write_second-clause-opened : goal.returns-in-Ok-write_second-clause-opened
returns-in-Ok-write_second-clause-opened g c = λ told.
    let P = label_of c.args.plan.now in
    let front = c.args.front.now in
    let t = c.args.reading.tables in
    let j = c.with_tables.result in
    let d0 = disk_now (g.S.Shop.history c.args.shop.now) in
    let d1 = disk_now (g.S.Shop.history c.write_second.new.shop) in
    let old = is_old P front c.args.reading c.requires.journal c.requires.reading c.requires.old in
    let is = c.requires.front told in
    let settled = c.requires.settled told in
    let made : IsSecond P front c.deref.result.now = subst (λ (xs : List ℕ). IsSecond P front xs) (sym c.deref.ensures.value) c.in-Ok.ensures.file in
    let can = can_move P d0 front is settled c.requires.journal c.at.result c.deref.result.now old (c.at.ensures.place ∙ ap (λ (F : Form). F.at) c.in-Ok.ensures.form) made in
    opened_moved P d0 front is settled c.requires.journal j d1 t.gates.items t.found.items old c.requires.reading.slots.read (c.in-Ok-write_second.ensures.moved told P _ can)
    c.with_tables.ensures.label (c.with_tables.ensures.form ∙ c.in-Ok.ensures.form) (c.with_tables.ensures.gates ∙ c.in-Ok.ensures.gates) (c.with_tables.ensures.found ∙ c.in-Ok.ensures.found)

pub returns-in-Ok-write_second-clause-any_moment : goal.returns-in-Ok-write_second-clause-any_moment
returns-in-Ok-write_second-clause-any_moment g c = λ told.
    let P = label_of c.args.plan.now in
    let front = c.args.front.now in
    let d0 = disk_now (g.S.Shop.history c.args.shop.now) in
    let old = is_old P front c.args.reading c.requires.journal c.requires.reading c.requires.old in
    let is = c.requires.front told in
    let settled = c.requires.settled told in
    let made : IsSecond P front c.deref.result.now = subst (λ (xs : List ℕ). IsSecond P front xs) (sym c.deref.ensures.value) c.in-Ok.ensures.file in
    let can = can_move P d0 front is settled c.requires.journal c.at.result c.deref.result.now old (c.at.ensures.place ∙ ap (λ (F : Form). F.at) c.in-Ok.ensures.form) made in
    move_follows P d0 front is settled c.requires.journal (g.S.Shop.history c.args.shop.now) (g.S.Shop.history c.write_second.new.shop) refl (c.write_second.ensures.any_moment told P _ can)

pub returns-clause-any_moment : goal.returns-clause-any_moment
returns-clause-any_moment g c = λ told.
    let P = label_of c.args.plan.now in
    let front = c.args.front.now in
    let d0 = disk_now (g.S.Shop.history c.args.shop.now) in
    let old = is_old P front c.args.reading c.requires.journal c.requires.reading c.requires.old in
    let is = c.requires.front told in
    let settled = c.requires.settled told in
    let made : IsSecond P front c.deref.result.now = subst (λ (xs : List ℕ). IsSecond P front xs) (sym c.deref.ensures.value) c.in-Ok.ensures.file in
    let can = can_move P d0 front is settled c.requires.journal c.at.result c.deref.result.now old (c.at.ensures.place ∙ ap (λ (F : Form). F.at) c.in-Ok.ensures.form) made in
    move_follows P d0 front is settled c.requires.journal (g.S.Shop.history c.args.shop.now) (g.S.Shop.history c.write_second.new.shop) refl (c.write_second.ensures.any_moment told P _ can)
