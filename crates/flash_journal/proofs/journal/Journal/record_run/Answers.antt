use Rattle.std.proofs.Common.{◌≡◌, ◌*◌, ◌∙◌, ℕ, List, length, take, ap, sym, subst, arith}
use Rattle.std.specs.Prelude.{replicate}
use Rattle.shop_model.specs.History.{disk_now}
use Rattle.journal_model.specs.Records.{Form, end_of, new_form}
use Rattle.journal_steps.specs.Append.{HasAddedGroup}
use Rattle.journal_steps.specs.Later.{MadeCalls, append_calls}
use Rattle.journal_steps.proofs.Several.{nth_entry}
use Rattle.flash_journal.specs.Bodies.{bodies_of}
use Rattle.flash_journal.specs.Kept.{journal_label, journal_form, has_entry}
use Rattle.flash_journal.specs.Layouts.{layout_form}
use Rattle.flash_journal.proofs.Appends.{can_run, long_enough, kept_more, takes_noted, adds_group}
use Rattle.flash_journal.proofs.Groups.{take_replicate}
use Rattle.flash_journal.proofs.Notes.{form_is}
use Rattle.flash_journal.proofs.journal.Journal.record_run.Goals as goal

pub append_run-requires-clause-long : goal.append_run-requires-clause-long
append_run-requires-clause-long g c = λ told. omega (arith, long_enough c.args.self.now _ (c.requires.kept told), ap end_of (form_is c.args.self.now))

pub returns-in-Ok-clause-kept : goal.returns-in-Ok-clause-kept
returns-in-Ok-clause-kept g c = λ told.
    let j = c.args.self.now in
    let es = c.args.entries.now in
    let d0 = disk_now (g.S.Shop.history c.args.shop.now) in
    let d1 = disk_now (g.S.Shop.history c.append_run.new.shop) in
    let can = can_run j d0 c.args.slot es _ _ c.bodies_of-bodies.ensures (take_replicate (length es) 64 165 c.requires.entries.few) (c.requires.kept told) c.requires.entries c.requires.room in
    let added = c.in-Ok.ensures.added told (journal_label j) (has_entry j) (nth_entry es) (length es) can in
    kept_more j c.note_all.new.self d0 d1 c.args.slot es (c.requires.kept told) (takes_noted j c.note_all.new.self c.args.slot es c.note_all.ensures)
    (subst (λ (F : Form). HasAddedGroup (journal_label j) F (has_entry j) d0.bytes c.args.slot (nth_entry es) (length es) d1) (form_is j) added)

pub returns-in-Ok-clause-any_moment : goal.returns-in-Ok-clause-any_moment
returns-in-Ok-clause-any_moment g c = λ told.
    let j = c.args.self.now in
    let es = c.args.entries.now in
    let d0 = disk_now (g.S.Shop.history c.args.shop.now) in
    let can = can_run j d0 c.args.slot es _ _ c.bodies_of-bodies.ensures (take_replicate (length es) 64 165 c.requires.entries.few) (c.requires.kept told) c.requires.entries c.requires.room in
    adds_group (journal_label j) (has_entry j) es (length es) _ _ (omega arith) (c.append_run.ensures.any_moment told (journal_label j) (has_entry j) (nth_entry es) (length es) can)

pub returns-in-Err-clause-any_moment : goal.returns-in-Err-clause-any_moment
returns-in-Err-clause-any_moment g c = λ told.
    let j = c.args.self.now in
    let es = c.args.entries.now in
    let d0 = disk_now (g.S.Shop.history c.args.shop.now) in
    let can = can_run j d0 c.args.slot es _ _ c.bodies_of-bodies.ensures (take_replicate (length es) 64 165 c.requires.entries.few) (c.requires.kept told) c.requires.entries c.requires.room in
    adds_group (journal_label j) (has_entry j) es (length es) _ _ (omega arith) (c.append_run.ensures.any_moment told (journal_label j) (has_entry j) (nth_entry es) (length es) can)

pub returns-in-Ok-clause-calls : goal.returns-in-Ok-clause-calls
returns-in-Ok-clause-calls g c =
    let j = c.args.self.now in
    let es = c.args.entries.now in
    let h0 = g.S.Shop.history c.args.shop.now in
    let h1 = g.S.Shop.history c.append_run.new.shop in
    let k = c.args.slot in
    let bodies = take (16 * length es) c.bodies_of-bodies.result in
    let gates = replicate (length es) 165 in
    subst (λ (F : Form). MadeCalls h0 h1 (append_calls F k (bodies_of es) gates)) (form_is j)
    (subst (λ (b : List ℕ). MadeCalls h0 h1 (append_calls (layout_form j.layout) k b gates)) c.bodies_of-bodies.ensures
    (subst (λ (x : List ℕ). MadeCalls h0 h1 (append_calls (layout_form j.layout) k bodies x)) (take_replicate (length es) 64 165 c.requires.entries.few) c.in-Ok.ensures.calls))
