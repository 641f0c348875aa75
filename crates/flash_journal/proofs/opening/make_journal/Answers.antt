use Rattle.std.proofs.Common.{◌∙◌, sym}
use Rattle.shop_model.specs.History.{disk_now}
use Rattle.journal_model.specs.Records.{label_of}
use Rattle.journal_steps.specs.Make.{Starts}
use Rattle.journal_steps.proofs.Front.{front_fresh}
use Rattle.journal_steps.proofs.Moments.{starts}
use Rattle.journal_steps.proofs.Opening.{fresh_starts}
use Rattle.flash_journal.proofs.Opens.{can_start, kept_new}
use Rattle.flash_journal.proofs.opening.make_journal.Goals as goal

pub returns-in_default-clause-any_moment : goal.returns-in_default-clause-any_moment
returns-in_default-clause-any_moment g c = λ told.
    let P = label_of c.args.plan.now in
    let h0 = g.S.Shop.history c.args.shop.now in
    starts (Starts P) h0 (fresh_starts P (disk_now h0) (c.requires.settled told) (sym (front_fresh P (disk_now h0).bytes c.args.front.now (c.requires.front told)) ∙ c.requires.fresh))

pub returns-in-Ok-make_file-clause-kept : goal.returns-in-Ok-make_file-clause-kept
returns-in-Ok-make_file-clause-kept g c = λ told.
    let P = label_of c.args.plan.now in
    let h0 = g.S.Shop.history c.args.shop.now in
    let made = c.in-Ok.ensures in
    let can = can_start P (disk_now h0) c.args.front.now c.deref.result.now made.digest (c.requires.settled told) (c.requires.front told) c.requires.fresh (c.deref.ensures.value ∙ made.file) in
    kept_new P c.with_tables.result c.with_tables.ensures.label (c.with_tables.ensures.form ∙ made.form) (c.with_tables.ensures.gates ∙ made.gates) (c.with_tables.ensures.found ∙ made.found)
    (disk_now (g.S.Shop.history c.make_file.new.shop)) (c.in-Ok-make_file.ensures.made told P can)

pub returns-in-Ok-make_file-clause-any_moment : goal.returns-in-Ok-make_file-clause-any_moment
returns-in-Ok-make_file-clause-any_moment g c = λ told.
    let P = label_of c.args.plan.now in
    let h0 = g.S.Shop.history c.args.shop.now in
    let made = c.in-Ok.ensures in
    let can = can_start P (disk_now h0) c.args.front.now c.deref.result.now made.digest (c.requires.settled told) (c.requires.front told) c.requires.fresh (c.deref.ensures.value ∙ made.file) in
    c.make_file.ensures.any_moment told P can

pub returns-in-Err-clause-any_moment : goal.returns-in-Err-clause-any_moment
returns-in-Err-clause-any_moment g c = λ told.
    let P = label_of c.args.plan.now in
    let h0 = g.S.Shop.history c.args.shop.now in
    let made = c.in-Ok.ensures in
    let can = can_start P (disk_now h0) c.args.front.now c.deref.result.now made.digest (c.requires.settled told) (c.requires.front told) c.requires.fresh (c.deref.ensures.value ∙ made.file) in
    c.make_file.ensures.any_moment told P can
