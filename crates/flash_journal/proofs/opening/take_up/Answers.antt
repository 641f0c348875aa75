use Rattle.shop_model.specs.History.{disk_now}
use Rattle.journal_model.specs.Records.{label_of}
use Rattle.journal_steps.specs.Make.{AllFollow}
use Rattle.journal_steps.proofs.Moments.{starts}
use Rattle.journal_steps.proofs.Opening.{follows_itself}
use Rattle.flash_journal.proofs.Opens.{opened_read}
use Rattle.flash_journal.proofs.opening.take_up.Goals as goal

pub returns-in_default-clause-opened : goal.returns-in_default-clause-opened
returns-in_default-clause-opened g c = λ told.
    let P = label_of c.args.plan.now in
    let t = c.args.reading.tables in
    let d0 = disk_now (g.S.Shop.history c.args.shop.now) in
    opened_read P d0 c.args.front.now (c.requires.front told) (c.requires.settled told) c.requires.journal c.journal_of.result t.gates.items t.found.items c.requires.reading.slots.read
    c.journal_of.ensures.of.label c.journal_of.ensures.form c.journal_of.ensures.gates c.journal_of.ensures.found

pub returns-in_default-clause-any_moment : goal.returns-in_default-clause-any_moment
returns-in_default-clause-any_moment g c = λ told.
    let h0 = g.S.Shop.history c.args.shop.now in
    let P = label_of c.args.plan.now in
    starts (AllFollow P (disk_now h0)) h0 (follows_itself P (disk_now h0))
