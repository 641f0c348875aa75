use Rattle.shop_model.specs.History.{disk_now}
use Rattle.journal_model.specs.Records.{label_of}
use Rattle.journal_steps.specs.Later.{HoldsOnDisk, SameDisk}
use Rattle.journal_steps.specs.Make.{AllFollow}
use Rattle.journal_steps.proofs.Moments.{joins, one_call}
use Rattle.journal_steps.proofs.Opening.{follows_itself, follows_synced}
use Rattle.flash_journal.specs.Opened.{HasBytes}
use Rattle.flash_journal.proofs.Opens.{synced_follows, synced_same, answer_synced, on_refusal}
use Rattle.flash_journal.proofs.journal.Journal.open.Goals as goal

pub returns-in-Ok-clause-any_moment : goal.returns-in-Ok-clause-any_moment
returns-in-Ok-clause-any_moment g c = λ told.
    let P = label_of c.args.plan.now in
    let history = g.S.Shop.history in
    let h0 = history c.args.shop.now in
    let h1 = history c.sync.new.self in
    let h2 = history c.open_synced.new.shop in
    let Q = AllFollow P (disk_now h0) in
    let readable = g.met.S.Shop.readable c.args.shop.now h0.moment in
    let synced = (c.in-Ok.ensures.disk told).ok in
    joins Q h0 h1 h2 (one_call Q h0 h1 c.sync.result (g.met.S.Shop.bounded c.args.shop.now) (follows_itself P (disk_now h0)) c.sync.ensures.call (follows_synced P (disk_now h0) (disk_now h1) readable synced))
    (synced_follows P h0 h1 h2 readable synced (c.open_synced.ensures.any_moment told))

pub returns-in-Ok-clause-untouched : goal.returns-in-Ok-clause-untouched
returns-in-Ok-clause-untouched g c = λ told.
    let history = g.S.Shop.history in
    let h0 = history c.args.shop.now in
    let h1 = history c.sync.new.self in
    let h2 = history c.open_synced.new.shop in
    on_refusal (SameDisk h1 h2) (HoldsOnDisk h0 h2 (HasBytes (disk_now h0).bytes)) c.open_synced.result
    (synced_same h0 h1 h2 c.sync.result (g.met.S.Shop.bounded c.args.shop.now) c.sync.ensures.call (c.in-Ok.ensures.disk told).ok.bytes) c.open_synced.ensures.untouched

pub returns-in-Ok-clause-answer : goal.returns-in-Ok-clause-answer
returns-in-Ok-clause-answer g c = λ told.
    let history = g.S.Shop.history in
    answer_synced (label_of c.args.plan.now) (disk_now (history c.args.shop.now)) (disk_now (history c.sync.new.self)) c.open_synced.result (disk_now (history c.open_synced.new.shop))
    (c.in-Ok.ensures.disk told).ok.bytes (c.open_synced.ensures.answer told)
