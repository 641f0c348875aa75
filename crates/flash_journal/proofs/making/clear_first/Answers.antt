use Rattle.shop_model.specs.History.{disk_now}
use Rattle.journal_model.specs.Records.{Label}
use Rattle.std.proofs.Common.{[]}
use Rattle.journal_steps.specs.Make.{Starts}
use Rattle.journal_steps.proofs.Calls.{missed_or_nothing}
use Rattle.journal_steps.proofs.Moments.{starts, goes_on}
use Rattle.journal_steps.proofs.Making as making
use Rattle.flash_journal.proofs.making.clear_first.Goals as goal

pub returns-clause-zeroed : goal.returns-clause-zeroed
returns-clause-zeroed g c = λ told short.
    let P : Label = record { digest = []; segments = [] } in
    let d0 = disk_now (g.S.Shop.history c.args.shop.now) in
    let d1 = disk_now (g.S.Shop.history c.write_at.new.self) in
    let d2 = disk_now (g.S.Shop.history c.sync.new.self) in (
      making.zero_settled P d0 short.settled short.size d1 d2 (c.in_ok-write_at.ensures.disk told).ok (c.in_ok-sync.ensures.disk told).ok,
      making.zero_fill P d0 short.settled short.size d1 d2 (c.in_ok-write_at.ensures.disk told).ok (c.in_ok-sync.ensures.disk told).ok,
    )

pub returns-in_err-write_at-clause-any_moment : goal.returns-in_err-write_at-clause-any_moment
returns-in_err-write_at-clause-any_moment g c = λ told P short.
    let history = g.S.Shop.history in
    let h0 = history c.args.shop.now in
    let d0 = disk_now h0 in
    let Q = Starts P in
    let go0 = starts Q h0 (making.short_starts P d0 short.settled short.size) in
    let h1 = history c.write_at.new.self in
    goes_on Q h0 h0 h1 c.write_at.result go0 (g.met.S.Shop.bounded c.args.shop.now) c.write_at.ensures.call (making.zeroed P d0 short.settled short.size (disk_now h1) (missed_or_nothing _ _ _ _ _ (c.write_at.ensures.disk told)))

pub returns-in_err-sync-clause-any_moment : goal.returns-in_err-sync-clause-any_moment
returns-in_err-sync-clause-any_moment g c = λ told P short.
    let history = g.S.Shop.history in
    let h0 = history c.args.shop.now in
    let d0 = disk_now h0 in
    let Q = Starts P in
    let go0 = starts Q h0 (making.short_starts P d0 short.settled short.size) in
    let h1 = history c.write_at.new.self in
    let images1 = making.zeroed P d0 short.settled short.size (disk_now h1) (missed_or_nothing _ _ _ _ _ (c.write_at.ensures.disk told)) in
    let go1 = goes_on Q h0 h0 h1 c.write_at.result go0 (g.met.S.Shop.bounded c.args.shop.now) c.write_at.ensures.call images1 in
    let h2 = history c.sync.new.self in
    goes_on Q h0 h1 h2 c.sync.result go1 (g.met.S.Shop.bounded c.write_at.new.self) c.sync.ensures.call (making.starts_again P (disk_now h1) (disk_now h2) (c.in_err-sync.ensures.disk told).err images1)

pub returns-clause-any_moment : goal.returns-clause-any_moment
returns-clause-any_moment g c = λ told P short.
    let history = g.S.Shop.history in
    let h0 = history c.args.shop.now in
    let d0 = disk_now h0 in
    let Q = Starts P in
    let go0 = starts Q h0 (making.short_starts P d0 short.settled short.size) in
    let h1 = history c.write_at.new.self in
    let images1 = making.zeroed P d0 short.settled short.size (disk_now h1) (missed_or_nothing _ _ _ _ _ (c.write_at.ensures.disk told)) in
    let go1 = goes_on Q h0 h0 h1 c.write_at.result go0 (g.met.S.Shop.bounded c.args.shop.now) c.write_at.ensures.call images1 in
    let h2 = history c.sync.new.self in
    goes_on Q h0 h1 h2 c.sync.result go1 (g.met.S.Shop.bounded c.write_at.new.self) c.sync.ensures.call (making.zero_synced P d0 short.settled short.size (disk_now h1) (disk_now h2) (c.in_ok-write_at.ensures.disk told).ok (c.in_ok-sync.ensures.disk told).ok)
