use Rattle.shop_model.specs.History.{disk_now}
use Rattle.journal_steps.proofs.Laters.{disk_later, disk_then}
use Rattle.journal_steps.proofs.Moments.{starts, goes_on}
use Rattle.journal_steps.proofs.Calls.{missed_or_nothing}
use Rattle.journal_steps.specs.Move.{AllRecord}
use Rattle.journal_steps.proofs.Migrating as moving
use Rattle.flash_journal.proofs.moving.write_second.Goals as goal

pub returns-in_err-write_at-clause-any_moment : goal.returns-in_err-write_at-clause-any_moment
returns-in_err-write_at-clause-any_moment g c = λ told P R can.
    let history = g.S.Shop.history in
    let h0 = history c.args.shop.now in
    let d0 = disk_now h0 in
    let Q = AllRecord P R in
    let at = c.args.at in
    let second = c.args.second.now in
    let go0 = starts Q h0 (moving.move_starts P R d0 at second can) in
    let h1 = history c.write_at.new.self in
    let go1 = goes_on Q h0 h0 h1 c.write_at.result go0 (g.met.S.Shop.bounded c.args.shop.now) c.write_at.ensures.call (moving.second_written P R d0 at second can (disk_now h1) (missed_or_nothing _ _ _ _ _ (c.write_at.ensures.disk told))) in
    go1

pub returns-in_err-sync-clause-any_moment : goal.returns-in_err-sync-clause-any_moment
returns-in_err-sync-clause-any_moment g c = λ told P R can.
    let history = g.S.Shop.history in
    let h0 = history c.args.shop.now in
    let d0 = disk_now h0 in
    let Q = AllRecord P R in
    let at = c.args.at in
    let second = c.args.second.now in
    let go0 = starts Q h0 (moving.move_starts P R d0 at second can) in
    let h1 = history c.write_at.new.self in
    let go1 = goes_on Q h0 h0 h1 c.write_at.result go0 (g.met.S.Shop.bounded c.args.shop.now) c.write_at.ensures.call (moving.second_written P R d0 at second can (disk_now h1) (missed_or_nothing _ _ _ _ _ (c.write_at.ensures.disk told))) in
    let h2 = history c.sync.new.self in
    goes_on Q h0 h1 h2 c.sync.result go1 (g.met.S.Shop.bounded c.write_at.new.self) c.sync.ensures.call (moving.records_again P R (disk_now h1) (disk_now h2) (c.in_err-sync.ensures.disk told).err (moving.second_written P R d0 at second can (disk_now h1) (missed_or_nothing _ _ _ _ _ (c.write_at.ensures.disk told))))

pub returns-in_err-write_at-2-clause-any_moment : goal.returns-in_err-write_at-2-clause-any_moment
returns-in_err-write_at-2-clause-any_moment g c = λ told P R can.
    let history = g.S.Shop.history in
    let h0 = history c.args.shop.now in
    let d0 = disk_now h0 in
    let Q = AllRecord P R in
    let at = c.args.at in
    let second = c.args.second.now in
    let go0 = starts Q h0 (moving.move_starts P R d0 at second can) in
    let h1 = history c.write_at.new.self in
    let go1 = goes_on Q h0 h0 h1 c.write_at.result go0 (g.met.S.Shop.bounded c.args.shop.now) c.write_at.ensures.call (moving.second_written P R d0 at second can (disk_now h1) (missed_or_nothing _ _ _ _ _ (c.write_at.ensures.disk told))) in
    let h2 = history c.sync.new.self in
    let wrote = (c.in_ok-write_at.ensures.disk told).ok in
    let synced = (c.in_ok-sync.ensures.disk told).ok in
    let go2 = goes_on Q h0 h1 h2 c.sync.result go1 (g.met.S.Shop.bounded c.write_at.new.self) c.sync.ensures.call (moving.second_synced P R d0 at second can (disk_now h1) (disk_now h2) wrote synced) in
    let h3 = history c.write_at-2.new.self in
    let go3 = goes_on Q h0 h2 h3 c.write_at-2.result go2 (g.met.S.Shop.bounded c.sync.new.self) c.write_at-2.ensures.call (moving.last_written P R d0 at second can (disk_now h1) (disk_now h2) wrote synced (disk_now h3) (missed_or_nothing _ _ _ _ _ (c.write_at-2.ensures.disk told))) in
    go3

pub returns-in_err-sync-2-clause-any_moment : goal.returns-in_err-sync-2-clause-any_moment
returns-in_err-sync-2-clause-any_moment g c = λ told P R can.
    let history = g.S.Shop.history in
    let h0 = history c.args.shop.now in
    let d0 = disk_now h0 in
    let Q = AllRecord P R in
    let at = c.args.at in
    let second = c.args.second.now in
    let go0 = starts Q h0 (moving.move_starts P R d0 at second can) in
    let h1 = history c.write_at.new.self in
    let go1 = goes_on Q h0 h0 h1 c.write_at.result go0 (g.met.S.Shop.bounded c.args.shop.now) c.write_at.ensures.call (moving.second_written P R d0 at second can (disk_now h1) (missed_or_nothing _ _ _ _ _ (c.write_at.ensures.disk told))) in
    let h2 = history c.sync.new.self in
    let wrote = (c.in_ok-write_at.ensures.disk told).ok in
    let synced = (c.in_ok-sync.ensures.disk told).ok in
    let go2 = goes_on Q h0 h1 h2 c.sync.result go1 (g.met.S.Shop.bounded c.write_at.new.self) c.sync.ensures.call (moving.second_synced P R d0 at second can (disk_now h1) (disk_now h2) wrote synced) in
    let h3 = history c.write_at-2.new.self in
    let go3 = goes_on Q h0 h2 h3 c.write_at-2.result go2 (g.met.S.Shop.bounded c.sync.new.self) c.write_at-2.ensures.call (moving.last_written P R d0 at second can (disk_now h1) (disk_now h2) wrote synced (disk_now h3) (missed_or_nothing _ _ _ _ _ (c.write_at-2.ensures.disk told))) in
    let h4 = history c.sync-2.new.self in
    goes_on Q h0 h3 h4 c.sync-2.result go3 (g.met.S.Shop.bounded c.write_at-2.new.self) c.sync-2.ensures.call (moving.records_again P R (disk_now h3) (disk_now h4) (c.in_err-sync-2.ensures.disk told).err (moving.last_written P R d0 at second can (disk_now h1) (disk_now h2) wrote synced (disk_now h3) (missed_or_nothing _ _ _ _ _ (c.write_at-2.ensures.disk told))))

pub returns-clause-any_moment : goal.returns-clause-any_moment
returns-clause-any_moment g c = λ told P R can.
    let history = g.S.Shop.history in
    let h0 = history c.args.shop.now in
    let d0 = disk_now h0 in
    let Q = AllRecord P R in
    let at = c.args.at in
    let second = c.args.second.now in
    let go0 = starts Q h0 (moving.move_starts P R d0 at second can) in
    let h1 = history c.write_at.new.self in
    let go1 = goes_on Q h0 h0 h1 c.write_at.result go0 (g.met.S.Shop.bounded c.args.shop.now) c.write_at.ensures.call (moving.second_written P R d0 at second can (disk_now h1) (missed_or_nothing _ _ _ _ _ (c.write_at.ensures.disk told))) in
    let h2 = history c.sync.new.self in
    let wrote = (c.in_ok-write_at.ensures.disk told).ok in
    let synced = (c.in_ok-sync.ensures.disk told).ok in
    let go2 = goes_on Q h0 h1 h2 c.sync.result go1 (g.met.S.Shop.bounded c.write_at.new.self) c.sync.ensures.call (moving.second_synced P R d0 at second can (disk_now h1) (disk_now h2) wrote synced) in
    let h3 = history c.write_at-2.new.self in
    let go3 = goes_on Q h0 h2 h3 c.write_at-2.result go2 (g.met.S.Shop.bounded c.sync.new.self) c.write_at-2.ensures.call (moving.last_written P R d0 at second can (disk_now h1) (disk_now h2) wrote synced (disk_now h3) (missed_or_nothing _ _ _ _ _ (c.write_at-2.ensures.disk told))) in
    let h4 = history c.sync-2.new.self in
    goes_on Q h0 h3 h4 c.sync-2.result go3 (g.met.S.Shop.bounded c.write_at-2.new.self) c.sync-2.ensures.call (moving.last_synced P R d0 at second can (disk_now h1) (disk_now h2) wrote synced (disk_now h3) (disk_now h4) (c.in_ok-write_at-2.ensures.disk told).ok (c.in_ok-sync-2.ensures.disk told).ok)

pub returns-clause-moved : goal.returns-clause-moved
returns-clause-moved g c = λ told P R can.
    let history = g.S.Shop.history in
    moving.has_moved_on P R (disk_now (history c.args.shop.now)) c.args.at c.args.second.now can (disk_now (history c.write_at.new.self)) (disk_now (history c.sync.new.self)) (c.in_ok-write_at.ensures.disk told).ok (c.in_ok-sync.ensures.disk told).ok
    (disk_now (history c.write_at-2.new.self)) (disk_now (history c.sync-2.new.self)) (c.in_ok-write_at-2.ensures.disk told).ok (c.in_ok-sync-2.ensures.disk told).ok

pub returns-in_err-write_at-2-clause-later : goal.returns-in_err-write_at-2-clause-later
returns-in_err-write_at-2-clause-later g c = disk_then _ _ _ (disk_then _ _ _ (disk_later _ _ _ c.write_at.result (g.met.S.Shop.bounded c.args.shop.now) c.write_at.ensures.call) (disk_later _ _ _ c.sync.result (g.met.S.Shop.bounded c.write_at.new.self) c.sync.ensures.call)) (disk_later _ _ _ c.write_at-2.result (g.met.S.Shop.bounded c.sync.new.self) c.write_at-2.ensures.call)

pub returns-in_err-sync-2-clause-later : goal.returns-in_err-sync-2-clause-later
returns-in_err-sync-2-clause-later g c = disk_then _ _ _ (disk_then _ _ _ (disk_then _ _ _ (disk_later _ _ _ c.write_at.result (g.met.S.Shop.bounded c.args.shop.now) c.write_at.ensures.call) (disk_later _ _ _ c.sync.result (g.met.S.Shop.bounded c.write_at.new.self) c.sync.ensures.call)) (disk_later _ _ _ c.write_at-2.result (g.met.S.Shop.bounded c.sync.new.self) c.write_at-2.ensures.call)) (disk_later _ _ _ c.sync-2.result (g.met.S.Shop.bounded c.write_at-2.new.self) c.sync-2.ensures.call)

pub returns-clause-later : goal.returns-clause-later
returns-clause-later g c = disk_then _ _ _ (disk_then _ _ _ (disk_then _ _ _ (disk_later _ _ _ c.write_at.result (g.met.S.Shop.bounded c.args.shop.now) c.write_at.ensures.call) (disk_later _ _ _ c.sync.result (g.met.S.Shop.bounded c.write_at.new.self) c.sync.ensures.call)) (disk_later _ _ _ c.write_at-2.result (g.met.S.Shop.bounded c.sync.new.self) c.write_at-2.ensures.call)) (disk_later _ _ _ c.sync-2.result (g.met.S.Shop.bounded c.write_at-2.new.self) c.sync-2.ensures.call)
