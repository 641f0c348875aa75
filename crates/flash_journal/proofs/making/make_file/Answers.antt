use Rattle.std.proofs.Common.{◌≤◌, length, arith}
use Rattle.shop_model.specs.History.{disk_now}
use Rattle.journal_steps.proofs.Moments.{joins}
use Rattle.journal_steps.specs.Make.{Starts, CanFill}
use Rattle.journal_steps.proofs.Ways.{can_make}
use Rattle.flash_journal.specs.Ways.{IsShort}
use Rattle.flash_journal.proofs.making.make_file.Goals as goal

pub returns-in_err-clear_first-in-First-clause-any_moment : goal.returns-in_err-clear_first-in-First-clause-any_moment
returns-in_err-clear_first-in-First-clause-any_moment g c = λ told P can.
    let h0 = g.S.Shop.history c.args.shop.now in
    let size : length (disk_now h0).bytes ≤ 1 = rw c.in-First.is at (c.requires.way told) in
    let short : IsShort (disk_now h0) = record { settled = can.settled; size = size } in
    c.clear_first.ensures.any_moment told P short

pub returns-in_err-fill-in-First-clause-any_moment : goal.returns-in_err-fill-in-First-clause-any_moment
returns-in_err-fill-in-First-clause-any_moment g c = λ told P can.
    let h0 = g.S.Shop.history c.args.shop.now in
    let size : length (disk_now h0).bytes ≤ 1 = rw c.in-First.is at (c.requires.way told) in
    let short : IsShort (disk_now h0) = record { settled = can.settled; size = size } in
    let h1 = g.S.Shop.history c.clear_first.new.shop in
    let h2 = g.S.Shop.history c.fill.new.shop in
    let zeroed = c.in_ok-clear_first-in-First.ensures.zeroed told short in
    let made = can_make P (disk_now h1) 1 c.args.file.now c.rest_from.result.now zeroed.0 can.made can.size zeroed.1 (omega arith) c.rest_from.ensures in
    joins (Starts P) h0 h1 h2 (c.clear_first.ensures.any_moment told P short) (c.fill.ensures.any_moment told P made)

pub returns-in_ok-fill-in-First-clause-any_moment : goal.returns-in_ok-fill-in-First-clause-any_moment
returns-in_ok-fill-in-First-clause-any_moment g c = λ told P can.
    let h0 = g.S.Shop.history c.args.shop.now in
    let size : length (disk_now h0).bytes ≤ 1 = rw c.in-First.is at (c.requires.way told) in
    let short : IsShort (disk_now h0) = record { settled = can.settled; size = size } in
    let h1 = g.S.Shop.history c.clear_first.new.shop in
    let h2 = g.S.Shop.history c.fill.new.shop in
    let zeroed = c.in_ok-clear_first-in-First.ensures.zeroed told short in
    let made = can_make P (disk_now h1) 1 c.args.file.now c.rest_from.result.now zeroed.0 can.made can.size zeroed.1 (omega arith) c.rest_from.ensures in
    joins (Starts P) h0 h1 h2 (c.clear_first.ensures.any_moment told P short) (c.fill.ensures.any_moment told P made)

pub returns-in_ok-fill-in-First-clause-made : goal.returns-in_ok-fill-in-First-clause-made
returns-in_ok-fill-in-First-clause-made g c = λ told P can.
    let h0 = g.S.Shop.history c.args.shop.now in
    let size : length (disk_now h0).bytes ≤ 1 = rw c.in-First.is at (c.requires.way told) in
    let short : IsShort (disk_now h0) = record { settled = can.settled; size = size } in
    let h1 = g.S.Shop.history c.clear_first.new.shop in
    let h2 = g.S.Shop.history c.fill.new.shop in
    let zeroed = c.in_ok-clear_first-in-First.ensures.zeroed told short in
    let made = can_make P (disk_now h1) 1 c.args.file.now c.rest_from.result.now zeroed.0 can.made can.size zeroed.1 (omega arith) c.rest_from.ensures in
    c.in_ok-fill-in-First.ensures.made told P made

pub returns-in_err-fill-in-FromOne-clause-any_moment : goal.returns-in_err-fill-in-FromOne-clause-any_moment
returns-in_err-fill-in-FromOne-clause-any_moment g c = λ told P can.
    let h0 = g.S.Shop.history c.args.shop.now in
    let way : CanFill (disk_now h0).bytes 1 = rw c.in-FromOne.is at (c.requires.way told) in
    let made = can_make P (disk_now h0) 1 c.args.file.now c.rest_from-in-FromOne.result.now can.settled can.made can.size way (omega arith) c.rest_from-in-FromOne.ensures in
    c.fill-in-FromOne.ensures.any_moment told P made

pub returns-in_ok-fill-in-FromOne-clause-any_moment : goal.returns-in_ok-fill-in-FromOne-clause-any_moment
returns-in_ok-fill-in-FromOne-clause-any_moment g c = λ told P can.
    let h0 = g.S.Shop.history c.args.shop.now in
    let way : CanFill (disk_now h0).bytes 1 = rw c.in-FromOne.is at (c.requires.way told) in
    let made = can_make P (disk_now h0) 1 c.args.file.now c.rest_from-in-FromOne.result.now can.settled can.made can.size way (omega arith) c.rest_from-in-FromOne.ensures in
    c.fill-in-FromOne.ensures.any_moment told P made

pub returns-in_ok-fill-in-FromOne-clause-made : goal.returns-in_ok-fill-in-FromOne-clause-made
returns-in_ok-fill-in-FromOne-clause-made g c = λ told P can.
    let h0 = g.S.Shop.history c.args.shop.now in
    let way : CanFill (disk_now h0).bytes 1 = rw c.in-FromOne.is at (c.requires.way told) in
    let made = can_make P (disk_now h0) 1 c.args.file.now c.rest_from-in-FromOne.result.now can.settled can.made can.size way (omega arith) c.rest_from-in-FromOne.ensures in
    c.in_ok-fill-in-FromOne.ensures.made told P made

pub returns-in_err-fill-in-FromEight-clause-any_moment : goal.returns-in_err-fill-in-FromEight-clause-any_moment
returns-in_err-fill-in-FromEight-clause-any_moment g c = λ told P can.
    let h0 = g.S.Shop.history c.args.shop.now in
    let way : CanFill (disk_now h0).bytes 8 = rw c.in-FromEight.is at (c.requires.way told) in
    let made = can_make P (disk_now h0) 8 c.args.file.now c.rest_from-in-FromEight.result.now can.settled can.made can.size way (omega arith) c.rest_from-in-FromEight.ensures in
    c.fill-in-FromEight.ensures.any_moment told P made

pub returns-in_ok-fill-in-FromEight-clause-any_moment : goal.returns-in_ok-fill-in-FromEight-clause-any_moment
returns-in_ok-fill-in-FromEight-clause-any_moment g c = λ told P can.
    let h0 = g.S.Shop.history c.args.shop.now in
    let way : CanFill (disk_now h0).bytes 8 = rw c.in-FromEight.is at (c.requires.way told) in
    let made = can_make P (disk_now h0) 8 c.args.file.now c.rest_from-in-FromEight.result.now can.settled can.made can.size way (omega arith) c.rest_from-in-FromEight.ensures in
    c.fill-in-FromEight.ensures.any_moment told P made

pub returns-in_ok-fill-in-FromEight-clause-made : goal.returns-in_ok-fill-in-FromEight-clause-made
returns-in_ok-fill-in-FromEight-clause-made g c = λ told P can.
    let h0 = g.S.Shop.history c.args.shop.now in
    let way : CanFill (disk_now h0).bytes 8 = rw c.in-FromEight.is at (c.requires.way told) in
    let made = can_make P (disk_now h0) 8 c.args.file.now c.rest_from-in-FromEight.result.now can.settled can.made can.size way (omega arith) c.rest_from-in-FromEight.ensures in
    c.in_ok-fill-in-FromEight.ensures.made told P made
