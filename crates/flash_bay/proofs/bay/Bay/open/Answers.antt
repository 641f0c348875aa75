use Rattle.std.proofs.Common.{refl}
use Rattle.flash_bay.proofs.Calls.{opened, opened_as, refused, wanted}
use Rattle.flash_journal.specs.Kept.{room_of}
use Rattle.flash_bay.proofs.bay.Bay.open.Goals as goal

pub invariant_of-result : goal.invariant_of-result
invariant_of-result g c =
    opened g.S.Shop.tells_disk g.S.Shop.tells_vehicle g.S.Shop.history c.args.plan.now c.args.rules.now c.args.shop c.of-first.result.value c.open.new.shop c.in-Ok-start.run' c.in-Ok.journal
    c.of-first.ensures c.in-Ok-start.ensures c.in-Ok.ensures.ordered c.in-Ok.ensures.of c.open.ensures.later (λ t. (c.in-Ok.ensures.answer t).kept) c.open.ensures.any_moment

pub returns-in-Ok-start-clause-ok : goal.returns-in-Ok-start-clause-ok
returns-in-Ok-start-clause-ok g c =
    opened_as g.S.Shop.tells_disk g.S.Shop.history c.args.plan.now c.args.rules.now c.args.shop c.of-first.result.value c.open.new.shop c.in-Ok-start.run' c.in-Ok.journal (room_of c.in-Ok.journal)
    c.of-first.ensures c.in-Ok-start.ensures c.in-Ok.ensures.answer c.open.ensures.later

pub returns-in-Err-start-clause-refused : goal.returns-in-Err-start-clause-refused
returns-in-Err-start-clause-refused g c = wanted g.S.Shop.tells_disk g.S.Shop.history c.args.plan.now c.args.shop c.open.new.shop c.open.ensures.any_moment c.open.ensures.later

pub returns-in-Err-clause-refused : goal.returns-in-Err-clause-refused
returns-in-Err-clause-refused g c =
    refused g.S.Shop.tells_disk g.S.Shop.history c.args.plan.now c.args.shop c.open.new.shop _ c.in-Err.fault refl c.in-Err.ensures.answer c.in-Err.ensures.untouched c.in-Err.ensures.other c.in-Err.ensures.cause
    c.open.ensures.any_moment c.open.ensures.later
