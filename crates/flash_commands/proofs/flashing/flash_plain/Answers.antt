use Rattle.std.proofs.Common.{◌≡◌, ℕ, List, sym, subst}
use Rattle.plan_commands.specs.Looking.{ServesStatus}
use Rattle.flash_commands.proofs.WordForms.{same_order}
use Rattle.flash_commands.proofs.flashing.flash_plain.Goals as goal

pub returns-in-Some-clause-shows : goal.returns-in-Some-clause-shows
returns-in-Some-clause-shows g c = λ order words.
    let same : order ≡ c.in-Some.order.now = same_order c.in-Some.order.now order _ c.in-Some.ensures words in
    subst (λ (o : List ℕ). ServesStatus g.F.Shelf.tells (g.F.Shelf.history c.args.shelf.now) (g.F.Shelf.history c.serve_status.new.shelf)
    g.S.Shop.tells_disk (g.S.Shop.history c.args.shop.now) (g.S.Shop.history c.serve_status.new.shop)
    g.K.Sink.tells (g.K.Sink.history c.args.out.now) (g.K.Sink.history c.serve_status.new.out) o c.serve_status.result) (sym same) c.serve_status.ensures.serves
