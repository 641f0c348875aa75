use Rattle.std.proofs.Common.{◌≡◌, ℕ, List, map, string_bytes, sym, subst}
use Rattle.flash_commands.specs.Running.{RunsOrder}
use Rattle.flash_commands.proofs.WordForms.{apart, same_order}
use Rattle.flash_commands.proofs.flashing.flash_watched.Goals as goal

pub returns-clause-shows : goal.returns-clause-shows
returns-clause-shows g c = λ order words. absurd (apart (map string_bytes c.args.words.now) c.in-Some.named.0.now order (sym c.in-Some.ensures.order) words)

pub returns-clause-runs : goal.returns-clause-runs
returns-clause-runs g c = λ order words.
    let same : order ≡ c.in-Some.named.0.now = same_order c.in-Some.named.0.now order _ c.in-Some.ensures.order words in
    subst (λ (o : List ℕ). RunsOrder g.F.Shelf.tells (g.F.Shelf.history c.args.shelf.now) (g.F.Shelf.history c.run.new.shelf)
    g.S.Shop.tells_disk g.S.Shop.tells_vehicle (g.S.Shop.history c.args.shop) (g.S.Shop.history c.run.result.0)
    g.K.Sink.tells (g.K.Sink.history c.args.out.now) (g.K.Sink.history c.run.new.out) o c.run.result.1) (sym same) c.run.ensures.runs
