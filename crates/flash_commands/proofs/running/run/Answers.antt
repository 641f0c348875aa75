use Rattle.flash_commands.proofs.Ends.{runs_order}
use Rattle.flash_commands.proofs.running.run.Goals as goal

pub returns-clause-runs : goal.returns-clause-runs
returns-clause-runs g c =
    runs_order g.F.Shelf.tells (g.F.Shelf.history c.args.shelf.now) (g.F.Shelf.history c.run_order.new.shelf)
    g.S.Shop.tells_disk g.S.Shop.tells_vehicle (g.S.Shop.history c.args.shop) (g.S.Shop.history c.run_order.result.0)
    g.K.Sink.tells (g.K.Sink.history c.args.out.now) (g.K.Sink.history c.run_order.new.out) c.args.order.now
    c.files_give_one_answer.ensures ((g.met.S.Shop g.world.𝓛 g.world.𝓜 g.world.𝓡 ((λ s x. x), (λ x. x), (λ x. x), λ x. x)).readable c.run_order.result.0 (g.S.Shop.history c.run_order.result.0).moment) c.run_order.result.1 c.run_order.ensures.ends
