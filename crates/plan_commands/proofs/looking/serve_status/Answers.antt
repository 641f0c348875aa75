use Rattle.plan_commands.proofs.StatusEnds.{serves_status}
use Rattle.plan_commands.proofs.looking.serve_status.Goals as goal

pub returns-clause-serves : goal.returns-clause-serves
returns-clause-serves g c =
    serves_status g.F.Shelf.tells (g.F.Shelf.history c.args.shelf.now) (g.F.Shelf.history c.answer_status.new.shelf)
    g.S.Shop.tells_disk (g.S.Shop.history c.args.shop.now) (g.S.Shop.history c.answer_status.new.shop)
    g.K.Sink.tells (g.K.Sink.history c.args.out.now) (g.K.Sink.history c.answer_status.new.out) c.args.order.now
    c.files_give_one_answer.ensures c.answer_status.result c.answer_status.ensures.reads c.answer_status.ensures.served
