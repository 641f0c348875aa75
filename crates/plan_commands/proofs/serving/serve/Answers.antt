use Rattle.std.proofs.Common.{◌∙◌, sym}
use Rattle.plan_commands.proofs.Ends.{serves_command, serves_nothing, serves_usage}
use Rattle.plan_commands.proofs.serving.serve.Goals as goal

pub returns-in-Err-clause-serves : goal.returns-in-Err-clause-serves
returns-in-Err-clause-serves g c =
    serves_nothing g.F.Shelf.tells (g.F.Shelf.history c.args.shelf.now) g.K.Sink.tells (g.K.Sink.history c.args.out.now) _ (λ none.
    let unread = c.read.ensures.none none in
    let never : ⊥ = cc (unread, c.in-Err.is) in
    never)

pub returns-in-Ok-None-clause-serves : goal.returns-in-Ok-None-clause-serves
returns-in-Ok-None-clause-serves g c =
    let s0 = g.F.Shelf.history c.args.shelf.now in
    serves_usage g.F.Shelf.tells s0 s0 g.K.Sink.tells (g.K.Sink.history c.args.out.now) (g.K.Sink.history c.print_usage.new.out) _
    c.print_usage.result c.print_usage.ensures.status (sym c.in-Ok-None.ensures.is ∙ c.in-Ok-None.field-0-is) c.print_usage.ensures.printed

pub returns-in-Ok-Some-clause-serves : goal.returns-in-Ok-Some-clause-serves
returns-in-Ok-Some-clause-serves g c =
    let are = rw c.in-Ok-Some.field-0-is at c.in-Ok-Some.ensures.is in
    serves_command g.F.Shelf.tells (g.F.Shelf.history c.args.shelf.now) (g.F.Shelf.history c.serve_command.new.shelf)
    g.K.Sink.tells (g.K.Sink.history c.args.out.now) (g.K.Sink.history c.serve_command.new.out) _
    c.in-Ok-Some.command are c.files_give_one_answer.ensures c.serve_command.result c.serve_command.ensures.served
