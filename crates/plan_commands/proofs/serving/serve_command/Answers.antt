use Rattle.std.proofs.Common.{inl, inr, refl}
use Rattle.plan_commands.specs.declared.status.Status.TheVariants.{NoMemory}
use Rattle.plan_commands.proofs.Ends.{printed_by, served_by}
use Rattle.plan_commands.proofs.serving.serve_command.Goals as goal

pub returns-clause-served : goal.returns-clause-served
returns-clause-served g c =
    let before = (g.K.Sink.history c.args.out.now).written in
    let faults = (g.K.Sink.history c.args.out.now).faults in
    served_by g.F.Shelf.tells (g.F.Shelf.history c.args.shelf.now).contents (g.F.Shelf.history c.args.shelf.now).faults (g.F.Shelf.history c.build-built.new.shelf).faults g.K.Sink.tells before before faults faults
    c.args.command.now NoMemory c.order.result.now c.build-built.result c.order.ensures c.build-built.ensures.read c.build-built.ensures.told c.build-built.ensures.outside (inl (refl, refl))

pub returns-in-Ok-clause-served : goal.returns-in-Ok-clause-served
returns-in-Ok-clause-served g c =
    served_by g.F.Shelf.tells (g.F.Shelf.history c.args.shelf.now).contents (g.F.Shelf.history c.args.shelf.now).faults (g.F.Shelf.history c.build-built.new.shelf).faults g.K.Sink.tells
    (g.K.Sink.history c.args.out.now).written (g.K.Sink.history c.print.new.out).written (g.K.Sink.history c.args.out.now).faults (g.K.Sink.history c.print.new.out).faults
    c.args.command.now c.print.result c.order.result.now c.build-built.result c.order.ensures c.build-built.ensures.read c.build-built.ensures.told c.build-built.ensures.outside
    (inr (
      c.in-Ok.ensures.some,
      printed_by g.K.Sink.tells (g.K.Sink.history c.args.out.now).written (g.K.Sink.history c.print.new.out).written (g.K.Sink.history c.args.out.now).faults (g.K.Sink.history c.print.new.out).faults
          c.in-Ok.answer _ c.print.result c.in-Ok.ensures.is c.print.ensures.printed,
    ))
