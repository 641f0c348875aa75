use Rattle.std.proofs.Common.{◌∙◌}
use Rattle.flash_workers.proofs.Steps.{grows_same}
use Rattle.flash_workers.proofs.Turns.{grows_made}
use Rattle.flash_workers.proofs.together.in_turns.Goals as goal

pub returns-in-Err : goal.returns-in-Err
returns-in-Err g c = grows_same c.args.bay c.in-Err.bay c.in-Err.ensures.err

pub returns-in-Err-new : goal.returns-in-Err-new
returns-in-Err-new g c =
    grows_same c.args.bay c.into_bay.result (c.into_bay.ensures ∙ c.in-Err-new.ensures.err ∙ c.in-Ok-new.ensures.ok)

pub returns : goal.returns
returns g c =
    grows_made c.args.bay c.in-Ok-new.desk c.close.result c.into_bay-2.result c.in-Ok-new-2.made.0 c.in-Ok-new-2.made.1 c.hire.new.first c.rounds.new.first c.dismiss.new.first
    c.in-Ok-new.ensures.ok c.in-Ok-new-2.ensures.ok c.hire.ensures.follows c.rounds.ensures.follows c.dismiss.ensures.follows
    c.close.ensures.opening c.close.ensures.seen c.into_bay-2.ensures
