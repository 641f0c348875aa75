use Rattle.std.proofs.Common.{Ok, Err, refl}
use Rattle.flash_commands.proofs.running.run_order.Goals as goal

pub returns-in-Ok-clause-ends : goal.returns-in-Ok-clause-ends
returns-in-Ok-clause-ends g c = record {
  gave = Ok c.in-Ok.built;
  read = c.in-Ok.ensures.read;
  told = c.in-Ok.ensures.told;
  outside = tt;
  ends = c.run_built.ensures.ends;
}

pub returns-in-Err-clause-ends : goal.returns-in-Err-clause-ends
returns-in-Err-clause-ends g c = record {
  gave = Err c.in-Err.fault;
  read = c.in-Err.ensures.read;
  told = c.in-Err.ensures.told;
  outside = c.in-Err.ensures.outside;
  ends = (refl, c.refuse_files.ensures.said);
}
