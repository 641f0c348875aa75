use Rattle.std.proofs.Common.{inl, inr, refl}
use Rattle.plan_commands.proofs.looking.answer_status.Goals as goal

pub returns-clause-served : goal.returns-clause-served
returns-clause-served g c = record {
  gave = c.build-built.result;
  read = c.build-built.ensures.read;
  told = c.build-built.ensures.told;
  outside = c.build-built.ensures.outside;
  printed = inl (refl, refl);
}

pub returns-in-Ok-clause-served : goal.returns-in-Ok-clause-served
returns-in-Ok-clause-served g c = record {
  gave = c.build-built.result;
  read = c.build-built.ensures.read;
  told = c.build-built.ensures.told;
  outside = c.build-built.ensures.outside;
  printed = inr (c.in-Ok.answer, c.in-Ok.ensures.is, c.print.ensures.printed);
}
