use Rattle.std.proofs.Common.{◌≡◌, drop}
use Rattle.ecu_mem.specs.Bounds.{IsIdent}
use Rattle.flash_base.specs.Lists.{Each}
use Rattle.flash_plan.specs.Accepting.{IsAsked}
use Rattle.plan_build.specs.Tasks.{all_wanted}
use Rattle.plan_build.proofs.Lists.{joined}
use Rattle.plan_build.proofs.idents.all_wanted.Given as goal

abbrev pub invariant-loop-ident : goal.invariant-loop-ident
invariant-loop-ident l = record {
  is : all_wanted l.name l.task l.dids l.idents ≡ joined l.all (all_wanted l.name l.task l.dids (drop l.ident-index l.idents));
  values : Each IsIdent (drop l.ident-index l.idents);
  asked : Each IsAsked l.all;
}
