use Rattle.std.proofs.Common.{◌≡◌, drop}
use Rattle.plan_build.specs.Refusals.{data_file}
use Rattle.plan_build.proofs.refusals.data_file.Given as goal

abbrev pub invariant-loop-flash : goal.invariant-loop-flash
invariant-loop-flash l = data_file l.name l.id l.flashes ≡ data_file l.name l.id (drop l.flash-index l.flashes)
