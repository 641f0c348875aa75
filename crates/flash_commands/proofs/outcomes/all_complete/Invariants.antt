use Rattle.std.proofs.Common.{◌≡◌, drop}
use Rattle.flash_base.specs.Lists.{all_of}
use Rattle.run_report.specs.Report.{is_complete}
use Rattle.flash_commands.proofs.outcomes.all_complete.Given as goal

abbrev pub invariant-loop-outcome : goal.invariant-loop-outcome
invariant-loop-outcome l = all_of (drop l.outcome-index l.outcomes) is_complete ≡ all_of l.outcomes is_complete
