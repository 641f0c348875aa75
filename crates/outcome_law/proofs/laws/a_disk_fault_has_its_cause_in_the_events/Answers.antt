use Rattle.outcome_law.proofs.Faulting.{disk_fault_law, failed_law}
use Rattle.outcome_law.proofs.laws.a_disk_fault_has_its_cause_in_the_events.Goals as goal

pub returns : goal.returns
returns c = record { outcomes = disk_fault_law; failed = failed_law }
