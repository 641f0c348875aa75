use Rattle.journal_model.proofs.Worked.{records_worked, marks_worked, migrations_worked}
use Rattle.journal_model.proofs.laws.worked_records.Goals as goal

pub returns-clause-records : goal.returns-clause-records
returns-clause-records c = records_worked

pub returns-clause-marks : goal.returns-clause-marks
returns-clause-marks c = marks_worked

pub returns-clause-migrations : goal.returns-clause-migrations
returns-clause-migrations c = migrations_worked
