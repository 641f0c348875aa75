use Rattle.drill_law.proofs.Accepts.{accepted, bytes_are}
use Rattle.drill_law.proofs.Builds.{builds, builds_only}
use Rattle.drill_law.proofs.laws.files_build.Goals as goal

pub returns-clause-build : goal.returns-clause-build
returns-clause-build c = λ n files few are. builds n files are

pub returns-clause-only : goal.returns-clause-only
returns-clause-only c = λ n files r few are given. builds_only n files are r given

pub returns-clause-accepted : goal.returns-clause-accepted
returns-clause-accepted c = λ n few. accepted n

pub returns-clause-bytes : goal.returns-clause-bytes
returns-clause-bytes c = bytes_are
