-- What a command answers once it is known what the files give: its status, and the text that it prints.
use Rattle.std.specs.Prelude.{ℕ, List, bytes_eq, Option, Some, None, Result, Ok, Err}
use Rattle.std.specs.List.{position_from}
use Rattle.flash_plan.specs.declared.unit.UnitPlan.{UnitPlan}
use Rattle.plan_build.specs.declared.built.Built.{Built}
use Rattle.plan_build.specs.declared.fault.BuildFault.{BuildFault}
use Rattle.plan_build.specs.declared.fault.BuildFault.TheVariants as fault
use Rattle.run_report.specs.Checking.{check_text}
use Rattle.run_report.specs.Imaging.{image_text}
use Rattle.run_report.specs.Refusing.{refusal_line, no_task_line}
use Rattle.plan_commands.specs.declared.answering.Answer.{Answer}
use Rattle.plan_commands.specs.declared.status.Status.{Status}
use Rattle.plan_commands.specs.declared.status.Status.TheVariants.{Done, Input, Shelf, NoMemory}
use Rattle.plan_commands.specs.declared.words.Command.{Command}
use Rattle.plan_commands.specs.declared.words.Command.TheVariants.{Check, Image}

-- the status of a refusal of the files
abbrev pub status_of : BuildFault → Status
status_of (fault.Shelf name why) = Shelf
status_of (fault.Input name cause) = Input
status_of fault.NoMemory = NoMemory

-- a refusal is one line
abbrev pub refused : BuildFault → Answer
refused e = record { status = status_of e; text = refusal_line e }

-- the number of the unit with a name, from 0
abbrev pub number_of : List ℕ → List UnitPlan → Option ℕ
number_of task P = position_from (λ (u : UnitPlan). bytes_eq u.name task) 0 P

-- the image of a task, if there is one with this name
abbrev pub image_of : List ℕ → List ℕ → Built → Option ℕ → Answer
image_of order task b None = record { status = Input; text = no_task_line order task }
image_of order task b (Some n) = record { status = Done; text = image_text b n }

abbrev pub shown_for : Command → Built → Answer
shown_for (Check order) b = record { status = Done; text = check_text b }
shown_for (Image order task) b = image_of order task b (number_of task b.plan)

abbrev pub answered : Command → Result Built BuildFault → Answer
answered c (Ok b) = shown_for c b
answered c (Err e) = refused e
