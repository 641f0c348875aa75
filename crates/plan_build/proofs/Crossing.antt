-- Which of the types of a batch cross threads, by their fields: jobs and parts are sent, tasks and the catalogue are shared.
use denote.RattleType.{RattleType}
use denote.Ref.{NamedLft}
use denote.Param.Send.{IsSend, IsSync, sendable}
use Rattle.std.proofs.Crossing.{crosses}
use Rattle.std.specs.contracts.option.Option as Option
use Rattle.std.specs.contracts.result.Result as Result
use Rattle.flash_base.specs.contracts.bytes.Bytes as Bytes
use Rattle.flash_base.specs.contracts.files.Files as Files
use Rattle.flash_base.specs.contracts.items.Items as Items
use Rattle.flash_base.specs.contracts.names.Names as Names
use Rattle.flash_base.specs.contracts.text.Text as Text
use Rattle.flash_plan.specs.contracts.unit.Segment as Segment
use Rattle.flash_plan.specs.contracts.unit.Wanted as Wanted
use Rattle.flash_order.specs.contracts.order.Task as Task
use Rattle.ecu_mem.specs.contracts.types.Block as Block
use Rattle.ecu_mem.specs.contracts.types.Check as Check
use Rattle.ecu_mem.specs.contracts.types.Flash as Flash
use Rattle.ecu_mem.specs.contracts.types.Ident as Ident
use Rattle.ecu_mem.specs.contracts.types.Session as Session
use Rattle.session_image.specs.contracts.types.Checked as Checked
use Rattle.plan_build.specs.contracts.batch.Job as Job
use Rattle.plan_build.specs.contracts.built.Catalogue as Catalogue
use Rattle.plan_build.specs.contracts.built.Part as Part
use Rattle.plan_build.specs.contracts.fault.BuildFault as BuildFault

-- ------ lists
items_send : (T : RattleType) → IsSend T → IsSend (Items.the_row T)
items_send T s = search (sendable, crosses) depth 40

items_sync : (T : RattleType) → IsSync T → IsSync (Items.the_row T)
items_sync T s = search (sendable, crosses) depth 40

bytes_send : IsSend Bytes.the_row
bytes_send = search (sendable, crosses) depth 40

bytes_sync : IsSync Bytes.the_row
bytes_sync = search (sendable, crosses) depth 40

text_send : IsSend Text.the_row
text_send = search (sendable, crosses) depth 40

text_sync : IsSync Text.the_row
text_sync = search (sendable, crosses) depth 40

names_send : IsSend Names.the_row
names_send = search (sendable, crosses, text_send) depth 40

names_sync : IsSync Names.the_row
names_sync = search (sendable, crosses, text_sync) depth 40

files_send : IsSend Files.the_row
files_send = search (sendable, crosses, text_send, bytes_send) depth 40

ruleset lists_send = (items_send, bytes_send, text_send, names_send, files_send, sendable, crosses)

ruleset lists_sync = (items_sync, bytes_sync, text_sync, names_sync, sendable, crosses)

-- ------ a task is shared
wanted_send : IsSend Wanted.the_row
wanted_send = search lists_send depth 40

wanted_sync : IsSync Wanted.the_row
wanted_sync = search lists_sync depth 40

task_sync : IsSync Task.the_row
task_sync = search (wanted_sync, lists_sync) depth 60 fits 5000

-- ------ a job and its part are sent
pub job_send : (ℓ : NamedLft) → IsSend (Job.the_row ℓ)
job_send ℓ = search (task_sync, wanted_send, lists_send) depth 60 fits 5000

ident_send : IsSend Ident.the_row
ident_send = search lists_send depth 40

segment_send : IsSend Segment.the_row
segment_send = search lists_send depth 40

checked_send : IsSend Checked.the_row
checked_send = search lists_send depth 40

part_send : IsSend Part.the_row
part_send = search (wanted_send, segment_send, checked_send, ident_send, lists_send) depth 60 fits 5000

fault_send : IsSend BuildFault.the_row
fault_send = search lists_send depth 100 fits 20000

pub given_send : IsSend (Result.the_row Part.the_row BuildFault.the_row)
given_send = search (part_send, fault_send, sendable, crosses) depth 40

-- ------ the catalogue is shared
ident_sync : IsSync Ident.the_row
ident_sync = search lists_sync depth 40

check_sync : IsSync Check.the_row
check_sync = search lists_sync depth 40

session_sync : IsSync Session.the_row
session_sync = search (lists_sync, ident_sync, check_sync) depth 40

block_sync : IsSync Block.the_row
block_sync = search (lists_sync, ident_sync) depth 40

flash_sync : IsSync Flash.the_row
flash_sync = search lists_sync depth 40

catalogue_sync : IsSync Catalogue.the_row
catalogue_sync = search (session_sync, block_sync, flash_sync, lists_sync) depth 40

pub one_catalogue_sync : IsSync (Option.the_row Catalogue.the_row)
one_catalogue_sync = search (sendable, crosses, catalogue_sync) depth 40
