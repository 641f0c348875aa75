-- The refusals of the parts, each with the file that it speaks of.
use Rattle.std.specs.Prelude.{ℕ, zero, suc, List, [], ◌∷◌, bytes_eq, if◌then◌else◌}
use Rattle.rec_text.specs.declared.fault.RecFault.{RecFault}
use Rattle.rec_text.specs.declared.fault.RecFault.TheVariants as lines
use Rattle.odx_tree.specs.declared.fault.TreeFault.{TreeFault}
use Rattle.odx_tree.specs.declared.fault.TreeFault.TheVariants as tree
use Rattle.ecu_mem.specs.declared.fault.MemFault.{MemFault}
use Rattle.ecu_mem.specs.declared.fault.MemFault.TheVariants as mem
use Rattle.ecu_mem.specs.declared.types.Flash.{Flash}
use Rattle.ecu_mem.specs.declared.types.Source.{Source}
use Rattle.ecu_mem.specs.declared.types.Source.TheVariants.{Inside, File}
use Rattle.session_image.specs.declared.types.ImageFault.{ImageFault}
use Rattle.session_image.specs.declared.types.ImageFault.TheVariants as image
use Rattle.flash_order.specs.declared.fault.OrderFault.{OrderFault}
use Rattle.flash_order.specs.declared.fault.OrderFault.TheVariants as order
use Rattle.flash_order.specs.declared.order.Task.{Task}
use Rattle.flash_plan.specs.declared.fault.PlanFault.{PlanFault}
use Rattle.flash_plan.specs.declared.fault.PlanFault.TheVariants as plan
use Rattle.plan_build.specs.declared.built.Catalogue.{Catalogue}
use Rattle.plan_build.specs.declared.fault.BuildFault.{BuildFault}
use Rattle.plan_build.specs.declared.fault.BuildFault.TheVariants.{Input, NoMemory}
use Rattle.plan_build.specs.declared.fault.Cause.TheVariants.{NotJson, NotTree, Missing, BadNumber, Twice, Dangling, TooLarge, BadField, BadLine, BadSum, BadCount, NoEnd, AfterEnd, Conflict, Compressed, UserDefined, BadText, NoSegment, BinarySize, Hole, OutOfRange, Overlap, ChecksumDiffers, TooMany, SameName, SameUnit, UnknownAfter, Cycle, TooWide}

abbrev pub order_refusal : List ℕ → OrderFault → BuildFault
order_refusal name order.NotJson = Input name NotJson
order_refusal name (order.BadField task field) = Input name (BadField task field)
order_refusal name order.NoMemory = NoMemory

abbrev pub tree_refusal : List ℕ → TreeFault → BuildFault
tree_refusal name tree.TooLarge = Input name TooLarge
tree_refusal name tree.NotJson = Input name NotJson
tree_refusal name (tree.NotTree path) = Input name (NotTree path)
tree_refusal name tree.NoMemory = NoMemory

abbrev pub mem_refusal : List ℕ → MemFault → BuildFault
mem_refusal name (mem.Missing path tag) = Input name (Missing path tag)
mem_refusal name (mem.BadNumber path) = Input name (BadNumber path)
mem_refusal name (mem.Twice id) = Input name (Twice id)
mem_refusal name (mem.Dangling id) = Input name (Dangling id)
mem_refusal name mem.NoMemory = NoMemory

abbrev pub lines_refusal : List ℕ → RecFault → BuildFault
lines_refusal name (lines.BadLine n) = Input name (BadLine n)
lines_refusal name (lines.BadSum n) = Input name (BadSum n)
lines_refusal name (lines.BadCount said seen) = Input name (BadCount said seen)
lines_refusal name (lines.AfterEnd n) = Input name (AfterEnd n)
lines_refusal name (lines.Conflict at) = Input name (Conflict at)
lines_refusal name lines.NoEnd = Input name NoEnd
lines_refusal name lines.NoMemory = NoMemory

-- ------ the file that has some data: the data file, or the catalogue where they stand inside
abbrev pub file_with : List ℕ → Source → List ℕ
file_with name (Inside text) = name
file_with name (File file) = file

-- by the ID of the flash data
abbrev pub data_file : List ℕ → List ℕ → List Flash → List ℕ
data_file name id [] = name
data_file name id (f ∷ fs) = if bytes_eq f.id id then file_with name f.source else data_file name id fs

abbrev pub image_refusal : Catalogue → ImageFault → BuildFault
image_refusal c (image.Compressed id) = Input c.name (Compressed id)
image_refusal c (image.UserDefined id) = Input c.name (UserDefined id)
image_refusal c (image.BadText id) = Input c.name (BadText id)
image_refusal c (image.Lines id fault) = lines_refusal (data_file c.name id c.mem.flashes) fault
image_refusal c (image.NoSegment id) = Input c.name (NoSegment id)
image_refusal c image.TooLarge = Input c.name TooLarge
image_refusal c (image.BinarySize id said seen) = Input c.name (BinarySize id said seen)
image_refusal c (image.Hole segment at) = Input c.name (Hole segment at)
image_refusal c (image.OutOfRange segment) = Input c.name (OutOfRange segment)
image_refusal c (image.Overlap at) = Input c.name (Overlap at)
image_refusal c (image.ChecksumDiffers check said got) = Input c.name (ChecksumDiffers check said got)
image_refusal c image.NoMemory = NoMemory

-- ------ the name of a task by its number
abbrev pub name_of : List Task → ℕ → List ℕ
name_of [] n = []
name_of (t ∷ ts) zero = t.name
name_of (t ∷ ts) (suc n) = name_of ts n

abbrev pub plan_refusal : List ℕ → List Task → PlanFault → BuildFault
plan_refusal name ts (plan.TooMany what) = Input name (TooMany what)
plan_refusal name ts (plan.SameName n) = Input name (SameName (name_of ts n))
plan_refusal name ts (plan.SameUnit address) = Input name (SameUnit address)
plan_refusal name ts (plan.UnknownAfter n) = Input name (UnknownAfter (name_of ts n))
plan_refusal name ts (plan.Cycle n) = Input name (Cycle (name_of ts n))
plan_refusal name ts (plan.TooWide n) = Input name (TooWide (name_of ts n))
plan_refusal name ts plan.NoMemory = NoMemory
