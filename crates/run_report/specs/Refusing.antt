-- The one line of a refusal: which file it speaks of, and why it is refused.
use Rattle.std.specs.Prelude.{ℕ, List, [], ◌++◌, codes, decimal}
use Rattle.hex.specs.Hex.{encode_lower}
use Rattle.flash_plan.specs.declared.fault.What.{What}
use Rattle.flash_plan.specs.declared.fault.What.TheVariants.{Units, Segments, Bytes, Total, Idents}
use Rattle.flash_shelf.specs.declared.shelf.ShelfFault.{ShelfFault}
use Rattle.flash_shelf.specs.declared.shelf.ShelfFault.TheVariants as shelf
use Rattle.plan_build.specs.declared.fault.BuildFault.{BuildFault}
use Rattle.plan_build.specs.declared.fault.BuildFault.TheVariants.{Shelf, Input, NoMemory}
use Rattle.plan_build.specs.declared.fault.Cause.{Cause}
use Rattle.plan_build.specs.declared.fault.Cause.TheVariants.{NotJson, NotTree, Missing, BadNumber, Twice, Dangling, TooLarge, BadField, NoCatalogue, NoSession, EmptyRaw, NoDid, BadLine, BadSum, BadCount, NoEnd, AfterEnd, Conflict, Compressed, UserDefined, BadText, NoSegment, BinarySize, Hole, OutOfRange, Overlap, ChecksumDiffers, TooMany, SameName, SameUnit, UnknownAfter, Cycle, TooWide}
use Rattle.run_report.specs.Forms.{ten, shown, path_text, task_text}
use Rattle.run_report.specs.Report.{four}

-- of what there is too much
abbrev pub what_text : What → List ℕ
what_text Units = codes "units"
what_text Segments = codes "segments"
what_text Bytes = codes "bytes"
what_text Total = codes "total"
what_text Idents = codes "idents"

abbrev pub cause_text : Cause → List ℕ
cause_text NotJson = codes "not json"
cause_text (NotTree path) = codes "not a tree " ++ path_text path
cause_text (Missing path tag) = codes "missing " ++ path_text path ++ codes " " ++ tag
cause_text (BadNumber path) = codes "bad number " ++ path_text path
cause_text (Twice id) = codes "twice " ++ shown id
cause_text (Dangling id) = codes "dangling " ++ shown id
cause_text TooLarge = codes "too large"
cause_text (BadField task field) = codes "bad field " ++ task_text task ++ codes " " ++ shown field
cause_text (NoCatalogue task) = codes "no catalogue " ++ task
cause_text (NoSession task) = codes "no session " ++ task
cause_text (EmptyRaw task) = codes "empty raw " ++ task
cause_text (NoDid task name) = codes "no did " ++ task ++ codes " " ++ shown name
cause_text (BadLine n) = codes "bad line " ++ decimal n
cause_text (BadSum n) = codes "bad sum " ++ decimal n
cause_text (BadCount said seen) = codes "bad count " ++ decimal said ++ codes " " ++ decimal seen
cause_text NoEnd = codes "no end"
cause_text (AfterEnd n) = codes "after end " ++ decimal n
cause_text (Conflict at) = codes "conflict " ++ ten at
cause_text (Compressed id) = codes "compressed " ++ shown id
cause_text (UserDefined id) = codes "user defined " ++ shown id
cause_text (BadText id) = codes "bad text " ++ shown id
cause_text (NoSegment id) = codes "no segment " ++ shown id
cause_text (BinarySize id said seen) = codes "binary size " ++ shown id ++ codes " " ++ decimal said
    ++ codes " " ++ decimal seen
cause_text (Hole segment at) = codes "hole " ++ decimal segment ++ codes " " ++ ten at
cause_text (OutOfRange segment) = codes "out of range " ++ decimal segment
cause_text (Overlap at) = codes "overlap " ++ ten at
cause_text (ChecksumDiffers name said got) = codes "checksum differs " ++ shown name ++ codes " "
    ++ encode_lower said ++ codes " " ++ encode_lower got
cause_text (TooMany what) = codes "too many " ++ what_text what
cause_text (SameName name) = codes "same name " ++ name
cause_text (SameUnit address) = codes "same unit " ++ four address
cause_text (UnknownAfter name) = codes "unknown after " ++ name
cause_text (Cycle name) = codes "cycle " ++ name
cause_text (TooWide name) = codes "too wide " ++ name

-- why a file was not read; none for want of memory
abbrev pub shelf_text : ShelfFault → List ℕ
shelf_text shelf.Missing = codes " missing\n"
shelf_text shelf.TooLarge = codes " too large\n"
shelf_text shelf.Failed = codes " failed\n"
shelf_text shelf.NoMemory = []

-- the line of a file whose content is refused
abbrev pub input_line : List ℕ → List ℕ → List ℕ
input_line file text = codes "input " ++ file ++ codes " " ++ text ++ codes "\n"

-- the line of a refusal; none for want of memory
abbrev pub refusal_line : BuildFault → List ℕ
refusal_line (Shelf name fault) = codes "shelf " ++ name ++ shelf_text fault
refusal_line (Input name cause) = input_line name (cause_text cause)
refusal_line NoMemory = []

-- the line of a task that the order does not have
abbrev pub no_task_line : List ℕ → List ℕ → List ℕ
no_task_line order task = input_line order (codes "no task " ++ task)
