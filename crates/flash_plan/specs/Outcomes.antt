-- Entries and outcomes, compared.
use Rattle.std.specs.Prelude.{Bool, true, false, ◌&&◌, ◌||◌, ◌==◌}
use Rattle.flash_plan.specs.declared.outcome.Entry.{Entry}
use Rattle.flash_plan.specs.declared.outcome.Entry.TheVariants as entry
use Rattle.flash_plan.specs.declared.outcome.Outcome.{Outcome}
use Rattle.flash_plan.specs.declared.outcome.Outcome.TheVariants.{Complete, IdentMismatch, Refused, BadAnswer, CheckFailed, Undelivered, NoAnswer, PendingLimit, BusyLimit, LinkLost, LinkRefused, Blocked, DiskFault, NoMemory}

abbrev pub same_entry : Entry → Entry → Bool
same_entry (entry.Begun a) (entry.Begun b) = a == b
same_entry (entry.Marked a s) (entry.Marked b t) = a == b && s == t
same_entry (entry.Complete a) (entry.Complete b) = a == b
same_entry a b = false

abbrev pub same_outcome : Outcome → Outcome → Bool
same_outcome Complete Complete = true
same_outcome (IdentMismatch a) (IdentMismatch b) = a == b
same_outcome (Refused a b) (Refused c d) = a == c && b == d
same_outcome (BadAnswer a) (BadAnswer b) = a == b
same_outcome (CheckFailed a b c) (CheckFailed d e f) = a == d && b == e && c == f
same_outcome (Undelivered a) (Undelivered b) = a == b
same_outcome (NoAnswer a) (NoAnswer b) = a == b
same_outcome (PendingLimit a) (PendingLimit b) = a == b
same_outcome (BusyLimit a) (BusyLimit b) = a == b
same_outcome (LinkLost a) (LinkLost b) = a == b
same_outcome (LinkRefused a) (LinkRefused b) = a == b
same_outcome (Blocked a) (Blocked b) = a == b
same_outcome DiskFault DiskFault = true
same_outcome NoMemory NoMemory = true
same_outcome a b = false

-- records with one entry more
abbrev pub with_entry : Entry → (Entry → Bool) → Entry → Bool
with_entry e records x = same_entry x e || records x
