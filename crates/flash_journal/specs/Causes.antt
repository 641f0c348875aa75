-- Why nothing could be read.
use Rattle.flash_base.specs.Counts.{Rises}
use Rattle.shop_model.specs.History.{History}
use Rattle.flash_journal.specs.declared.reading.ReadFault.{ReadFault}
use Rattle.flash_journal.specs.declared.reading.ReadFault.TheVariants.{Disk, Memory}

-- the disk is the cause only where its count of faults rose
abbrev pub ReadCause : History → History → ReadFault → Type 0
ReadCause old new Disk = Rises old.disk_faults new.disk_faults
ReadCause old new Memory = Unit {0}
