-- The images that were worked out by hand.
use Rattle.std.proofs.Common.{refl}
use Rattle.journal_model.specs.Rows.{AreRecordsWorked, AreMarksWorked, AreMigrationsWorked}

pub records_worked : AreRecordsWorked
records_worked = record {
  old_gate = (refl, refl);
  junk_gate = (refl, refl);
  new_gate = (refl, refl);
  hidden = refl;
  no_other = refl;
  no_mark = refl;
  unmade = refl;
  old_mark = refl;
  old_unit = refl;
  old_twice = refl;
  old_not_begun = refl;
  old_cut = refl;
}

pub marks_worked : AreMarksWorked
marks_worked = record {
  size = refl;
  all_begun = refl;
  all_marked = refl;
  all_complete = refl;
  turned = refl;
  not_begun = refl;
  no_segment = refl;
  last_byte = refl;
  slots = refl;
  cut = refl;
  whole = refl;
}

pub migrations_worked : AreMigrationsWorked
migrations_worked = record {
  old_size = refl;
  size = refl;
  old_byte = (refl, refl);
  junk_byte = (refl, refl);
  new_byte = (refl, refl);
  first_free = refl;
  second_old = refl;
  second_closed = refl;
  second_gone = refl;
}
