-- Records with one entry more, and the marks that they have of one unit.
use Rattle.std.specs.Prelude.{ℕ, Bool, ◌||◌, ◌==◌}
use Rattle.flash_plan.specs.Outcomes.{same_entry}
use Rattle.flash_plan.specs.declared.outcome.Entry.{Entry}
use Rattle.flash_plan.specs.declared.outcome.Entry.TheVariants.{Marked}

-- the segments of unit n that are recorded marked
abbrev pub marks_of : (Entry → Bool) → ℕ → ℕ → Bool
marks_of records n s = records (Marked n s)

abbrev pub with_mark : ℕ → (ℕ → Bool) → ℕ → Bool
with_mark s marks k = k == s || marks k
