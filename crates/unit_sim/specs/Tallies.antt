-- The counts of trouble as a simulated unit keeps them.
use Rattle.std.specs.Prelude.{ℕ, [], slice_index, List}
use Rattle.unit_model.specs.Step.{Refuses, Odd, Fails, Mutes, Busies, raised, raise_if, raise_code}
use Rattle.flash_base.specs.Counts.{one_more}
use Rattle.unit_model.specs.Unit.{Counts}
use Rattle.unit_sim.specs.declared.tally.Tally.{Tally}
use Rattle.unit_sim.specs.declared.tally.Raise.{Raise}
use Rattle.unit_sim.specs.declared.tally.Raise.TheVariants as raise

abbrev pub counts_of : Tally → Counts
counts_of t = record {
  refused = λ code. slice_index t.refused code;
  odd = t.odd;
  failed = t.failed;
  muted = t.muted;
  late = t.late;
  stalled = t.stalled;
  busy = t.busy;
  nacked = λ code. slice_index t.nacked code;
}

abbrev pub raised_by : Raise → Counts → Counts
raised_by raise.Nothing c = c
raised_by (raise.Refused nrc) c = raised (Refuses nrc) c
raised_by raise.Odd c = raised (Odd []) c
raised_by raise.Failed c = raised (Fails []) c
raised_by raise.Muted c = raised Mutes c
raised_by raise.Busy c = raised Busies c
raised_by (raise.Timed late stalled) c =
    record c { late = raise_if late c.late; stalled = raise_if stalled c.stalled }

abbrev pub nacked_by : ℕ → Counts → Counts
nacked_by code c = record c { nacked = raise_code code c.nacked }

-- counts by code
abbrev pub by_code : List ℕ → ℕ → ℕ
by_code counts = λ code. slice_index counts code

abbrev pub late_more : Counts → Counts
late_more c = record c { late = one_more c.late }

abbrev pub stalled_more : Counts → Counts
stalled_more c = record c { stalled = one_more c.stalled }
