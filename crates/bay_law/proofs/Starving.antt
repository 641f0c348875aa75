-- Want of memory in a step that may receive: no call was made, or a receive whose bytes no event has.
use Rattle.std.proofs.Common.{◌≡◌, inl, inr, ℕ, ◌≤◌, true, false, List, take, Ok, Result, sym, ◌∙◌, ap, subst, arith}
use Rattle.std.specs.Prelude.{Bool, IsTrue}
use Rattle.disk_model.specs.Disk.{DiskState, IsCrashImage}
use Rattle.disk_model.specs.declared.device.DeviceFault.{DeviceFault}
use Rattle.flash_run.specs.Run.{RunState, IsKept, core_of_run}
use Rattle.gateway_link.specs.Calls.{StraysOnce}
use Rattle.journal_model.specs.Records.{records, label_of}
use Rattle.journal_steps.proofs.Laters.{later_then}
use Rattle.shop_model.specs.History.{History, LAST, Receive, Received, disk_now, vehicle_now}
use Rattle.shop_model.specs.Through.{AreShown}
use Rattle.unit_model.specs.Poll.{Carries}
use Rattle.unit_model.specs.Vehicle.{Vehicle}
use Rattle.unit_model.specs.declared.reply.Got.{Got}
use Rattle.unit_model.specs.declared.reply.Got.TheVariants.{Bytes}
use Rattle.bay_law.specs.Bay.{JournalState, IsBay}
use Rattle.bay_law.specs.Driven.{IsTold, Strays}
use Rattle.bay_law.specs.Sentence.{IsSoundAt, KeepsSound, Covers}
use Rattle.bay_law.proofs.Parts.{shown_before, link_later, while_then}
use Rattle.bay_law.proofs.Steps.{fed_stands}
use Rattle.bay_law.proofs.Units.{sound_units}

abbrev pub starved_run : RunState → RunState
starved_run r = record r { starved = true }

-- without a call
pub starve_still : (td tv : Bool) (r : RunState) (first now : History) (j : JournalState) (K : DiskState → Type 0) → r.starved ≡ false → IsBay td tv r first now j K → IsBay td tv (starved_run r) first now j K
starve_still td tv r first now j K fed is = record {
  is_later = is.is_later;
  linked = is.linked;
  failed = is.failed;
  small = is.small;
  ordered = is.ordered;
  journal = is.journal;
  told = λ t shown. stopped (is.told t shown);
  sentence = is.sentence;
}
  where
    stopped : IsTold r first now → IsTold (starved_run r) first now
    stopped t = record { last = t.last; faults = t.faults; driven = t.driven; rose = t.rose; stands = inl (fed_stands r.starved (Strays t.last (vehicle_now now)) (vehicle_now now ≡ t.last) fed t.stands) }

-- the vehicle that a stray receive leaves
stray_carries : (out : List ℕ) (size : ℕ) (C : Type 0) (v w : Vehicle) (a : Result Got DeviceFault) → a ≡ Ok (Bytes size) → Received out C v w a → Carries (take size out) v w
stray_carries out size C v w a is r = (subst (λ (x : Result Got DeviceFault). Received out C v w x) is r).0

-- with one
pub starve_stray : (td tv : Bool) (r : RunState) (first old new : History) (j : JournalState) (K : DiskState → Type 0) → IsKept r → r.starved ≡ false → old.moment ≤ LAST → StraysOnce tv old new → IsBay td tv r first old j K → IsBay td tv (starved_run r) first new j K
starve_stray td tv r first old new j K kept fed bounded did is =
    let later = link_later Receive old new did.answer bounded did.call in
    record {
      is_later = later_then first old new is.is_later later;
      linked = λ l. did.linked ∙ is.linked l;
      failed = λ f. omega (arith, is.failed f, later.disk_faults);
      small = is.small;
      ordered = is.ordered;
      journal = record {
        label = is.journal.label;
        entries = is.journal.entries;
        live = is.journal.live;
        kept = λ t lives. subst (λ (d : DiskState). K d) (sym did.call.disk) (is.journal.kept t lives);
        covers = λ t. subst (λ (d : DiskState). Covers r.plan (core_of_run r) d) (sym did.call.disk) (is.journal.covers t);
      };
      told = λ t shown. stopped t (is.told t (shown_before first.moment new.moment old new later later.later shown));
      sentence = λ d t. sound t (is.sentence d t);
    }
  where
    carries : IsTrue tv → Carries (take did.size did.out) (vehicle_now old) (vehicle_now new)
    carries t = stray_carries did.out did.size _ (vehicle_now old) (vehicle_now new) did.answer did.says (did.vehicle t)

    stopped : IsTrue tv → IsTold r first old → IsTold (starved_run r) first new
    stopped t told =
        let here : vehicle_now old ≡ told.last = fed_stands r.starved (Strays told.last (vehicle_now old)) (vehicle_now old ≡ told.last) fed told.stands in
        record {
          last = told.last;
          faults = told.faults;
          driven = told.driven;
          rose = omega (arith, told.rose, did.call.never_falls);
          stands = inr (take did.size did.out, subst (λ (v : Vehicle). Carries (take did.size did.out) v (vehicle_now new)) here (carries t));
        }

    sound : IsTrue tv → KeepsSound r.plan first old → KeepsSound r.plan first new
    sound t so_far v0 start =
        let before = so_far v0 start in
        let later = link_later Receive old new did.answer bounded did.call in
        while_then (IsSoundAt r.plan v0) first old new before later (λ m after le shown.
        let same : m ≡ new.moment = omega (arith, did.call.passes.moment, bounded, after, le) in
        let shown_old : AreShown old first.moment old.moment = shown_before first.moment m old new later (omega (arith, after)) shown in
        let here : IsSoundAt r.plan v0 (disk_now old) (vehicle_now old) = before.each old.moment before.is_later.later (omega arith) shown_old in
        subst (λ (k : ℕ). IsSoundAt r.plan v0 (new.disk_at k) (new.vehicle_at k)) (sym same) (λ image left.
        let left_old : IsCrashImage (disk_now old) image = subst (λ (d : DiskState). IsCrashImage d image) did.call.disk left in
        sound_units r.plan (records (label_of r.plan) image) (vehicle_now old) (vehicle_now new) v0 (ap (λ (x : Vehicle). x.units) (carries t).becomes) (here image left_old)))
