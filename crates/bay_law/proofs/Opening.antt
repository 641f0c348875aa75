-- A run over a shop whose journal was opened.
use Rattle.std.proofs.Common.{◌≡◌, true, List, sym, subst, arith}
use Rattle.std.specs.Prelude.{Bool, IsTrue}
use Rattle.std.proofs.lemmas.Bool.{false≢true}
use Rattle.barrier_board.specs.Board.{has_entry as is_found}
use Rattle.bay_core.specs.Core.{core_start}
use Rattle.bay_core.specs.Joint.{RecordsAgree}
use Rattle.disk_model.specs.Disk.{DiskState}
use Rattle.flash_plan.specs.declared.outcome.Entry.{Entry}
use Rattle.flash_plan.specs.declared.unit.LinkRules.{LinkRules}
use Rattle.flash_plan.specs.declared.unit.UnitPlan.{UnitPlan}
use Rattle.flash_run.specs.Run.{run_start}
use Rattle.journal_model.specs.Records.{Label, records, label_of}
use Rattle.journal_steps.specs.Append.{Records}
use Rattle.journal_steps.specs.Later.{IsDiskLater, HoldsOnDisk}
use Rattle.journal_steps.specs.Make.{AllFollow}
use Rattle.run_model.specs.Sound.{IsSound}
use Rattle.shop_model.specs.History.{History, disk_now, vehicle_now}
use Rattle.unit_model.specs.Vehicle.{Vehicle}
use Rattle.bay_law.specs.Bay.{JournalState, IsReadOn, IsBay, AreOrdered}
use Rattle.bay_law.specs.Driven.{IsTold}
use Rattle.bay_law.specs.Sentence.{IsSoundAt, KeepsSound}
use Rattle.bay_law.proofs.Driving.{driven_start}
use Rattle.bay_law.proofs.Keeping.{agree_self}
use Rattle.bay_law.proofs.Parts.{recorded}

-- what the journal's opening leaves at each moment
pub start_sentence : (P : List UnitPlan) (first now : History) → HoldsOnDisk first now (AllFollow (label_of P) (disk_now first)) → KeepsSound P first now
start_sentence P first now through v0 start = record {
  is_later = through.is_later;
  each = λ m ge le shown.
      let at = through.each m ge le in
      subst (λ (w : Vehicle). IsSoundAt P v0 (now.disk_at m) w) (sym at.vehicle) (λ image left.
      let f = at.disk image left in
      subst (λ (R : Entry → Bool). IsSound P R (vehicle_now first) v0) (λ i e. sym (f.entries e) i) (start f.before f.left));
}

start_told : (P : List UnitPlan) (rules : LinkRules) (found : List Entry) (first now : History) → vehicle_now now ≡ vehicle_now first → now.link_faults ≡ first.link_faults → IsTold (run_start P rules found) first now
start_told P rules found first now same faults = record {
  last = vehicle_now first;
  faults = 0;
  driven = driven_start rules P (is_found found) (vehicle_now first);
  rose = omega (arith, faults);
  stands = same;
}

pub open_keeps : (td tv : Bool) (rules : LinkRules) (P : List UnitPlan) (found : List Entry) (first now : History) (j : JournalState) (K : DiskState → Type 0) → AreOrdered found → j.label ≡ label_of P → j.live ≡ true
    → ((e : Entry) → is_found found e ≡ j.has e) → IsDiskLater first now → (IsTrue td → K (disk_now now)) → ((x : DiskState) → K x → IsReadOn j x) → (IsTrue td → HoldsOnDisk first now (AllFollow (label_of P) (disk_now first)))
    → IsBay td tv (run_start P rules found) first now j K
open_keeps td tv rules P found first now j K ordered label live same later kept reads through = record {
  is_later = later.is_later;
  linked = λ l. absurd (false≢true l);
  failed = λ f. absurd (false≢true f);
  small = tt;
  ordered = ordered;
  journal = record {
    label = label;
    entries = λ e. sym (same e);
    live = live;
    kept = λ t l. kept t;
    covers = λ t image left.
        let rec : records (label_of P) image ≡ is_found found = recorded (label_of P) j.has (is_found found) image (λ e. sym (same e)) (subst (λ (L : Label). Records L j.has image) label ((reads (disk_now now) (kept t)).each image left)) in
        subst (λ (R : Entry → Bool). RecordsAgree (core_start P (is_found found)) R) (sym rec) (agree_self (core_start P (is_found found)));
  };
  told = λ t shown. start_told P rules found first now later.vehicle later.link_faults;
  sentence = λ d t. start_sentence P first now (through d);
}
