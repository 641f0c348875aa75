-- A disk call of a shop that tells nothing of its disk.
use Rattle.std.proofs.Common.{◌≡◌, ℕ, suc, ◌+◌, ◌<◌, ◌≤◌, ◌^◌, true, false, refl, sym, ◌∙◌, ap, arith, Result, Ok, Err}
use Rattle.std.proofs.lemmas.Bool.{both_ways, lt-ltb}
use Rattle.std.specs.Prelude.{nat_lt}
use Rattle.disk_model.specs.declared.device.DeviceFault.{DeviceFault}
use Rattle.flash_base.specs.Counts.{Rises, one_more}
use Rattle.unit_model.specs.Vehicle.{Vehicle}
use Rattle.shop_model.specs.History.{Call, DiskCall, LAST, Passes}
use Rattle.folder_shop.specs.declared.moments.Past.{Past, Start, Then'}
use Rattle.folder_shop.specs.declared.told.Told.{Told}
use Rattle.folder_shop.specs.Moments.{depth, call_in, vehicle_in}
use Rattle.folder_shop.specs.Shops.{history, MissedDisk, Passed}

-- the vehicle at the last moment is the one now
pub at_end : (p : Past) (now : Vehicle) (m : ℕ) → depth p ≤ m → vehicle_in p now m ≡ now
at_end Start now m le = refl
at_end (Then' c w k before) now m le =
    let test : nat_lt (depth before) m ≡ true = lt-ltb (depth before) m (omega (arith, le)) in
    rw test refl

pub now_is : (t : Told) (now : Vehicle) → vehicle_in t.past now t.moments ≡ now
now_is t now = at_end t.past now t.moments (omega (arith, t.depth))

-- a call that went
pub disk_went : {T : Type 0} (call : Call) (w : Vehicle) (old new : Told) (x : T) → old.moments < LAST
    → Passed call w old new → DiskCall {T = T} call (history old w) (history new w) (Ok x)
disk_went call w old new x lt p = record {
  passes = record {
    moment = omega (arith, p.moments, lt);
    last = λ is. absurd (omega (arith, is, lt));
    disk_past = λ m le. refl;
    vehicle_past = λ m le. p.vehicles w m le;
    calls_past = λ m less. p.calls m less;
    call_is = λ less. p.call_is;
  };
  vehicle = now_is new w ∙ sym (now_is old w);
  link_faults = p.link_faults;
  link_calls = p.link_calls;
  linked = p.linked;
  never_falls = omega (arith, p.disk_faults);
  fault = λ is. absurd (both_ways false refl is);
}

-- a call that failed
pub disk_missed : {T : Type 0} (call : Call) (w : Vehicle) (old mid new : Told) (e : DeviceFault) → old.moments < LAST
    → Passed call w old mid → MissedDisk mid new → DiskCall {T = T} call (history old w) (history new w) (Err e)
disk_missed call w old mid new e lt p miss = record {
  passes = record {
    moment = omega (arith, p.moments, lt, miss.moments);
    last = λ is. absurd (omega (arith, is, lt));
    disk_past = λ m le. refl;
    vehicle_past = λ m le. (λ i. vehicle_in (miss.past i) w m) ∙ p.vehicles w m le;
    calls_past = λ m less. (λ i. call_in (miss.past i) m) ∙ p.calls m less;
    call_is = λ less. (λ i. call_in (miss.past i) old.moments) ∙ p.call_is;
  };
  vehicle = now_is new w ∙ sym (now_is old w);
  link_faults = miss.link_faults ∙ p.link_faults;
  link_calls = miss.link_calls ∙ p.link_calls;
  linked = miss.linked ∙ p.linked;
  never_falls = omega (arith, p.disk_faults, miss.disk_faults, old.disk_count);
  fault = λ is. omega (arith, p.disk_faults, miss.disk_faults, old.disk_count);
}
