-- Disk calls, one after another.
use Rattle.std.proofs.Common.{◌≤◌, ◌∙◌, refl, arith, Result}
use Rattle.disk_model.specs.declared.device.DeviceFault.{DeviceFault}
use Rattle.shop_model.specs.History.{History, Call, LAST, DiskCall}
use Rattle.shop_model.specs.Through.{IsLater}
use Rattle.journal_steps.specs.Later.{IsDiskLater}

pub later_same : (a : History) → IsLater a a
later_same a = record {
  later = omega arith;
  disk_past = λ m le. refl;
  vehicle_past = λ m le. refl;
  calls_past = λ m lt. refl;
  disk_faults = omega arith;
  link_faults = omega arith;
  link_calls = omega arith;
}

pub later_then : (a b c : History) → IsLater a b → IsLater b c → IsLater a c
later_then a b c f s = record {
  later = omega (arith, f.later, s.later);
  disk_past = λ m le. s.disk_past m (omega (arith, le, f.later)) ∙ f.disk_past m le;
  vehicle_past = λ m le. s.vehicle_past m (omega (arith, le, f.later)) ∙ f.vehicle_past m le;
  calls_past = λ m lt. s.calls_past m (omega (arith, lt, f.later)) ∙ f.calls_past m lt;
  disk_faults = omega (arith, f.disk_faults, s.disk_faults);
  link_faults = omega (arith, f.link_faults, s.link_faults);
  link_calls = omega (arith, f.link_calls, s.link_calls);
}

pub disk_later : {T : Type 0} (call : Call) (a b : History) (r : Result T DeviceFault) → a.moment ≤ LAST → DiskCall call a b r → IsDiskLater a b
disk_later call a b r bounded did = record {
  is_later = record {
    later = omega (arith, did.passes.moment, bounded);
    disk_past = did.passes.disk_past;
    vehicle_past = did.passes.vehicle_past;
    calls_past = did.passes.calls_past;
    disk_faults = did.never_falls;
    link_faults = omega (arith, did.link_faults);
    link_calls = omega (arith, did.link_calls);
  };
  vehicle = did.vehicle;
  link_faults = did.link_faults;
  link_calls = did.link_calls;
  linked = did.linked;
}

pub disk_then : (a b c : History) → IsDiskLater a b → IsDiskLater b c → IsDiskLater a c
disk_then a b c f s = record {
  is_later = later_then a b c f.is_later s.is_later;
  vehicle = s.vehicle ∙ f.vehicle;
  link_faults = s.link_faults ∙ f.link_faults;
  link_calls = s.link_calls ∙ f.link_calls;
  linked = s.linked ∙ f.linked;
}
