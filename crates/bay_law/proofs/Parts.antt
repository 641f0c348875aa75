-- Moments: what was shown, what went by, and what an image records.
use Rattle.std.proofs.Common.{◌≡◌, ◌⊎◌, inl, inr, ℕ, ◌+◌, ◌<◌, ◌≤◌, List, sym, ◌∙◌, ap, subst, arith, Result}
use Rattle.std.specs.Prelude.{Bool, ◌&&◌}
use Rattle.disk_model.specs.Disk.{DiskState}
use Rattle.disk_model.specs.declared.device.DeviceFault.{DeviceFault}
use Rattle.flash_plan.specs.declared.outcome.Entry.{Entry}
use Rattle.journal_model.specs.Records.{Label, records}
use Rattle.journal_steps.proofs.Laters.{later_then}
use Rattle.journal_steps.specs.Append.{Records}
use Rattle.shop_model.specs.History.{History, Call, LAST, Passes, LinkCall, vehicle_now}
use Rattle.shop_model.specs.Through.{IsLater, IsShownCall, AreShown, HoldsWhileShown}
use Rattle.unit_model.specs.Vehicle.{Vehicle}

order : (a b : ℕ) → (a ≤ b) ⊎ (b < a)
order a b = grind arith

-- what was shown of the past was shown then
pub shown_past : (from to : ℕ) (mid new : History) → IsLater mid new → to ≤ mid.moment → AreShown new from to → AreShown mid from to
shown_past from to mid new later le shown k ge lt =
    let call : new.call_at k ≡ mid.call_at k = later.calls_past k (omega (arith, lt, le)) in
    let v : new.vehicle_at k ≡ mid.vehicle_at k = later.vehicle_past k (omega (arith, lt, le)) in
    let w : new.vehicle_at (k + 1) ≡ mid.vehicle_at (k + 1) = later.vehicle_past (k + 1) (omega (arith, lt, le)) in
    subst (λ (x : Call × Vehicle × Vehicle). IsShownCall x.0 x.1 x.2) (λ i. (call i, v i, w i)) (shown k ge lt)

pub shown_before : (from to : ℕ) (old new : History) → IsLater old new → old.moment ≤ to → AreShown new from to → AreShown old from old.moment
shown_before from to old new later le shown = shown_past from old.moment old new later (omega arith) (λ k ge lt. shown k ge (omega (arith, lt, le)))

-- the call that led to the next moment was shown
pub shown_call : {T : Type 0} (call : Call) (from to : ℕ) (old new : History) (r : Result T DeviceFault) → Passes call old new r → old.moment < LAST → from ≤ old.moment → old.moment < to → AreShown new from to → IsShownCall call (vehicle_now old) (vehicle_now new)
shown_call call from to old new r passes lt from_le before shown =
    let one : new.moment ≡ old.moment + 1 = omega (arith, passes.moment, lt) in
    let a : new.call_at old.moment ≡ call = passes.call_is lt in
    let b : new.vehicle_at old.moment ≡ vehicle_now old = passes.vehicle_past old.moment (omega arith) in
    let d : new.vehicle_at (old.moment + 1) ≡ vehicle_now new = ap (λ (k : ℕ). new.vehicle_at k) (sym one) in
    subst (λ (x : Call × Vehicle × Vehicle). IsShownCall x.0 x.1 x.2) (λ i. (a i, b i, d i)) (shown old.moment from_le before)

pub link_later : {T : Type 0} (call : Call) (a b : History) (r : Result T DeviceFault) → a.moment ≤ LAST → LinkCall call a b r → IsLater a b
link_later call a b r bounded did = record {
  later = omega (arith, did.passes.moment, bounded);
  disk_past = did.passes.disk_past;
  vehicle_past = did.passes.vehicle_past;
  calls_past = did.passes.calls_past;
  disk_faults = omega (arith, did.disk_faults);
  link_faults = did.never_falls;
  link_calls = omega (arith, did.link_calls);
}

module _ (Q : DiskState → Vehicle → Type 0) where
  at_moment : (d d2 : DiskState) (v v2 : Vehicle) → d2 ≡ d → v2 ≡ v → Q d v → Q d2 v2
  at_moment d d2 v v2 sd sv here = subst (λ (x : DiskState × Vehicle). Q x.0 x.1) (λ i. (sym sd i, sym sv i)) here

  -- a call proves it for its own new moments alone
  pub while_then : (first old new : History) → HoldsWhileShown first old Q → IsLater old new
      → ((m : ℕ) → old.moment < m → m ≤ new.moment → AreShown new first.moment m → Q (new.disk_at m) (new.vehicle_at m)) → HoldsWhileShown first new Q
  while_then first old new so_far later step = record {
    is_later = later_then first old new so_far.is_later later;
    each = λ m ge le shown. elim (order m old.moment) [
      | inl before ↦ at_moment (old.disk_at m) (new.disk_at m) (old.vehicle_at m) (new.vehicle_at m) (later.disk_past m before) (later.vehicle_past m before) (so_far.each m ge before (shown_past first.moment m old new later before shown))
      | inr after ↦ step m after le shown
    ];
  }

-- ------ records
pub recorded : (L : Label) (R Q : Entry → Bool) (image : List ℕ) → ((x : Entry) → R x ≡ Q x) → Records L R image → records L image ≡ Q
recorded L R Q image same r = λ i x. each x i
  where
    each : (x : Entry) → records L image x ≡ Q x
    each x = (λ i. r.journal i && r.entries x i) ∙ same x
