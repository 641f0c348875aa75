-- How a fact about each moment goes on over a call, and over two parts of a run.
use Rattle.std.proofs.Common.{◌≡◌, ◌⊎◌, inl, inr, ℕ, ◌+◌, ◌<◌, ◌≤◌, ◌^◌, min, refl, sym, ◌∙◌, subst, arith, Result}
use Rattle.disk_model.specs.Disk.{DiskState}
use Rattle.disk_model.specs.declared.device.DeviceFault.{DeviceFault}
use Rattle.unit_model.specs.Vehicle.{Vehicle}
use Rattle.shop_model.specs.History.{History, Call, LAST, Passes, DiskCall, disk_now, vehicle_now}
use Rattle.shop_model.specs.Through.{IsLater, HoldsThrough}
use Rattle.journal_steps.specs.Later.{Stays, HoldsOnDisk}
use Rattle.journal_steps.proofs.Laters.{later_same, later_then, disk_later}

-- a number up to n + 1 is up to n, or it
split : (m n k : ℕ) → m ≤ k → k ≡ min (n + 1) (2 ^ 63) → (m ≤ n) ⊎ (m ≡ k)
split m n k le is = elim (cmp_cases m n) [ inl l ↦ inl l | inr g ↦ inr (omega (arith, le, is, g)) ]
  where
    cmp_cases : (a b : ℕ) → (a ≤ b) ⊎ (b < a)
    cmp_cases a b = grind arith

order : (a b : ℕ) → (a ≤ b) ⊎ (b ≤ a)
order a b = grind arith

module _ (P : DiskState → Vehicle → Type 0) where
  -- before the first call
  pub starts_all : (old : History) → P (disk_now old) (vehicle_now old) → HoldsThrough old old P
  starts_all old here = record {
    is_later = later_same old;
    each = λ m ge le. let same : m ≡ old.moment = omega arith in subst (λ (k : ℕ). P (old.disk_at k) (old.vehicle_at k)) (sym same) here;
  }

  pub joins_all : (old mid new : History) → HoldsThrough old mid P → HoldsThrough mid new P → HoldsThrough old new P
  joins_all old mid new first then = record {
    is_later = later_then old mid new first.is_later then.is_later;
    each = λ m ge le. elim (order m mid.moment) [
      | inl before ↦
          let there = first.each m ge before in
          let d : new.disk_at m ≡ mid.disk_at m = then.is_later.disk_past m before in
          let v : new.vehicle_at m ≡ mid.vehicle_at m = then.is_later.vehicle_past m before in
          subst (λ (x : DiskState × Vehicle). P x.0 x.1) (λ i. (sym d i, sym v i)) there
      | inr after ↦ then.each m after le
    ];
  }

  -- one call, after which P holds too
  pub one_call_all : {T : Type 0} (call : Call) (old new : History) (result : Result T DeviceFault) → IsLater old new → P (disk_now old) (vehicle_now old) → Passes call old new result → P (disk_now new) (vehicle_now new) → HoldsThrough old new P
  one_call_all call old new result later here passes there = record {
    is_later = later;
    each = λ m ge le. elim (split m old.moment new.moment le passes.moment) [
      | inl before ↦
          let same : m ≡ old.moment = omega arith in
          let d : new.disk_at m ≡ old.disk_at old.moment = passes.disk_past m before ∙ (λ i. old.disk_at (same i)) in
          let v : new.vehicle_at m ≡ old.vehicle_at old.moment = passes.vehicle_past m before ∙ (λ i. old.vehicle_at (same i)) in
          subst (λ (x : DiskState × Vehicle). P x.0 x.1) (λ i. (sym d i, sym v i)) here
      | inr is ↦ subst (λ (k : ℕ). P (new.disk_at k) (new.vehicle_at k)) (sym is) there
    ];
  }

-- what implies
pub weakens_all : (P Q : DiskState → Vehicle → Type 0) (old new : History) → ((d : DiskState) (v : Vehicle) → P d v → Q d v) → HoldsThrough old new P → HoldsThrough old new Q
weakens_all P Q old new implies through = record {
  is_later = through.is_later;
  each = λ m ge le. implies (new.disk_at m) (new.vehicle_at m) (through.each m ge le);
}

-- a fact of the disk alone, while the vehicle is that of the start
module _ (Q : DiskState → Type 0) where
  pub starts : (old : History) → Q (disk_now old) → HoldsOnDisk old old Q
  starts old here = starts_all (Stays (vehicle_now old) Q) old (record { vehicle = refl; disk = here })

  -- what holds at the end of a run
  pub at_end : (old mid : History) → HoldsOnDisk old mid Q → Stays (vehicle_now old) Q (disk_now mid) (vehicle_now mid)
  at_end old mid so_far = so_far.each mid.moment so_far.is_later.later (omega arith)

  pub joins : (old mid new : History) → HoldsOnDisk old mid Q → HoldsOnDisk mid new Q → HoldsOnDisk old new Q
  joins old mid new first then = joins_all (Stays (vehicle_now old) Q) old mid new first
      (subst (λ (v : Vehicle). HoldsThrough mid new (Stays v Q)) (at_end old mid first).vehicle then)

  -- one disk call, after which Q holds too
  pub one_call : {T : Type 0} {call : Call} (old new : History) (result : Result T DeviceFault) → old.moment ≤ LAST → Q (disk_now old) → DiskCall call old new result → Q (disk_now new) → HoldsOnDisk old new Q
  one_call {T} {call} old new result bounded here did there = one_call_all (Stays (vehicle_now old) Q) call old new result
      (disk_later call old new result bounded did).is_later (record { vehicle = refl; disk = here }) did.passes (record { vehicle = did.vehicle; disk = there })

  -- one disk call more, after which Q holds
  pub goes_on : {T : Type 0} {call : Call} (old mid new : History) (result : Result T DeviceFault) → HoldsOnDisk old mid Q → mid.moment ≤ LAST → DiskCall call mid new result → Q (disk_now new) → HoldsOnDisk old new Q
  goes_on old mid new result so_far bounded did there =
      joins old mid new so_far (one_call mid new result bounded (at_end old mid so_far).disk did there)

  -- one disk call more, which leaves the disk
  pub stays : {T : Type 0} {call : Call} (old mid new : History) (result : Result T DeviceFault) → HoldsOnDisk old mid Q → mid.moment ≤ LAST → DiskCall call mid new result → disk_now new ≡ disk_now mid → HoldsOnDisk old new Q
  stays old mid new result so_far bounded did same =
      goes_on old mid new result so_far bounded did (subst Q (sym same) (at_end old mid so_far).disk)

-- what implies
pub weakens : (P Q : DiskState → Type 0) (old new : History) → ((d : DiskState) → P d → Q d) → HoldsOnDisk old new P → HoldsOnDisk old new Q
weakens P Q old new implies = weakens_all (Stays (vehicle_now old) P) (Stays (vehicle_now old) Q) old new
    (λ d v both. record { vehicle = both.vehicle; disk = implies d both.disk })
