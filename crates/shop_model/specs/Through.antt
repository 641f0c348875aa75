-- What holds at each moment of a part of a run.
use Rattle.std.specs.Prelude.{◌≡◌, ◌⊎◌, ◌+◌, ◌<◌, ◌≤◌, ℕ, List}
use Rattle.disk_model.specs.Disk.{DiskState}
use Rattle.unit_model.specs.Vehicle.{Vehicle}
use Rattle.unit_model.specs.Poll.{Ticks, IsShown, Misses}
use Rattle.shop_model.specs.History.{History, Call, Len, ReadAt, WriteAt, Sync, Send, Receive, Redial}

-- a receive was Quiet, failed, or brought bytes that are shown
abbrev pub IsShownReceive : Vehicle → Vehicle → Type 0
IsShownReceive old new = Ticks old new ⊎ Misses old new ⊎ ((piece : List ℕ) × IsShown piece old new)

-- where the call was a receive, it was shown
abbrev pub IsShownCall : Call → Vehicle → Vehicle → Type 0
IsShownCall Len old new = Unit {0}
IsShownCall (ReadAt at n) old new = Unit {0}
IsShownCall (WriteAt at bytes) old new = Unit {0}
IsShownCall Sync old new = Unit {0}
IsShownCall (Send bytes) old new = Unit {0}
IsShownCall Receive old new = IsShownReceive old new
IsShownCall Redial old new = Unit {0}

-- each receive from one moment to before another was shown
abbrev pub AreShown : History → ℕ → ℕ → Type 0
AreShown h from to = (m : ℕ) → from ≤ m → m < to
    → IsShownCall (h.call_at m) (h.vehicle_at m) (h.vehicle_at (m + 1))

-- what there was up to the old moment is what it was, and no count fell
pub record IsLater (old new : History) : Type 0 where
  pub later : old.moment ≤ new.moment
  pub disk_past : (m : ℕ) → m ≤ old.moment → new.disk_at m ≡ old.disk_at m
  pub vehicle_past : (m : ℕ) → m ≤ old.moment → new.vehicle_at m ≡ old.vehicle_at m
  pub calls_past : (m : ℕ) → m < old.moment → new.call_at m ≡ old.call_at m
  pub disk_faults : old.disk_faults ≤ new.disk_faults
  pub link_faults : old.link_faults ≤ new.link_faults
  pub link_calls : old.link_calls ≤ new.link_calls

-- Time went on, and P holds at each moment between, both included.
pub record HoldsThrough (old new : History) (P : DiskState → Vehicle → Type 0) : Type 0 where
  pub is_later : IsLater old new
  pub each : (m : ℕ) → old.moment ≤ m → m ≤ new.moment → P (new.disk_at m) (new.vehicle_at m)

-- Time went on, and P holds at each moment between up to which each receive was shown.
pub record HoldsWhileShown (old new : History) (P : DiskState → Vehicle → Type 0) : Type 0 where
  pub is_later : IsLater old new
  pub each : (m : ℕ) → old.moment ≤ m → m ≤ new.moment → AreShown new old.moment m
      → P (new.disk_at m) (new.vehicle_at m)
