-- A receive, as an event of a run tells it.
use Rattle.std.specs.Prelude.{◌≡◌, ℕ, ◌≤◌, Bool, List, length, take, Result, Ok, Err, IsTrue}
use Rattle.bay_core.specs.declared.event.Heard.{Heard}
use Rattle.bay_core.specs.declared.event.Heard.TheVariants as heard
use Rattle.disk_model.specs.declared.device.DeviceFault.{DeviceFault}
use Rattle.flash_base.specs.Counts.{Rises}
use Rattle.shop_model.specs.History.{History, LinkCall, Receive, Received, vehicle_now}
use Rattle.unit_model.specs.declared.reply.Got.{Got}
use Rattle.unit_model.specs.declared.reply.Got.TheVariants.{Quiet, Bytes}

-- what a receive is told as
abbrev pub HeardAs : List ℕ → Result Got DeviceFault → Heard → Type 0
HeardAs out (Ok Quiet) h = h ≡ heard.Quiet
HeardAs out (Ok (Bytes n)) h = (h ≡ heard.Piece (take n out)) × (1 ≤ n) × (n ≤ length out)
HeardAs out (Err e) h = h ≡ heard.Lost

-- one receive of at most 4,096 bytes
pub record HearsOnce (tells_vehicle : Bool) (old new : History) (h : Heard) : Type 0 where
  pub out : List ℕ
  pub room : length out ≤ 4096
  pub answer : Result Got DeviceFault
  pub says : HeardAs out answer h
  pub call : LinkCall Receive old new answer
  pub linked : new.linked ≡ old.linked
  pub vehicle : IsTrue tells_vehicle
      → Received out (¬ Rises old.link_faults new.link_faults) (vehicle_now old) (vehicle_now new) answer
