-- One call of a shop's link, and what it answered.
use Rattle.std.specs.Prelude.{◌≡◌, ◌↔◌, ℕ, ◌<◌, ◌≤◌, Bool, List, Result, Ok, Err, IsTrue, IsOk, is_err, take, length}
use Rattle.disk_model.specs.declared.device.DeviceFault.{DeviceFault}
use Rattle.flash_base.specs.Counts.{Rises}
use Rattle.gateway_link.specs.declared.calls.Came.{Came}
use Rattle.gateway_link.specs.declared.calls.Came.TheVariants as came
use Rattle.shop_model.specs.History.{History, LAST, LinkCall, Redial, Redialed, Send, Receive, Sent, Received, vehicle_now}
use Rattle.unit_model.specs.declared.reply.Got.{Got}
use Rattle.unit_model.specs.declared.reply.Got.TheVariants.{Quiet, Bytes}

-- the connection was made new, or that failed
pub record RedialsOnce (tells_vehicle : Bool) (old new : History) (lost : Bool) : Type 0 where
  pub answer : Result Unit DeviceFault
  pub says : lost ≡ is_err answer
  pub call : LinkCall Redial old new answer
  pub linked : old.moment < LAST → IsTrue new.linked ↔ IsOk answer
  pub last : old.moment ≡ LAST → new.linked ≡ old.linked
  pub vehicle : IsTrue tells_vehicle → Redialed (vehicle_now old) (vehicle_now new) answer

-- a frame was sent, or that failed
pub record SendsOnce (tells_vehicle : Bool) (frame : List ℕ) (old new : History) (lost : Bool) : Type 0 where
  pub answer : Result Unit DeviceFault
  pub says : lost ≡ is_err answer
  pub call : LinkCall (Send frame) old new answer
  pub linked : new.linked ≡ old.linked
  pub vehicle : IsTrue tells_vehicle → Sent frame (vehicle_now old) (vehicle_now new) answer

-- what the answer of a receive into these bytes is told as
abbrev pub CameAs : List ℕ → Result Got DeviceFault → Came → Type 0
CameAs out (Ok Quiet) c = c ≡ came.Quiet
CameAs out (Ok (Bytes n)) c = (c ≡ came.Piece (take n out)) × (1 ≤ n) × (n ≤ length out)
CameAs out (Err e) c = c ≡ came.Lost

pub record ReceivesOnce (tells_vehicle : Bool) (old new : History) (c : Came) : Type 0 where
  pub out : List ℕ
  pub answer : Result Got DeviceFault
  pub says : CameAs out answer c
  pub size : length out ≡ 4096
  pub call : LinkCall Receive old new answer
  pub linked : new.linked ≡ old.linked
  pub vehicle : IsTrue tells_vehicle
      → Received out (¬ Rises old.link_faults new.link_faults) (vehicle_now old) (vehicle_now new) answer

-- a receive brought bytes for which there was no memory
pub record StraysOnce (tells_vehicle : Bool) (old new : History) : Type 0 where
  pub out : List ℕ
  pub size : ℕ
  pub answer : Result Got DeviceFault
  pub says : answer ≡ Ok (Bytes size)
  pub call : LinkCall Receive old new answer
  pub linked : new.linked ≡ old.linked
  pub vehicle : IsTrue tells_vehicle
      → Received out (¬ Rises old.link_faults new.link_faults) (vehicle_now old) (vehicle_now new) answer

-- these are the bytes of a frame, as many as one send takes
pub record Spells (frame bytes : List ℕ) : Type 0 where
  pub are : bytes ≡ frame
  pub some : 1 ≤ length frame
  pub few : length frame ≤ 65600
