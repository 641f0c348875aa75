-- How a link call begins and ends on the disk beside the vehicle.
use Rattle.std.specs.Prelude.{◌≡◌, ℕ, Bool, ◌&&◌, not, List}
use Rattle.shop_model.specs.History.{Call}
use Rattle.mem_disk.specs.Disks.{LinkPassed}
use Rattle.mem_disk.specs.declared.disk.MemDisk.{MemDisk}
use Rattle.bench_shop.specs.Faults.{is_listed}

-- it was counted; it may be made where it was recorded and is not listed
pub record LinkBegun (call : Call) (numbers : List ℕ) (may : Bool) (old new : MemDisk) : Type 0 where
  pub went : Bool
  pub passed : LinkPassed call went old new
  pub is : may ≡ went && not (is_listed numbers old.link_calls)
