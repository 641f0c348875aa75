-- The range at the beginning of an option, and where it ends.
use Rattle.std.specs.Prelude.{◌≡◌, ℕ, ◌+◌, ◌<◌, ◌≤◌, ◌^◌, List, length, drop, Some}
use Rattle.flash_base.specs.declared.unit.Width.{Width}
use Rattle.uds_codec.specs.Request.{range_of}

pub record IsPlace (option : List ℕ) (at size end : ℕ) : Type 0 where
  pub width : Width
  pub is : range_of option ≡ Some (record { width = width; at = at; size = size; more = drop end option })
  pub within : end ≤ length option
  pub fits : at + size < 2 ^ 64
