-- What a running unit stands for, and what a unit is made of.
use Rattle.std.specs.Prelude.{◌≡◌, [], IsTrue, Option, None, Some}
use Rattle.flash_base.specs.ByteMaps.{MemoryMap}
use Rattle.unit_model.specs.declared.unit.Unit.{Unit as RunningUnit}
use Rattle.unit_model.specs.declared.unit.Transfer.{Transfer}
use Rattle.unit_model.specs.declared.spec.UnitSpec.{UnitSpec}
use Rattle.unit_model.specs.Unit.{ControlUnit, OpenTransfer, Counts}
use Rattle.unit_model.specs.Regions.{filled, patched}
use Rattle.unit_model.specs.RegionTests.{all_apart, spec_extents}
use Rattle.unit_model.specs.Idents.{all_short}
use Rattle.unit_model.specs.Rules.{is_kind, is_seed, is_rule, all_ranges, transfer_in, all_inside}
use Rattle.unit_model.specs.Troubles.{all_troubles}

-- no trouble so far
abbrev pub calm : Counts
calm = record {
  refused = λ code. 0;
  odd = 0;
  failed = 0;
  muted = 0;
  late = 0;
  stalled = 0;
  busy = 0;
  nacked = λ code. 0;
}

abbrev pub open_of : Option Transfer → Option OpenTransfer
open_of None = None
open_of (Some t) = Some (record { up = t.up; at = t.at; rest = t.rest; counter = t.counter; last = t.last })

-- the control unit that a running unit is; one that obeys has no trouble
abbrev pub control_unit : RunningUnit → ControlUnit
control_unit u = record {
  address = u.address;
  session = u.session;
  unlocked = u.unlocked;
  seed = u.seed;
  last_seed = u.last_seed;
  memory = u.memory;
  transfer = open_of u.transfer;
  checked = u.checked.items;
  passed = u.passed;
  heard = u.heard;
  dtc_off = u.dtc_off;
  messages_off = u.messages_off;
  woken = u.woken;
  idents = u.idents;
  key = u.key;
  block = u.block;
  check = u.check;
  counts = calm;
}

-- the memory of a spec
abbrev pub memory_in : UnitSpec → MemoryMap
memory_in spec = patched spec.bytes (filled spec.regions)

-- what a unit may be made of
pub record IsUnitSpec (spec : UnitSpec) : Type 0 where
  pub regions : IsTrue (all_apart (spec_extents spec.regions))
  pub bytes : IsTrue (all_inside (filled spec.regions) spec.bytes)
  pub idents : IsTrue (all_short spec.idents)
  pub seed : IsTrue (is_seed spec.seed)
  pub key : IsTrue (is_rule spec.key)
  pub checked : IsTrue (all_ranges spec.checked)
  pub kind : IsTrue (is_kind spec.kind)
  pub transfer : IsTrue (transfer_in (filled spec.regions) spec.transfer)
  pub troubles : IsTrue (all_troubles spec.troubles)

-- the unit of a spec, which had no trouble and was not woken so far
abbrev pub unit_of : UnitSpec → ControlUnit
unit_of spec = record {
  address = spec.address;
  session = spec.kind;
  unlocked = spec.unlocked;
  seed = spec.seed;
  last_seed = spec.last_seed;
  memory = memory_in spec;
  transfer = open_of spec.transfer;
  checked = spec.checked;
  passed = spec.passed;
  heard = spec.heard;
  dtc_off = spec.dtc_off;
  messages_off = spec.messages_off;
  woken = 0;
  idents = spec.idents;
  key = spec.key;
  block = spec.block;
  check = spec.check;
  counts = calm;
}

-- the spec of a unit, with no trouble
pub record IsSpecOf (u : RunningUnit) (spec : UnitSpec) : Type 0 where
  pub is : IsUnitSpec spec
  pub unit : unit_of spec ≡ record (control_unit u) { woken = 0 }
  pub untroubled : spec.troubles ≡ []
