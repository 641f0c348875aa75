-- The ranges that the types of a vehicle's parts keep.
use Rattle.std.specs.Prelude.{ℕ, ◌<◌, ◌^◌, List, Option, Some, None}
use Rattle.hex.specs.Hex.{IsBytes}
use Rattle.flash_base.specs.Lists.{Each}
use Rattle.flash_base.specs.declared.unit.KeyRule.{KeyRule}
use Rattle.flash_base.specs.declared.unit.KeyRule.TheVariants.{Free, Xor, Digest}
use Rattle.unit_model.specs.declared.spec.Act.{Act}
use Rattle.unit_model.specs.declared.spec.Act.TheVariants.{Refuse, Odd, Fail, Mute, Delay, Busy, Pending}
use Rattle.unit_model.specs.declared.spec.PatchSpec.{PatchSpec}
use Rattle.unit_model.specs.declared.spec.RegionSpec.{RegionSpec}
use Rattle.unit_model.specs.declared.spec.TroubleSpec.{TroubleSpec}
use Rattle.unit_model.specs.declared.spec.UnitSpec.{UnitSpec}
use Rattle.unit_model.specs.declared.spec.Until.{Until}
use Rattle.unit_model.specs.declared.spec.Until.TheVariants.{Times, Heard}
use Rattle.unit_model.specs.declared.unit.Transfer.{Transfer}
use Rattle.gateway_sim.specs.declared.spec.GatewayTrouble.{GatewayTrouble}
use Rattle.gateway_sim.specs.declared.spec.GatewayTrouble.TheVariants.{Deny, Silent, Nack, Alive}
use Rattle.vehicle_file.specs.declared.vehicle.VehicleSpec.{VehicleSpec}

abbrev pub FitsRegion : RegionSpec → Type 0
FitsRegion r = (r.fill < 256) × (r.size < 2 ^ 64)

abbrev pub FitsPatch : PatchSpec → Type 0
FitsPatch p = IsBytes p.bytes

abbrev pub FitsRange : ℕ × ℕ → Type 0
FitsRange r = r.1 < 2 ^ 64

abbrev pub FitsIdent : ℕ × List ℕ → Type 0
FitsIdent i = (i.0 < 65536) × IsBytes i.1

abbrev pub FitsKey : KeyRule → Type 0
FitsKey Free = Unit {0}
FitsKey (Xor level mask) = IsBytes mask
FitsKey (Digest level size secret) = IsBytes secret × (size < 2 ^ 64)

abbrev pub FitsUntil : Until → Type 0
FitsUntil (Times times) = times < 2 ^ 64
FitsUntil (Heard unit sid) = (unit < 65536) × (sid < 256)

abbrev pub FitsAct : Act → Type 0
FitsAct (Refuse nrc) = nrc < 256
FitsAct (Odd bytes) = IsBytes bytes
FitsAct (Fail status) = status < 256
FitsAct Mute = Unit {0}
FitsAct (Delay ticks) = ticks < 2 ^ 32
FitsAct (Busy times) = times < 2 ^ 64
FitsAct (Pending ticks until) = (ticks < 2 ^ 32) × FitsUntil until

pub record FitsTrouble (t : TroubleSpec) : Type 0 where
  pub sid : t.sid < 256
  pub nth : t.nth < 2 ^ 32
  pub act : FitsAct t.act

abbrev pub FitsLast : Option ℕ → Type 0
FitsLast None = Unit {0}
FitsLast (Some n) = n < 2 ^ 64

pub record FitsOpen (t : Transfer) : Type 0 where
  pub rest : t.rest < 2 ^ 64
  pub counter : t.counter < 256
  pub last : FitsLast t.last

abbrev pub FitsTransfer : Option Transfer → Type 0
FitsTransfer None = Unit {0}
FitsTransfer (Some t) = FitsOpen t

abbrev pub FitsBytes : Option (List ℕ) → Type 0
FitsBytes None = Unit {0}
FitsBytes (Some bytes) = IsBytes bytes

pub record FitsLayout (u : UnitSpec) : Type 0 where
  pub address : u.address < 65536
  pub regions : Each FitsRegion u.regions
  pub bytes : Each FitsPatch u.bytes
  pub idents : Each FitsIdent u.idents

pub record FitsRules (u : UnitSpec) : Type 0 where
  pub key : FitsKey u.key
  pub seed : IsBytes u.seed
  pub block : u.block < 2 ^ 32
  pub check : u.check < 65536

pub record FitsPast (u : UnitSpec) : Type 0 where
  pub checked : Each FitsRange u.checked
  pub heard : u.heard < 2 ^ 64
  pub troubles : Each FitsTrouble u.troubles

pub record FitsState (u : UnitSpec) : Type 0 where
  pub last_seed : FitsBytes u.last_seed
  pub transfer : FitsTransfer u.transfer

pub record FitsUnit (u : UnitSpec) : Type 0 where
  pub layout : FitsLayout u
  pub rules : FitsRules u
  pub past : FitsPast u
  pub state : FitsState u

abbrev pub FitsGate : GatewayTrouble → Type 0
FitsGate (Deny nth code) = (nth < 2 ^ 32) × (code < 256)
FitsGate (Silent nth) = nth < 2 ^ 32
FitsGate (Nack unit nth code) = (unit < 65536) × (nth < 2 ^ 32) × (code < 256)
FitsGate (Alive tick) = tick < 2 ^ 64

pub record FitsVehicle (v : VehicleSpec) : Type 0 where
  pub entity : v.gateway.entity < 65536
  pub gateway : Each FitsGate v.gateway.gateway
  pub units : Each FitsUnit v.units
