-- A request that is made before it is sent.
use Rattle.std.specs.Prelude.{◌≡◌, ℕ, ◌≤◌, List, length}
use Rattle.doip_frame.specs.Frame.{message_bytes}
use Rattle.flash_plan.specs.Plan.{IsAcceptedUnit}
use Rattle.flash_plan.specs.declared.unit.UnitPlan.{UnitPlan}
use Rattle.unit_session.specs.Spots.{IsAsking, request_by}
use Rattle.unit_session.specs.declared.spot.Spot.{Spot}

-- for which tester and unit it was made, and for which spot of its conversation
pub record ReadyState : Type 0 where
  pub tester : ℕ
  pub number : ℕ
  pub unit : UnitPlan
  pub spot : Spot

-- the diagnostic message of the request (ISO 13400-2, payload type 0x8001)
abbrev pub ready_bytes : ReadyState → List ℕ
ready_bytes r = message_bytes r.tester r.unit.address (request_by r.unit r.spot)

-- what its type keeps: the bytes are that message
pub record IsReady (r : ReadyState) (bytes : List ℕ) : Type 0 where
  pub accepted : IsAcceptedUnit r.unit
  pub asks : IsAsking r.unit r.spot
  pub is : bytes ≡ ready_bytes r
  pub some : 1 ≤ length bytes
  pub few : length bytes ≤ 65600
