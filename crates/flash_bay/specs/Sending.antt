-- What a bay promises of a request that was made before it is sent.
use Rattle.std.specs.Prelude.{◌≡◌, ◌≢◌, ℕ, Bool, true, false}
use Rattle.flash_bay.specs.Calls.{SendsRequest}
use Rattle.flash_bay.specs.State.{BayState}
use Rattle.flash_bay.specs.declared.sending.SentReady as answer
use Rattle.flash_bay.specs.declared.sending.SentReady.TheVariants.{Sent, Lost, Stale}
use Rattle.flash_plan.specs.Plan.{plan_of}
use Rattle.flash_run.specs.Run.{RunState, core_of_run}
use Rattle.shop_model.specs.History.{History}
use Rattle.unit_session.specs.Prepared.{ReadyState}
use Rattle.unit_session.specs.Spots.{spot_of}
use Rattle.unit_session.specs.declared.spot.Spot.{Spot}

-- where the conversation of a unit stands
abbrev pub spot_in : RunState → ℕ → Spot
spot_in r u = spot_of (plan_of r.plan u) ((core_of_run r).slots u).talk.place

-- it was made for this unit of the run, and for its tester
pub record IsReadyFor (r : RunState) (u : ℕ) (ready : ReadyState) : Type 0 where
  pub tester : ready.tester ≡ r.rules.tester
  pub number : ready.number ≡ u
  pub unit : ready.unit ≡ plan_of r.plan u

-- It was sent in one call, or that failed; or the unit stands elsewhere than it was made for, and nothing was called.
abbrev pub SendsReady : {S : Type 0} → Bool → (S → History) → ℕ → ReadyState → BayState S → answer.SentReady
    → BayState S → Type 0
SendsReady tells_vehicle history u ready old Sent new = (ready.spot ≡ spot_in old.run u)
    × SendsRequest tells_vehicle history u old false new
SendsReady tells_vehicle history u ready old Lost new = (ready.spot ≡ spot_in old.run u)
    × SendsRequest tells_vehicle history u old true new
SendsReady tells_vehicle history u ready old Stale new = (ready.spot ≢ spot_in old.run u) × (new ≡ old)

abbrev pub sent_as : Bool → answer.SentReady
sent_as true = Lost
sent_as false = Sent
