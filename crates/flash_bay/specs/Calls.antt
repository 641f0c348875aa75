-- What the calls of a bay promise: one event, in room that was taken, with or without a call of the shop.
use Rattle.std.specs.Prelude.{◌≡◌, ℕ, ◌≤◌, Bool, true, false, List, [], ◌∷◌, ◌++◌}
use Rattle.barrier_board.specs.declared.board.Claimed.{Claimed}
use Rattle.barrier_board.specs.declared.board.Claimed.TheVariants.{Unit as Took, Nothing}
use Rattle.bay_core.specs.Moves.{request_frame}
use Rattle.bay_core.specs.declared.event.Event.{Event}
use Rattle.bay_core.specs.declared.event.Event.TheVariants.{Claimed as Claimed_event, Sent}
use Rattle.flash_bay.specs.State.{BayState}
use Rattle.flash_bay.specs.declared.why.EndWhy.{EndWhy}
use Rattle.flash_bay.specs.declared.why.EndWhy.TheVariants.{Due, NoMemory}
use Rattle.flash_plan.specs.declared.outcome.Outcome.{Outcome}
use Rattle.flash_plan.specs.declared.outcome.Outcome.TheVariants as outcome
use Rattle.flash_run.specs.Need.{need_of, due_outcome}
use Rattle.flash_run.specs.Run.{RunState, core_of_run, may_take, with_event}
use Rattle.flash_run.specs.declared.need.Need.TheVariants as need
use Rattle.gateway_link.specs.Calls.{SendsOnce}
use Rattle.shop_model.specs.History.{History}

-- ------ what each call keeps
-- plan, rules, what was found, and the shop at the opening
pub record SameOpening {S : Type 0} (old new : BayState S) : Type 0 where
  pub plan : new.run.plan ≡ old.run.plan
  pub rules : new.run.rules ≡ old.run.rules
  pub found : new.run.found ≡ old.run.found
  pub first : new.first ≡ old.first

-- the old events, and these behind them; no room is given away
pub record Adds {S : Type 0} (es : List Event) (old new : BayState S) : Type 0 where
  pub opening : SameOpening old new
  pub events : new.run.events ≡ old.run.events ++ es
  pub starved : new.run.starved ≡ old.run.starved
  pub room : old.run.room ≤ new.run.room

-- one event that may come, and no record
pub record Steps {S : Type 0} (e : Event) (old new : BayState S) : Type 0 where
  pub adds : Adds (e ∷ []) old new
  pub allowed : may_take old.run e ≡ true
  pub slots : new.slots ≡ old.slots

-- the opening is the same, and the old events are the first ones
pub record Grows {S : Type 0} (old new : BayState S) : Type 0 where
  pub opening : SameOpening old new
  pub more : List Event
  pub events : new.run.events ≡ old.run.events ++ more

-- ------ one event, no call of the shop
abbrev pub takes : {S : Type 0} → Event → BayState S → BayState S
takes e b = record b { run = with_event e b.run }

-- the lowest unit that is ready was taken up, or there is none, or the run is stopped
abbrev pub Claims : {S : Type 0} → BayState S → Claimed → BayState S → Type 0
Claims old (Took u) new = (may_take old.run (Claimed_event u) ≡ true) × (new ≡ takes (Claimed_event u) old)
Claims old Nothing new = (new ≡ old) × ((u : ℕ) → may_take old.run (Claimed_event u) ≡ false)

-- the unit may be ended so
abbrev pub MayEnd : RunState → ℕ → EndWhy → Type 0
MayEnd r u Due = need_of r u ≡ need.End
MayEnd r u NoMemory = need_of r u ≡ need.Gone → ⊥

abbrev pub ended_as : RunState → ℕ → EndWhy → Outcome
ended_as r u Due = due_outcome r u
ended_as r u NoMemory = outcome.NoMemory

-- ------ one event, one call of the link
-- the unit's next request was sent, or that failed
pub record SendsRequest {S : Type 0} (tells_vehicle : Bool) (history : S → History) (u : ℕ) (old : BayState S)
    (lost : Bool) (new : BayState S) : Type 0 where
  pub step : Steps (Sent u ((core_of_run old.run).slots u).talk.number lost) old new
  pub call : SendsOnce tells_vehicle (request_frame old.run.rules old.run.plan (core_of_run old.run) u)
      (history old.shop) (history new.shop) lost
