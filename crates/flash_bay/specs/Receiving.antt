-- What a bay promises of the calls that may receive: an answer that is looked for, and the link that is tended.
use Rattle.std.specs.Prelude.{◌≡◌, ◌≤◌, ◌⊎◌, ℕ, Bool, true, not, ◌&&◌, nat_lt, if◌then◌else◌}
use Rattle.bay_core.specs.Core.{Core}
use Rattle.bay_core.specs.declared.event.Event.TheVariants.{Tended}
use Rattle.bay_core.specs.declared.event.Heard.{Heard}
use Rattle.bay_core.specs.declared.event.Heard.TheVariants as heard
use Rattle.bay_core.specs.declared.event.Tend.{Tend}
use Rattle.bay_core.specs.declared.event.Tend.TheVariants.{Dialed, Asked, Said, Polled}
use Rattle.bay_law.specs.Device.{HearsOnce}
use Rattle.doip_frame.specs.Frame.{activate_bytes, alive_say_bytes}
use Rattle.flash_bay.specs.Calls.{Steps}
use Rattle.flash_bay.specs.State.{BayState}
use Rattle.flash_bay.specs.declared.answers.Tended as answer
use Rattle.flash_bay.specs.declared.answers.Tended.TheVariants as says
use Rattle.flash_plan.specs.declared.unit.LinkRules.{LinkRules}
use Rattle.flash_run.specs.Need.{is_linked}
use Rattle.flash_run.specs.Run.{RunState, core_of_run, is_stopped}
use Rattle.gateway_link.specs.Calls.{RedialsOnce, SendsOnce, StraysOnce}
use Rattle.gateway_link.specs.declared.calls.Came.{Came}
use Rattle.gateway_link.specs.declared.calls.Came.TheVariants as came
use Rattle.run_model.specs.Link.{Phase}
use Rattle.run_model.specs.Link as phase
use Rattle.shop_model.specs.History.{History}

-- ------ a receive
-- what it brought, as an event tells it
abbrev pub heard_of : Came → Heard
heard_of came.Quiet = heard.Quiet
heard_of (came.Piece bytes) = heard.Piece bytes
heard_of came.Lost = heard.Lost

-- ------ the link is tended
-- the run is not stopped, and the link is not up or owes an alive answer
abbrev pub is_tending : RunState → Bool
is_tending r = not (is_stopped r) && not (is_linked (core_of_run r))

-- the call of each step
abbrev pub LinkStep : Bool → LinkRules → Tend → History → History → Type 0
LinkStep tells_vehicle rules (Dialed lost) old new = RedialsOnce tells_vehicle old new lost
LinkStep tells_vehicle rules (Asked lost) old new =
    SendsOnce tells_vehicle (activate_bytes rules.tester) old new lost
LinkStep tells_vehicle rules (Said lost) old new =
    SendsOnce tells_vehicle (alive_say_bytes rules.tester) old new lost
LinkStep tells_vehicle rules (Polled h) old new = HearsOnce tells_vehicle old new h

-- of a link that was not lost
abbrev pub tended_at : Phase → answer.Tended
tended_at phase.Down = says.Going
tended_at phase.Dialed = says.Going
tended_at phase.Asked = says.Going
tended_at phase.Up = says.Up
tended_at (phase.Refused code) = says.Refused code

-- what a step has brought, where the link was lost so often before
abbrev pub tended_by : LinkRules → ℕ → Core → answer.Tended
tended_by rules before c =
    if nat_lt before c.link.losses then
    (if nat_lt rules.relinks c.link.losses then says.Spent c.link.losses else says.Lost)
    else tended_at c.link.phase

pub record Tends {S : Type 0} (tells_vehicle : Bool) (history : S → History) (old : BayState S)
    (said : answer.Tended) (new : BayState S) : Type 0 where
  pub step : Tend
  pub adds : Steps (Tended step) old new
  pub call : LinkStep tells_vehicle old.run.rules step (history old.shop) (history new.shop)
  pub answer : said ≡ tended_by new.run.rules (core_of_run old.run).link.losses (core_of_run new.run)

-- ------ want of memory in a call that may receive
-- No event was made and the bay is stopped; no call was made, or one receive. No room is given away.
pub record Starves {S : Type 0} (tells_vehicle : Bool) (history : S → History)
    (old new : BayState S) : Type 0 where
  pub run : new.run ≡ record old.run { starved = true; room = new.run.room }
  pub room : old.run.room ≤ new.run.room
  pub first : new.first ≡ old.first
  pub slots : new.slots ≡ old.slots
  pub call : (new.shop ≡ old.shop) ⊎ StraysOnce tells_vehicle (history old.shop) (history new.shop)
