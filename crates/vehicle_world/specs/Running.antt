-- What the parts of a feed do, with the relations of the vehicle model that they meet.
use Rattle.std.specs.Prelude.{◌≡◌, ◌⊎◌, ℕ, ◌≤◌, List, [], ◌∷◌, ◌++◌, take, Option, None, Some}
use Rattle.doip_frame.specs.declared.frame.Bad.{Bad}
use Rattle.doip_frame.specs.declared.frame.Frame.{Frame}
use Rattle.doip_frame.specs.declared.frame.Frame.TheVariants.{HeaderNack, Activate, Activated, AliveAsk, AliveSay, Message, Ack, Nack, Other}
use Rattle.std.specs.Prelude.{length}
use Rattle.unit_model.specs.Feed.{DueReply, Handles}
use Rattle.unit_model.specs.Step.{CanSend, UnitStep}
use Rattle.unit_model.specs.Vehicle.{Vehicle}
use Rattle.unit_model.specs.declared.reply.Due.{Due}
use Rattle.unit_model.specs.declared.reply.Due.TheVariants.{At, Held}
use Rattle.unit_model.specs.declared.reply.UnitReply.{UnitReply}
use Rattle.unit_sim.specs.Sims.{Sim, heard_by}
use Rattle.vehicle_world.specs.Feeding.{Ran, after, all_queued, frame_done, frames_done, hears}
use Rattle.gateway_sim.specs.Handling.{refusing}
use Rattle.vehicle_world.specs.States.{State, forgotten, sim_at, vehicle_in}

-- a reply that can be sent, and where it is held, with turns
abbrev pub HasTurns : Due → Type 0
HasTurns (At due) = Unit {0}
HasTurns (Held every unit sid) = 1 ≤ every

pub record IsReply (r : UnitReply) : Type 0 where
  pub sizes : CanSend r.body
  pub turns : HasTurns r.due

-- what a unit that is there does with a request
abbrev pub StepsIn : List ℕ → ℕ → Option Sim → Type 0
StepsIn body tick None = Unit {0}
StepsIn body tick (Some s) =
    UnitStep s.unit body tick (heard_by s body tick).waiting (after body tick s).unit

-- replies are put behind those that there are
pub record Adds (r : Ran) (before : List DueReply) (s : State) (after : List DueReply) : Type 0 where
  pub state : s ≡ r.0
  pub replies : after ≡ before ++ r.1

-- a message has user data
abbrev pub HasBody : Frame → Type 0
HasBody (Message source target body) = 1 ≤ length body
HasBody (Activate source kind oem) = Unit {0}
HasBody (HeaderNack code) = Unit {0}
HasBody (Activated tester entity code oem) = Unit {0}
HasBody AliveAsk = Unit {0}
HasBody (AliveSay source) = Unit {0}
HasBody (Ack source target code old) = Unit {0}
HasBody (Nack source target code old) = Unit {0}
HasBody (Other kind payload) = Unit {0}

-- frames were handled in order, and the replies of the units gathered
abbrev pub Runs : List Frame → Vehicle → Vehicle → List DueReply → Type 0
Runs [] old new out = (new ≡ old) × (out ≡ [])
Runs (f ∷ fs) old new out =
    (mid : Vehicle) × (first : List DueReply) × (second : List DueReply)
    × Handles f old mid first × Runs fs mid new second × (out ≡ first ++ second)

-- one frame was handled
abbrev pub Handled : Frame → State → Type 0
Handled f s = Handles f (vehicle_in s) (vehicle_in (frame_done f s).0) (frame_done f s).1

-- so many of the frames were handled, and these are the replies so far
pub record Went (fs : List Frame) (old now : State) (out : List DueReply) : Type 0 where
  pub state : now ≡ (frames_done fs old).0
  pub replies : out ≡ (frames_done fs old).1
  pub runs : Runs fs (vehicle_in old) (vehicle_in now) out

-- The first of the frames were handled, and what a new connection would leave is what it would leave then.
pub record WentPart (fs : List Frame) (old : State) (new : Vehicle) : Type 0 where
  pub count : ℕ
  pub now : State
  pub out : List DueReply
  pub went : Went (take count fs) old now out
  pub leaves : new ≡ forgotten now

-- one frame was handled or not
abbrev pub OneOrNone : Frame → State → Vehicle → Type 0
OneOrNone f old new = (new ≡ forgotten old) ⊎ ((new ≡ forgotten (frame_done f old).0) × Handled f old)

-- a request was heard or not
pub record Hearkened (unit : ℕ) (body : List ℕ) (old : State) (new : Vehicle) : Type 0 where
  pub step : StepsIn body old.gate.gateway.tick (sim_at unit old.sims)
  pub leaves : new ≡ forgotten (hears unit body (sim_at unit old.sims) old).0

abbrev pub HeardOrNot : ℕ → List ℕ → State → Vehicle → Type 0
HeardOrNot unit body old new = (new ≡ forgotten old) ⊎ Hearkened unit body old new

-- the frames were handled, a refused header was answered, and the replies were queued
pub record WentAll (fs : List Frame) (bad : Option Bad) (old new : State) : Type 0 where
  pub mid : State
  pub out : List DueReply
  pub went : Went fs old mid out
  pub becomes : new ≡ record mid { gate = all_queued out (refusing bad mid.gate) }
