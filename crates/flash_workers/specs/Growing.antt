-- What steps and workers promise of a bay: it goes on, and is closed at its end.
use Rattle.std.specs.Prelude.{◌≡◌, ◌<◌, Bool, true, false, List, ◌++◌, length}
use Rattle.barrier_board.specs.declared.post.Post.{Post}
use Rattle.bay_core.specs.declared.event.Event.{Event}
use Rattle.bay_core.specs.declared.event.Log.{Log}
use Rattle.bay_law.specs.Closed.{Says}
use Rattle.bay_replay.specs.Held.{IsBoardOf}
use Rattle.flash_bay.specs.Calls.{Grows}
use Rattle.flash_bay.specs.State.{BayState}
use Rattle.flash_run.specs.Ending.{AllEnded}
use Rattle.flash_run.specs.Run.{RunState, IsKept, core_of_run, log_of}
use Rattle.flash_run.specs.declared.need.Need.{Need}
use Rattle.flash_run.specs.declared.need.Need.TheVariants as need
use Rattle.shop_model.specs.History.{History}

-- the opening is the same, and events were added
pub record Goes {S : Type 0} (old new : BayState S) : Type 0 where
  pub grows : Grows old new
  pub longer : length old.run.events < length new.run.events

-- no call is due
abbrev pub is_gone : Need → Bool
is_gone need.Gone = true
is_gone n = false

-- a run of the same plan, rules and entries found, with the same events first
pub record IsContinued (old new : RunState) : Type 0 where
  pub plan : new.plan ≡ old.plan
  pub rules : new.rules ≡ old.rules
  pub found : new.found ≡ old.found
  pub more : List Event
  pub events : new.events ≡ old.events ++ more

-- The run of the bay went on until each unit had its outcome. The board has these, and of them all is said
-- that a bay says, from the shop at its opening to the shop that is handed out.
pub record IsWorked {S : Type 0} (tells_disk tells_vehicle : Bool) (history : S → History) (bay : BayState S)
    (shop : S) (posts : List Post) : Type 0 where
  pub run : RunState
  pub continued : IsContinued bay.run run
  pub ended : AllEnded run
  pub board : IsBoardOf bay.run.plan (core_of_run run) posts
  pub kept : IsKept run
  pub says : Says tells_disk tells_vehicle run (history bay.first) (history shop)

-- the same, and the log is that of the run that was closed
pub record IsWorkedLogged {S : Type 0} (tells_disk tells_vehicle : Bool) (history : S → History)
    (bay : BayState S) (shop : S) (posts : List Post) (log : Log) : Type 0 where
  pub worked : IsWorked tells_disk tells_vehicle history bay shop posts
  pub log_is : log ≡ log_of worked.run
