-- What the end of a bay promises.
use Rattle.std.specs.Prelude.{◌≡◌, ℕ, Bool, false, List}
use Rattle.barrier_board.specs.declared.post.Post.{Post}
use Rattle.bay_core.specs.declared.event.Event.TheVariants.{Claimed}
use Rattle.bay_core.specs.declared.event.Log.{Log}
use Rattle.bay_law.specs.Closed.{Says}
use Rattle.bay_replay.specs.Held.{IsBoardOf}
use Rattle.flash_bay.specs.State.{BayState}
use Rattle.flash_run.specs.Ending.{AllEnded, Finishes}
use Rattle.flash_run.specs.Run.{RunState, IsKept, core_of_run, is_open, log_of, may_take}
use Rattle.shop_model.specs.History.{History}

-- no unit is open
abbrev pub NoneOpen : RunState → Type 0
NoneOpen r = (n : ℕ) → is_open r n ≡ false

-- no unit may be taken up
abbrev pub NoneClaimed : RunState → Type 0
NoneClaimed r = (n : ℕ) → may_take r (Claimed n) ≡ false

-- Each unit without outcome got what was left for it, by an event and with no call of the shop. The board has the outcomes of the
-- last run, of which all is said that a bay says.
pub record Closes {S : Type 0} (tells_disk tells_vehicle : Bool) (history : S → History) (old : BayState S)
    (shop : S) (board : List Post) : Type 0 where
  pub run : RunState
  pub finishes : Finishes old.run run
  pub ended : AllEnded run
  pub shop_is : shop ≡ old.shop
  pub board_is : IsBoardOf run.plan (core_of_run run) board
  pub kept : IsKept run
  pub says : Says tells_disk tells_vehicle run (history old.first) (history shop)

-- the same, with the log of that last run
pub record ClosesLogged {S : Type 0} (tells_disk tells_vehicle : Bool) (history : S → History)
    (old : BayState S) (shop : S) (board : List Post) (log : Log) : Type 0 where
  pub closes : Closes tells_disk tells_vehicle history old shop board
  pub log_is : log ≡ log_of closes.run
