-- What the end of a bay keeps, and what it answers.
use Rattle.std.proofs.Common.{◌≡◌, ℕ, true, List, [], ◌∷◌, sym, subst}
use Rattle.std.specs.Prelude.{Bool}
use Rattle.std.proofs.lemmas.Bool.{false≢true}
use Rattle.barrier_board.specs.declared.post.Post.{Post}
use Rattle.bay_core.specs.declared.event.Event.{Event}
use Rattle.bay_core.specs.declared.event.Event.TheVariants.{Claimed, Began, Sent, Collected, Tended, Marked, Completed, DiskFailed, Ended}
use Rattle.bay_core.specs.declared.event.Log.{Log}
use Rattle.bay_law.proofs.Closing.{says}
use Rattle.bay_law.proofs.Quiet.{quiet_keeps, ended_quiet}
use Rattle.bay_replay.specs.Held.{IsBoardOf}
use Rattle.flash_bay.specs.Closing.{Closes, ClosesLogged, NoneClaimed, NoneOpen}
use Rattle.flash_bay.specs.State.{BayState, IsBayOf, state_of}
use Rattle.flash_journal.specs.Kept.{IsKeptOn}
use Rattle.flash_journal.specs.declared.journal.Journal.{Journal}
use Rattle.flash_run.proofs.Ends.{none_ready}
use Rattle.flash_run.specs.Ending.{AllEnded, Finishes, IsOver, are_ends}
use Rattle.flash_run.specs.Group.{takes_all}
use Rattle.flash_run.specs.Run.{RunState, IsKept, core_of_run, log_of, with_event}
use Rattle.shop_model.specs.History.{History}

-- ------ before the end
pub over_in : {S : Type 0} (b : BayState S) (r : RunState) (first shop : S) (a : ℕ) → ◌≡◌ {A = BayState S} (record { run = r; first = first; shop = shop; slots = a }) b → NoneOpen b.run → NoneClaimed b.run → IsOver r
over_in {S = S} b r first shop a view open_none claimed_none =
    subst (λ (x : BayState S). IsOver x.run) (sym view) (record { closed = open_none; idle = none_ready b.run claimed_none })

-- ------ ends alone
module _ (td tv : Bool) (first now : History) (j : Journal) where
  ends_keep : (es : List Event) (r : RunState) → are_ends es ≡ true → IsBayOf td tv r first now j → IsBayOf td tv (takes_all es r) first now j
  ends_keep [] r are is = is
  ends_keep (Ended u o ∷ es) r are is = ends_keep es (with_event (Ended u o) r) are (quiet_keeps td tv r (Ended u o) first now (state_of j) (IsKeptOn j) (ended_quiet r.rules r.plan u o) is)
  ends_keep (Claimed u ∷ es) r are is = absurd (false≢true are)
  ends_keep (Began u ∷ es) r are is = absurd (false≢true are)
  ends_keep (Sent u place lost ∷ es) r are is = absurd (false≢true are)
  ends_keep (Collected u heard ∷ es) r are is = absurd (false≢true are)
  ends_keep (Tended step ∷ es) r are is = absurd (false≢true are)
  ends_keep (Marked u s ∷ es) r are is = absurd (false≢true are)
  ends_keep (Completed u ∷ es) r are is = absurd (false≢true are)
  ends_keep (DiskFailed u e ∷ es) r are is = absurd (false≢true are)

-- ------ what it answers
pub closes : {S : Type 0} (td tv : Bool) (history : S → History) (b : BayState S) (r r2 : RunState) (first shop : S) (a : ℕ) (j : Journal) (board : List Post) (log : Log) → ◌≡◌ {A = BayState S} (record { run = r; first = first; shop = shop; slots = a }) b
    → Finishes r r2 → AllEnded r2 → IsKept r2 → IsBoardOf r2.plan (core_of_run r2) board → log ≡ log_of r2 → IsBayOf td tv r (history first) (history shop) j → ClosesLogged td tv history b shop board log
closes {S = S} td tv history b r r2 first shop a j board log view did all kept posts logged is =
    let base : IsBayOf td tv (takes_all did.events r) (history first) (history shop) j = ends_keep td tv (history first) (history shop) j did.events r did.are is in
    let here : IsBayOf td tv r2 (history first) (history shop) j = subst (λ (x : RunState). IsBayOf td tv x (history first) (history shop) j) (sym did.becomes) base in
    let last : Closes td tv history (record { run = r; first = first; shop = shop; slots = a }) shop board = record {
      run = r2;
      finishes = did;
      ended = all;
      shop_is = λ i. shop;
      board_is = posts;
      kept = kept;
      says = says td tv r2 (history first) (history shop) (state_of j) (IsKeptOn j) kept here;
    } in
    let whole : ClosesLogged td tv history (record { run = r; first = first; shop = shop; slots = a }) shop board log = record { closes = last; log_is = logged } in
    subst (λ (x : BayState S). ClosesLogged td tv history x shop board log) view whole
