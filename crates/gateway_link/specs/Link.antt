-- What each step of a link makes of it, and answers.
use Rattle.std.specs.Prelude.{◌≡◌, ◌⊎◌, ℕ, Bool, true, false, ◌&&◌, ◌||◌, not, is_some, List, [], ◌∷◌, ◌++◌, Some, None}
use Rattle.doip_frame.specs.Frame.{stream_of}
use Rattle.doip_frame.specs.declared.frame.Frame.{Frame}
use Rattle.doip_frame.specs.declared.frame.Frame.TheVariants.{HeaderNack}
use Rattle.gateway_link.specs.Calls.{RedialsOnce, SendsOnce, ReceivesOnce, StraysOnce}
use Rattle.gateway_link.specs.declared.calls.Came.{Came}
use Rattle.gateway_link.specs.declared.calls.Came.TheVariants.{Quiet, Piece, Lost}
use Rattle.gateway_link.specs.declared.link.Polled.{Polled}
use Rattle.gateway_link.specs.declared.link.Polled.TheVariants as polled
use Rattle.link_state.specs.Laws.{looked}
use Rattle.link_state.specs.State.{Shows, SameLabels, tester_of, units_of, emptied_link}
use Rattle.link_state.specs.declared.state.LinkState.{LinkState}
use Rattle.run_model.specs.Link.{Link, is_open, see_all, hear_piece, drop_link, polled_quiet, quiet_link, unanswered, dialed_link}
use Rattle.shop_model.specs.History.{History}

-- ------ what a receive makes of the link
abbrev pub heard_link : ℕ → List ℕ → Came → Link → Link
heard_link tester units Quiet l = polled_quiet l
heard_link tester units (Piece bytes) l = hear_piece tester units bytes l
heard_link tester units Lost l = drop_link l

-- the gateway refused a header
abbrev pub refuses_header : List Frame → Bool
refuses_header [] = false
refuses_header (HeaderNack code ∷ fs) = true
refuses_header (f ∷ fs) = refuses_header fs

-- the link before the frames of a piece are looked at
abbrev pub with_piece : List ℕ → Link → Link
with_piece bytes l = record l { got = l.got ++ bytes; rest = (stream_of (l.rest ++ bytes)).rest }

-- These bytes end the connection: among the frames that are looked at the gateway refuses a header, or there stands something that
-- is no frame, and the activation was not denied before it.
abbrev pub breaks : ℕ → List ℕ → List ℕ → Link → Bool
breaks tester units bytes l =
    refuses_header (looked tester units (stream_of (l.rest ++ bytes)).frames (with_piece bytes l))
    || (is_some (stream_of (l.rest ++ bytes)).bad
    && is_open (see_all tester units (stream_of (l.rest ++ bytes)).frames (with_piece bytes l)).phase)

-- the link is lost: the call failed, its bytes end the connection, or the activation is unanswered after 1,000 ticks
abbrev pub is_lost_by : ℕ → List ℕ → Came → Link → Bool
is_lost_by tester units Quiet l = unanswered (quiet_link l)
is_lost_by tester units (Piece bytes) l = breaks tester units bytes l
is_lost_by tester units Lost l = true

abbrev pub polled_as : Came → Bool → Polled
polled_as Quiet false = polled.Quiet
polled_as Quiet true = polled.Lost None
polled_as (Piece bytes) false = polled.Bytes bytes
polled_as (Piece bytes) true = polled.Lost (Some bytes)
polled_as Lost lost = polled.Lost None

-- ------ the steps
-- The connection was made new. Where that failed, the link is lost.
pub record Dials (tells_vehicle : Bool) (old new : History) (before after : LinkState)
    (ok : Bool) : Type 0 where
  pub call : RedialsOnce tells_vehicle old new (not ok)
  pub shows : (l : Link) → Shows before l → Shows after (dialed_link (not ok) l)
  pub labels : SameLabels before after

-- A frame was sent. Where that failed, the link is lost.
pub record Sends (tells_vehicle : Bool) (frame : List ℕ) (then_link : Bool → Link → Link) (old new : History)
    (before after : LinkState) (ok : Bool) : Type 0 where
  pub call : SendsOnce tells_vehicle frame old new (not ok)
  pub shows : (l : Link) → Shows before l → Shows after (then_link (not ok) l)
  pub labels : SameLabels before after

-- what a receive brought, and what it makes of the link
pub record Hears (came : Came) (before after : LinkState) (result : Polled) : Type 0 where
  pub shows : (l : Link) → Shows before l
      → Shows after (heard_link (tester_of before) (units_of before) came l)
  pub says : (l : Link) → Shows before l
      → result ≡ polled_as came (is_lost_by (tester_of before) (units_of before) came l)

-- A receive was made, and the link is what it makes of it.
pub record Polls (tells_vehicle : Bool) (old new : History) (before after : LinkState)
    (result : Polled) : Type 0 where
  pub came : Came
  pub call : ReceivesOnce tells_vehicle old new came
  pub hears : Hears came before after result
  pub labels : SameLabels before after

-- A receive was made, and there was no memory for what it brought, or for what that brings the units. Phase, ticks and losses stay.
pub record Starves (tells_vehicle : Bool) (old new : History) (before after : LinkState) : Type 0 where
  pub call : StraysOnce tells_vehicle old new ⊎ ((came : Came) × ReceivesOnce tells_vehicle old new came)
  pub shows : (l : Link) → Shows before l → Shows after l ⊎ Shows after (emptied_link l)
  pub labels : SameLabels before after
