-- What inboxes hold, in their own words.
use Rattle.std.specs.Prelude.{◌≡◌, ◌≢◌, ℕ, Bool, true, List, [], ◌∷◌, ◌++◌, Option, Some, None, if◌then◌else◌}
use Rattle.doip_frame.specs.Frame.{stream_of}
use Rattle.doip_frame.specs.declared.frame.Frame.{Frame}
use Rattle.run_model.specs.Link.{Link, is_known, is_open, see, hear_piece, polled_quiet, dialed_link, first_message, take_message}
use Rattle.run_model.specs.Ways.{UnitMessage, messages_from, messages_in}

-- the frames that are looked at: none behind a loss or a denied activation
abbrev pub looked : ℕ → List ℕ → List Frame → Link → List Frame
looked tester units [] l = []
looked tester units (f ∷ fs) l =
    if is_open l.phase then f ∷ looked tester units fs (see tester units f l) else []

abbrev pub option_list : Option UnitMessage → List UnitMessage
option_list None = []
option_list (Some w) = w ∷ []

-- A piece brings a unit the messages of its address among the frames looked at, behind those that were there. A message taken
-- is the oldest one of its unit, and is taken once. A new connection brings none of an old one.
pub record AreInboxLaws : Type 0 where
  pub piece : (tester : ℕ) (units bytes : List ℕ) (a : ℕ) (l : Link) → is_known units a ≡ true
      → messages_from a (hear_piece tester units bytes l).inbox
      ≡ messages_from a l.inbox ++ messages_in tester a
      (looked tester units (stream_of (l.rest ++ bytes)).frames l)
  pub taken : (a : ℕ) (l : Link) → messages_from a l.inbox ≡ option_list
      (first_message a l.inbox) ++ messages_from a (take_message a l).inbox
  pub others : (a b : ℕ) (l : Link) → b ≢ a
      → messages_from a (take_message b l).inbox ≡ messages_from a l.inbox
  pub quiet : (l : Link) → (polled_quiet l).inbox ≡ l.inbox
  pub dialed : (lost : Bool) (l : Link) → (dialed_link lost l).inbox ≡ []
