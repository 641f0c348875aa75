-- What a link hands out, over a whole list of its steps.
use Rattle.std.specs.Prelude.{◌≡◌, ℕ, Bool, true, false, ◌||◌, ◌==◌, List, [], ◌∷◌, ◌++◌, if◌then◌else◌}
use Rattle.doip_frame.specs.Frame.{stream_of}
use Rattle.gateway_link.specs.Link.{heard_link}
use Rattle.gateway_link.specs.declared.calls.Came.{Came}
use Rattle.gateway_link.specs.declared.calls.Came.TheVariants.{Quiet, Piece, Lost}
use Rattle.link_state.specs.Laws.{looked, option_list}
use Rattle.run_model.specs.Link.{Link, is_known, first_message, take_message, dialed_link, asked_link, said_link, lost_or}
use Rattle.run_model.specs.Ways.{UnitMessage, messages_from, messages_in}

-- A step of a link: of dial, ask, say and send whether the call failed, of poll what its receive brought, of take for which unit.
pub data Step : Type 0 where
  Dials : Bool → Step
  Asks : Bool → Step
  Says : Bool → Step
  Sends : Bool → Step
  Polls : Came → Step
  Takes : ℕ → Step

abbrev pub is_dial : Step → Bool
is_dial (Dials lost) = true
is_dial (Asks lost) = false
is_dial (Says lost) = false
is_dial (Sends lost) = false
is_dial (Polls came) = false
is_dial (Takes a) = false

abbrev pub has_dial : List Step → Bool
has_dial [] = false
has_dial (s ∷ ss) = is_dial s || has_dial ss

module _ (tester : ℕ) (units : List ℕ) where
  abbrev pub step_link : Step → Link → Link
  step_link (Dials lost) l = dialed_link lost l
  step_link (Asks lost) l = asked_link lost l
  step_link (Says lost) l = said_link lost l
  step_link (Sends lost) l = lost_or lost l
  step_link (Polls came) l = heard_link tester units came l
  step_link (Takes a) l = take_message a l

  abbrev pub after : List Step → Link → Link
  after [] l = l
  after (s ∷ ss) l = after ss (step_link s l)

  -- the messages of a unit that a receive brought, of the frames that are looked at
  abbrev pub brought : ℕ → Came → Link → List UnitMessage
  brought a Quiet l = []
  brought a (Piece bytes) l =
      messages_in tester a (looked tester units (stream_of (l.rest ++ bytes)).frames l)
  brought a Lost l = []

  abbrev pub came_by : ℕ → Step → Link → List UnitMessage
  came_by a (Dials lost) l = []
  came_by a (Asks lost) l = []
  came_by a (Says lost) l = []
  came_by a (Sends lost) l = []
  came_by a (Polls came) l = brought a came l
  came_by a (Takes b) l = []

  abbrev pub came : ℕ → List Step → Link → List UnitMessage
  came a [] l = []
  came a (s ∷ ss) l = came_by a s l ++ came a ss (step_link s l)

  -- and those of them that were handed out
  abbrev pub handed_by : ℕ → Step → Link → List UnitMessage
  handed_by a (Dials lost) l = []
  handed_by a (Asks lost) l = []
  handed_by a (Says lost) l = []
  handed_by a (Sends lost) l = []
  handed_by a (Polls came) l = []
  handed_by a (Takes b) l = if b == a then option_list (first_message a l.inbox) else []

  abbrev pub handed : ℕ → List Step → Link → List UnitMessage
  handed a [] l = []
  handed a (s ∷ ss) l = handed_by a s l ++ handed a ss (step_link s l)

-- Since a dial, whatever the link was before it: what was handed out for a unit, and behind it what its inbox has, are the messages
-- that came for it since, in their order and each once.
pub record AreHanded : Type 0 where
  pub in_order : (tester : ℕ) (units : List ℕ) (a : ℕ) (lost : Bool) (before : Link) (steps : List Step)
      → is_known units a ≡ true → has_dial steps ≡ false
      → came tester units a steps (dialed_link lost before)
      ≡ handed tester units a steps (dialed_link lost before) ++ messages_from a
      (after tester units steps (dialed_link lost before)).inbox
