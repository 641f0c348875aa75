-- The frames that there are.
use Rattle.std.specs.Prelude.{◌≡◌, ℕ, ◌≤◌, Bool, false, ◌||◌, ◌==◌, length}
use Rattle.doip_frame.specs.declared.frame.Frame.{Frame}
use Rattle.doip_frame.specs.declared.frame.Frame.TheVariants.{HeaderNack, Activate, Activated, AliveAsk, AliveSay, Message, Ack, Nack, Other}
use Rattle.doip_frame.specs.Frame.{payload_of}

-- the kinds of the table
abbrev pub is_known : ℕ → Bool
is_known kind = kind == 0 || kind == 5 || kind == 6 || kind == 7 || kind == 8 || kind == 32769
    || kind == 32770 || kind == 32771

-- a message has user data; another kind is none of the table's
abbrev pub HasForm : Frame → Type 0
HasForm (HeaderNack code) = Unit {0}
HasForm (Activate source kind oem) = Unit {0}
HasForm (Activated tester entity code oem) = Unit {0}
HasForm AliveAsk = Unit {0}
HasForm (AliveSay source) = Unit {0}
HasForm (Message source target body) = 1 ≤ length body
HasForm (Ack source target code old) = Unit {0}
HasForm (Nack source target code old) = Unit {0}
HasForm (Other kind payload) = is_known kind ≡ false

-- a frame that has bytes
pub record IsFrame (f : Frame) : Type 0 where
  pub form : HasForm f
  pub few : length (payload_of f) ≤ 65600
